-- What a sink holds after several puts, and when its count has risen.
use Rattle.std.proofs.Common.{◌≡◌, ℕ, ◌+◌, ◌<◌, ◌≤◌, List, [], ◌++◌, length, get_or, take, drop, Option, Some, None, refl, sym, ap, ◌∙◌, append_assoc, arith}
use Rattle.std.specs.List.{flat_map}
use Rattle.std.specs.Option.{option_map}
use Rattle.std.proofs.lemmas.List.{append-nil}
use Rattle.ov_base.proofs.Printing.{flat_map_parts}
use Rattle.ov_io.specs.Causes.{Rose, Wrote, WroteFront}

-- a count that rose from a later one rose from an earlier one
pub rose_from : (before mid now : ℕ) → before ≤ mid → Rose mid now → Rose before now
rose_from before mid now later rose = omega arith

-- nothing was put
pub wrote_nothing : (old : Option (List ℕ)) → Wrote old old []
wrote_nothing None = refl
wrote_nothing (Some written) = ap (λ (t : List ℕ). Some t) (sym (append-nil written))

-- nothing was put of a text
pub wrote_none : (old : Option (List ℕ)) (text : List ℕ) → WroteFront old old text
wrote_none old text = ([], text, refl, wrote_nothing old)

-- two texts were put, one behind the other
pub wrote_both : (old mid new : Option (List ℕ)) (a b : List ℕ) → Wrote old mid a → Wrote mid new b → Wrote old new (a ++ b)
wrote_both None mid new a b h k = k ∙ ap (option_map (λ written. written ++ b)) h
wrote_both (Some written) mid new a b h k = k ∙ ap (option_map (λ w. w ++ b)) h ∙ ap (λ (t : List ℕ). Some t) (append_assoc written a b)

-- the texts of a prefix of the items were put, and a prefix of that of the next item, x
pub wrote_inside : {A : Type 0} (f : A → List ℕ) (xs : List A) (i : ℕ) (x : A) (old mid new : Option (List ℕ)) → i < length xs → x ≡ get_or xs i x
    → Wrote old mid (flat_map f (take i xs)) → WroteFront mid new (f x) → WroteFront old new (flat_map f xs)
wrote_inside f xs i x old mid new lt at wrote front =
    let done : List ℕ = flat_map f (take i xs) in
    let others : List ℕ = flat_map f (drop (i + 1) xs) in (
      done ++ front.0,
      front.1 ++ others,
      flat_map_parts f xs i x lt
          ∙ ap (λ (t : List ℕ). done ++ (t ++ others)) (ap f (sym at) ∙ front.2)
          ∙ ap (λ (t : List ℕ). done ++ t) (append_assoc front.0 front.1 others)
          ∙ sym (append_assoc done front.0 (front.1 ++ others)),
      wrote_both old mid new done front.0 wrote front.3,
    )
