-- Writers: what one writer leaves after another.
use Rattle.std.proofs.Common.{◌≡◌, ℕ, ◌<◌, List, [], ◌∷◌, ◌++◌, length, get_or, take, drop, ◌+◌, Result, Ok, Err, refl, sym, ap, ◌∙◌, append_assoc}
use Rattle.std.specs.List.{flat_map}
use Rattle.std.proofs.lemmas.List.{append-nil, take-append-drop, drop_more}
use Rattle.std.proofs.lemmas.Grind.{flat_map-append}
use Rattle.ov_base.specs.Word.{Printed, AddsFront}

-- nothing was written yet
pub printed_nothing : (old text : List ℕ) → AddsFront old old text
printed_nothing old text = ([], text, refl, sym (append-nil old))

-- what stands in front was written whole, and no more
pub printed_front : (old new front back : List ℕ) → new ≡ old ++ front → AddsFront old new (front ++ back)
printed_front old new front back e = (front, back, refl, e)

-- what stands in front was written whole, and the rest by another writer
pub printed_then : {T E : Type 0} (r : Result T E) (old mid new front back : List ℕ) → mid ≡ old ++ front → Printed r mid new back → Printed r old new (front ++ back)
printed_then (Ok done) old mid new front back e p = p ∙ ap (λ (t : List ℕ). t ++ back) e ∙ append_assoc old front back
printed_then (Err error) old mid new front back e p = (
  front ++ p.0,
  p.1,
  ap (λ (t : List ℕ). front ++ t) p.2 ∙ sym (append_assoc front p.0 p.1),
  p.3 ∙ ap (λ (t : List ℕ). t ++ p.0) e ∙ append_assoc old front p.0,
)

-- a prefix of what stands in front was written
pub printed_before : (old new front back : List ℕ) → AddsFront old new front → AddsFront old new (front ++ back)
printed_before old new front back p = (p.0, p.1 ++ back, ap (λ (t : List ℕ). t ++ back) p.2 ∙ append_assoc p.0 p.1 back, p.3)

-- a text of a list is that of a front, of the next item and of the others
pub flat_map_parts : {A : Type 0} (f : A → List ℕ) (xs : List A) (i : ℕ) (d : A) → i < length xs
    → flat_map f xs ≡ flat_map f (take i xs) ++ (f (get_or xs i d) ++ flat_map f (drop (i + 1) xs))
flat_map_parts f xs i d lt =
    ap (flat_map f) (sym (take-append-drop i xs) ∙ ap (λ (t : _). take i xs ++ t) (drop_more xs i d lt))
    ∙ flat_map-append f (take i xs) (get_or xs i d ∷ drop (i + 1) xs)

-- the items of a front were written whole, and the next one, x, in part
pub printed_inside : {A : Type 0} (f : A → List ℕ) (xs : List A) (i : ℕ) (x : A) (old mid new : List ℕ) → i < length xs → x ≡ get_or xs i x
    → mid ≡ old ++ flat_map f (take i xs) → AddsFront mid new (f x) → AddsFront old new (flat_map f xs)
printed_inside f xs i x old mid new lt at e p = (
  flat_map f (take i xs) ++ p.0,
  p.1 ++ flat_map f (drop (i + 1) xs),
  flat_map_parts f xs i x lt
      ∙ ap (λ (t : List ℕ). flat_map f (take i xs) ++ (t ++ flat_map f (drop (i + 1) xs))) (ap f (sym at) ∙ p.2)
      ∙ ap (λ (t : List ℕ). flat_map f (take i xs) ++ t) (append_assoc p.0 p.1 (flat_map f (drop (i + 1) xs)))
      ∙ sym (append_assoc (flat_map f (take i xs)) p.0 (p.1 ++ flat_map f (drop (i + 1) xs))),
  p.3 ∙ ap (λ (t : List ℕ). t ++ p.0) e ∙ append_assoc old (flat_map f (take i xs)) p.0,
)
