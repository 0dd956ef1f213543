-- The files of a shelf, when the count of one of them rises.
use Rattle.std.proofs.Common.{◌≡◌, ℕ, zero, suc, ◌+◌, ◌<◌, ◌≤◌, true, false, List, [], ◌∷◌, length, get_or, set, Option, Some, None, refl, sym, ap, subst, ◌∙◌, arith, inl, inr}
use Rattle.std.specs.Option.{option_map}
use Rattle.std.proofs.lemmas.Bool.{cases_Bool}
use Rattle.std.specs.Prelude.{Result, Ok, Err, IfErr, IsNone}
use Rattle.ov_io.specs.declared.sink.SinkError.{SinkError}
use Rattle.ov_io.specs.declared.sink.SinkError.TheVariants as sink
use Rattle.ov_io.specs.declared.files.NamedFile.{NamedFile}
use Rattle.ov_io.specs.Causes.{Rose, Agrees, LongerThan}
use Rattle.ov_io.specs.Files.{has_name, content, fault_count, place_from}

-- the same file with another count
pub record IsRaised (f f' : NamedFile) : Type 0 where
  pub name : f'.name ≡ f.name
  pub bytes : f'.bytes ≡ f.bytes
  pub later : f.failed ≤ f'.failed
  pub rose : Rose f.failed f'.failed
  pub once : f'.failed ≤ f.failed + 1

same_name : (q : List ℕ) (f f' : NamedFile) → IsRaised f f' → has_name q f' ≡ has_name q f
same_name q f f' h = rw h.name refl

pub told_set : (fs : List NamedFile) (i : ℕ) (d f' : NamedFile) (q : List ℕ) → i < length fs → IsRaised (get_or fs i d) f' → content (set fs i f') q ≡ content fs q
told_set [] i d f' q lt h = absurd (omega arith)
told_set (x ∷ xs) zero d f' q lt h =
    elim (cases_Bool (has_name q x)) [
      | inl here ↦ rw (here, same_name q x f' h ∙ here) (ap (λ (b : List ℕ). Some b) h.bytes)
      | inr past ↦ rw (past, same_name q x f' h ∙ past) refl
    ]
told_set (x ∷ xs) (suc i) d f' q lt h =
    elim (cases_Bool (has_name q x)) [
      | inl here ↦ rw here refl
      | inr past ↦ rw past (told_set xs i d f' q (omega arith) h)
    ]

pub later_set : (fs : List NamedFile) (i : ℕ) (d f' : NamedFile) (q : List ℕ) (absent : ℕ) → i < length fs → IsRaised (get_or fs i d) f'
    → fault_count fs absent q ≤ fault_count (set fs i f') absent q
later_set [] i d f' q absent lt h = absurd (omega arith)
later_set (x ∷ xs) zero d f' q absent lt h =
    elim (cases_Bool (has_name q x)) [
      | inl here ↦ rw (here, same_name q x f' h ∙ here) h.later
      | inr past ↦ rw (past, same_name q x f' h ∙ past) (omega arith)
    ]
later_set (x ∷ xs) (suc i) d f' q absent lt h =
    elim (cases_Bool (has_name q x)) [
      | inl here ↦ rw here (omega arith)
      | inr past ↦ rw past (later_set xs i d f' q absent (omega arith) h)
    ]

pub once_set : (fs : List NamedFile) (i : ℕ) (d f' : NamedFile) (q : List ℕ) (absent : ℕ) → i < length fs → IsRaised (get_or fs i d) f'
    → fault_count (set fs i f') absent q ≤ fault_count fs absent q + 1
once_set [] i d f' q absent lt h = absurd (omega arith)
once_set (x ∷ xs) zero d f' q absent lt h =
    elim (cases_Bool (has_name q x)) [
      | inl here ↦ rw (here, same_name q x f' h ∙ here) h.once
      | inr past ↦ rw (past, same_name q x f' h ∙ past) (omega arith)
    ]
once_set (x ∷ xs) (suc i) d f' q absent lt h =
    elim (cases_Bool (has_name q x)) [
      | inl here ↦ rw here (omega arith)
      | inr past ↦ rw past (once_set xs i d f' q absent (omega arith) h)
    ]

after : (o : Option ℕ) (i : ℕ) → option_map (λ i. i + 1) o ≡ Some i → (j : ℕ) × (o ≡ Some j) × (i ≡ suc j)
after None i e = absurd cc
after (Some j) i e = let h : j + 1 ≡ i = cc in (j, refl, omega arith)

some_is : (a b : ℕ) → ◌≡◌ {A = Option ℕ} (Some a) (Some b) → a ≡ b
some_is a b e = cc

none_is : (o : Option ℕ) → option_map (λ i. i + 1) o ≡ None → o ≡ None
none_is None e = refl
none_is (Some j) e = absurd cc

rose_here : (x : NamedFile) (xs : List NamedFile) (i : ℕ) (d f' : NamedFile) (q : List ℕ) (absent : ℕ) → has_name q x ≡ true → i ≡ 0 → IsRaised (get_or (x ∷ xs) i d) f'
    → Rose (fault_count (x ∷ xs) absent q) (fault_count (set (x ∷ xs) i f') absent q)
rose_here x xs zero d f' q absent here z h = rw (here, same_name q x f' h ∙ here) h.rose
rose_here x xs (suc i) d f' q absent here z h = absurd (omega arith)

rose_there : (x : NamedFile) (xs : List NamedFile) (i j : ℕ) (d f' : NamedFile) (q : List ℕ) (absent : ℕ) → has_name q x ≡ false → i ≡ suc j → IsRaised (get_or (x ∷ xs) i d) f'
    → (IsRaised (get_or xs j d) f' → Rose (fault_count xs absent q) (fault_count (set xs j f') absent q)) → Rose (fault_count (x ∷ xs) absent q) (fault_count (set (x ∷ xs) i f') absent q)
rose_there x xs zero j d f' q absent past z h k = absurd (omega arith)
rose_there x xs (suc i) j d f' q absent past z h k =
    let same : i ≡ j = omega arith in
    rw past (subst (λ (m : ℕ). (IsRaised (get_or xs m d) f' → Rose (fault_count xs absent q) (fault_count (set xs m f') absent q))) (sym same) k h)

pub rose_set : (fs : List NamedFile) (i : ℕ) (d f' : NamedFile) (q : List ℕ) (absent : ℕ) → place_from fs q ≡ Some i → IsRaised (get_or fs i d) f'
    → Rose (fault_count fs absent q) (fault_count (set fs i f') absent q)
rose_set [] i d f' q absent e h = absurd cc
rose_set (x ∷ xs) i d f' q absent e h =
    elim (cases_Bool (has_name q x)) [
      | inl here ↦ let z : 0 ≡ i = some_is 0 i (rw here at e) in rose_here x xs i d f' q absent here (sym z) h
      | inr past ↦ let r = after (place_from xs q) i (rw past at e) in rose_there x xs i r.0 d f' q absent past r.2 h (λ k. rose_set xs r.0 d f' q absent r.1 k)
    ]

pub content_at : (fs : List NamedFile) (i : ℕ) (d : NamedFile) (q : List ℕ) → place_from fs q ≡ Some i → content fs q ≡ Some ((get_or fs i d).bytes)
content_at [] i d q e = absurd cc
content_at (x ∷ xs) i d q e =
    elim (cases_Bool (has_name q x)) [
      | inl here ↦ let z : 0 ≡ i = some_is 0 i (rw here at e) in rw (here, ← z) refl
      | inr past ↦ let r = after (place_from xs q) i (rw past at e) in rw (past, r.2) (content_at xs r.0 d q r.1)
    ]

pub place_within : (fs : List NamedFile) (i : ℕ) (q : List ℕ) → place_from fs q ≡ Some i → i < length fs
place_within [] i q e = absurd cc
place_within (x ∷ xs) i q e =
    elim (cases_Bool (has_name q x)) [
      | inl here ↦ let z : 0 ≡ i = some_is 0 i (rw here at e) in omega arith
      | inr past ↦ let r = after (place_from xs q) i (rw past at e) in let h = place_within xs r.0 q r.1 in omega (arith, h, r.2)
    ]

pub absent_count : (fs : List NamedFile) (q : List ℕ) (absent : ℕ) → place_from fs q ≡ None → fault_count fs absent q ≡ absent
absent_count [] q absent e = refl
absent_count (x ∷ xs) q absent e =
    elim (cases_Bool (has_name q x)) [
      | inl here ↦ let bad : ◌≡◌ {A = Option ℕ} (Some 0) None = rw here at e in absurd cc
      | inr past ↦ rw past (absent_count xs q absent (none_is (place_from xs q) (rw past at e)))
    ]

-- where the name is not there, its count is the one of all absent names
pub absent_rose : (fs : List NamedFile) (q : List ℕ) (absent now : ℕ) → place_from fs q ≡ None → Rose absent now → Rose (fault_count fs absent q) (fault_count fs now q)
absent_rose fs q absent now e h = rw (absent_count fs q absent e, absent_count fs q now e) h

-- a file whose count is the next one, which stands still at the end of its type
pub raised_by : (f g : NamedFile) (n : ℕ) → f ≡ g → f.failed ≤ n → Rose f.failed n → n ≤ f.failed + 1 → IsRaised g (record { name = f.name; bytes = f.bytes; failed = n })
raised_by f g n same later rose once =
    subst (λ (h : NamedFile). IsRaised h (record { name = f.name; bytes = f.bytes; failed = n })) same (record { name = refl; bytes = refl; later = later; rose = rose; once = once })

-- a name that has no place has no content
pub content_none : (fs : List NamedFile) (q : List ℕ) → place_from fs q ≡ None → IsNone (content fs q)
content_none [] q e = refl
content_none (x ∷ xs) q e =
    elim (cases_Bool (has_name q x)) [
      | inl here ↦ let bad : ◌≡◌ {A = Option ℕ} (Some 0) None = rw here at e in absurd cc
      | inr past ↦ rw past (content_none xs q (none_is (place_from xs q) (rw past at e)))
    ]

pub not_none : (told : Option (List ℕ)) (bytes : List ℕ) → told ≡ Some bytes → IsNone told → ⊥
not_none None bytes e n = absurd cc
not_none (Some t) bytes e n = absurd cc

pub agrees_at : (told : Option (List ℕ)) (bytes b : List ℕ) → told ≡ Some bytes → b ≡ bytes → Agrees told b
agrees_at None bytes b e h = absurd cc
agrees_at (Some t) bytes b e h = let q : t ≡ bytes = cc in h ∙ sym q

pub longer_at : (told : Option (List ℕ)) (bytes : List ℕ) (limit : ℕ) → told ≡ Some bytes → limit < length bytes → LongerThan limit told
longer_at told bytes limit e h = (bytes, agrees_at told bytes bytes e refl, h)

-- an answer whose only error is out of memory reports no fault
pub never_failed : (r : Result (Unit {0}) SinkError) → IfErr r (λ e. e ≡ sink.Memory) → r ≡ Err sink.Failed → ⊥
never_failed (Ok u) memory e = absurd cc
never_failed (Err e') memory e = absurd cc
