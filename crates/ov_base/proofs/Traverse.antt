-- A loop that reads each of a list, and stops at the first that is nothing.
use Rattle.std.proofs.Common.{◌≡◌, ℕ, ◌+◌, ◌<◌, Bool, Bor, List, [], ◌∷◌, ◌++◌, map, length, get_or, drop, refl, sym, ap, subst, ◌∙◌, Option, Some, None, append_assoc, arith}
use Rattle.std.specs.List.{slice_split, onto_first, AllByRecursion}
use Rattle.std.proofs.lemmas.Bool.{cases_Bool}
use Rattle.std.proofs.lemmas.List.{drop_more}
use Rattle.std.proofs.lemmas.List.Splits.{slice_split-cons_yes, slice_split-cons_no}
use Rattle.std.proofs.Common.{inl, inr}
use Rattle.ov_base.specs.Word.{◌>>=◌}
use Rattle.ov_base.specs.Groups.{words_in}
use Rattle.ov_base.specs.Split.{all_of, with_front}
use Rattle.ov_base.proofs.Readers.{bind_some}

pub with_front_none : {B : Type 0} (rest : Option (List B)) → with_front [] rest ≡ rest
with_front_none None = refl
with_front_none (Some ys) = refl

-- a value behind those in front
pub front_then : {B : Type 0} (front : List B) (y : B) (rest : Option (List B)) → with_front front (rest >>= λ ys. Some (y ∷ ys)) ≡ with_front (front ++ y ∷ []) rest
front_then front y None = refl
front_then front y (Some ys) = ap (λ (t : _). Some t) (sym (append_assoc front (y ∷ []) ys))

pub all_of_next : {A B : Type 0} (f : A → Option B) (xs : List A) (i : ℕ) (d : A) (y : B) (front : List B)
    → i < length xs → f (get_or xs i d) ≡ Some y → with_front front (all_of f (drop i xs)) ≡ with_front (front ++ y ∷ []) (all_of f (drop (i + 1) xs))
all_of_next f xs i d y front lt e = rw (drop_more xs i d lt, e) (front_then front y (all_of f (drop (i + 1) xs)))

-- what a list of words that code keeps has past its end
abbrev pub blank : Bor (List ℕ)
blank = record { ref_ptr = (0, 0); now = [] }

-- the same for words that code keeps
pub all_of_words_next : {B : Type 0} (f : List ℕ → Option B) (words : List (Bor (List ℕ))) (i : ℕ) (d : Bor (List ℕ)) (y : B) (front : List B)
    → i < length words → f ((get_or words i d).now) ≡ Some y
    → with_front front (all_of f (words_in (drop i words))) ≡ with_front (front ++ y ∷ []) (all_of f (words_in (drop (i + 1) words)))
all_of_words_next f words i d y front lt e = rw (drop_more words i d lt, e) (front_then front y (all_of f (words_in (drop (i + 1) words))))

pub all_of_stop : {A B : Type 0} (f : A → Option B) (xs : List A) (i : ℕ) (d : A) (front : List B)
    → i < length xs → f (get_or xs i d) ≡ None → with_front front (all_of f (drop i xs)) ≡ None
all_of_stop f xs i d front lt e = rw (drop_more xs i d lt, e) refl

pub all_of_map : {A B C : Type 0} (f : B → Option C) (g : A → B) (xs : List A) → all_of f (map g xs) ≡ all_of (λ x. f (g x)) xs
all_of_map f g [] = refl
all_of_map f g (x ∷ xs) = ap (λ (o : _). f (g x) >>= λ y. o >>= λ ys. Some (y ∷ ys)) (all_of_map f g xs)

onto_map : {A B : Type 0} (g : A → B) (x : A) (parts : List (List A)) → map (map g) (onto_first x parts) ≡ onto_first (g x) (map (map g) parts)
onto_map g x [] = refl
onto_map g x (part ∷ parts) = refl

-- splitting what a list shows
pub split_map : {A B : Type 0} (p : B → Bool) (g : A → B) (xs : List A) → slice_split p (map g xs) ≡ map (map g) (slice_split (λ x. p (g x)) xs)
split_map p g [] = refl
split_map p g (x ∷ xs) =
    elim (cases_Bool (p (g x))) [
      | inl here ↦ rw (slice_split-cons_yes p (g x) (map g xs) here, slice_split-cons_yes (λ y. p (g y)) x xs here) (ap (λ (t : _). [] ∷ t) (split_map p g xs))
      | inr past ↦ rw (slice_split-cons_no p (g x) (map g xs) past, slice_split-cons_no (λ y. p (g y)) x xs past)
          (ap (onto_first (g x)) (split_map p g xs) ∙ sym (onto_map g x (slice_split (λ y. p (g y)) xs)))
    ]

-- each of a list was read of its text, where that holds of one
pub all_of_takes : {A B : Type 0} (f : A → Option B) (Fits : B → Type 0) (text : B → A)
    → ((x : A) (y : B) → f x ≡ Some y → Fits y × (x ≡ text y)) → (xs : List A) (ys : List B) → all_of f xs ≡ Some ys → AllByRecursion Fits ys × (xs ≡ map text ys)
all_of_takes {A} {B} f Fits text each [] ys e = let h : ◌≡◌ {A = List B} [] ys = cc in subst (λ (t : List B). AllByRecursion Fits t × ([] ≡ map text t)) h (tt, refl)
all_of_takes {A} {B} f Fits text each (x ∷ xs) ys e =
    bind_some (f x) _ ys e λ y here rest.
    bind_some (all_of f xs) _ ys rest λ zs others last.
    let h : ◌≡◌ {A = List B} (y ∷ zs) ys = cc in
    let one = each x y here in
    let more = all_of_takes f Fits text each xs zs others in
    subst (λ (t : List B). AllByRecursion Fits t × (x ∷ xs ≡ map text t)) h
    ((one.0, more.0), ap (λ (a : A). a ∷ xs) one.1 ∙ ap (λ (t : List A). text y ∷ t) more.1)

-- the texts of a list are read again, where that holds of one
pub all_of_again : {A B : Type 0} (f : A → Option B) (Fits : B → Type 0) (text : B → A)
    → ((y : B) → Fits y → f (text y) ≡ Some y) → (ys : List B) → AllByRecursion Fits ys → all_of f (map text ys) ≡ Some ys
all_of_again f Fits text each [] h = refl
all_of_again f Fits text each (y ∷ ys) h = rw (each y h.0, all_of_again f Fits text each ys h.1) refl

-- what holds of the text of each of a list
pub all_of_texts : {A B : Type 0} (Holds : A → Type 0) (Fits : B → Type 0) (text : B → A)
    → ((y : B) → Fits y → Holds (text y)) → (ys : List B) → AllByRecursion Fits ys → AllByRecursion Holds (map text ys)
all_of_texts Holds Fits text each [] h = tt
all_of_texts Holds Fits text each (y ∷ ys) h = (each y h.0, all_of_texts Holds Fits text each ys h.1)

-- there are as many as were read
pub all_of_length : {A B : Type 0} (f : A → Option B) (xs : List A) (ys : List B) → all_of f xs ≡ Some ys → length ys ≡ length xs
all_of_length {A} {B} f [] ys e = let h : ◌≡◌ {A = List B} [] ys = cc in ap length (sym h)
all_of_length {A} {B} f (x ∷ xs) ys e =
    bind_some (f x) _ ys e λ y here rest.
    bind_some (all_of f xs) _ ys rest λ zs others last.
    let h : ◌≡◌ {A = List B} (y ∷ zs) ys = cc in
    let same = all_of_length f xs zs others in
    let count : length ys ≡ length (y ∷ zs) = ap length (sym h) in
    omega (arith, same, count)
