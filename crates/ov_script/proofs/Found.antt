-- Sessions by their names: the first place of a name, where no name stands twice.
use Rattle.std.proofs.Common.{◌≡◌, ℕ, ◌+◌, ◌<◌, ◌≤◌, true, false, cond, leb, List, [], ◌∷◌, ◌++◌, map, length, get_or, set, position, Option, Some, None, refl, sym, ap, subst, ◌∙◌, arith, add-one, suc, inl, inr}
use Rattle.std.specs.List.{list_any, position_or_len}
use Rattle.std.specs.Prelude.{Result, Ok, Err, IsOk, OnOk}
use Rattle.std.specs.Option.{option_map}
use Rattle.std.specs.Str.{bytes_eq}
use Rattle.std.proofs.lemmas.Bool.{cases_Bool}
use Rattle.std.proofs.lemmas.Bool.Decides.{leb_tells}
use Rattle.std.proofs.lemmas.List.{map-id}
use Rattle.std.proofs.lemmas.Slice.Eq.{bytes_eq-Decides}
use Rattle.indexmap.specs.IndexSet.{insert_key}
use Rattle.ov_base.specs.Key.{key_eq}
use Rattle.ov_script.specs.Sessions.{place_in}
use Rattle.ov_script.specs.Written.{Apart}

pub bytes_same : (x : List ℕ) → bytes_eq x x ≡ true
bytes_same x = (bytes_eq-Decides x x).1 refl

-- the test of bytes is the same both ways
pub bytes_turned : (x y : List ℕ) → bytes_eq x y ≡ bytes_eq y x
bytes_turned x y =
    elim (cases_Bool (bytes_eq x y)) [
      | inl h ↦ let e : x ≡ y = (bytes_eq-Decides x y).0 h in rw e refl
      | inr h ↦ elim (cases_Bool (bytes_eq y x)) [
        | inl k ↦ let e : y ≡ x = (bytes_eq-Decides y x).0 k in rw e refl
        | inr k ↦ h ∙ sym k
      ]
    ]

placed_more : (place : Option ℕ) (s : ℕ) {P : Type 0} → option_map (λ place. place + 1) place ≡ Some s → ((before : ℕ) → place ≡ Some before → s ≡ suc before → P) → P
placed_more None s e k = absurd cc
placed_more (Some before) s e k = let same : before + 1 ≡ s = cc in k before refl (sym same ∙ add-one before)

unplaced_more : (place : Option ℕ) → option_map (λ place. place + 1) place ≡ None → place ≡ None
unplaced_more None e = refl
unplaced_more (Some before) e = absurd cc

-- a name that is not in the list is neither the first nor in the rest
pub unplaced : (name first : List ℕ) (names : List (List ℕ)) → place_in name (first ∷ names) ≡ None → (bytes_eq first name ≡ false) × (place_in name names ≡ None)
unplaced name first names e =
    elim (cases_Bool (bytes_eq first name)) [
      | inl h ↦ let bad : ◌≡◌ {A = Option ℕ} (Some 0) None = rw h at e in absurd cc
      | inr h ↦ let rest : option_map (λ place. place + 1) (place_in name names) ≡ None = rw h at e in (h, unplaced_more (place_in name names) rest)
    ]

-- the item of a name that is in the list
pub placed : {A : Type 0} (key : A → List ℕ) (items : List A) (name : List ℕ) (s : ℕ) (d : A) → place_in name (map key items) ≡ Some s → (s < length items) × (key (get_or items s d) ≡ name)
placed key [] name s d e = absurd cc
placed key (item ∷ items) name s d e =
    elim (cases_Bool (bytes_eq (key item) name)) [
      | inl h ↦ let here : ◌≡◌ {A = Option ℕ} (Some 0) (Some s) = rw h at e in
          let zero : 0 ≡ s = cc in
          subst (λ (k : ℕ). (k < length (item ∷ items)) × (key (get_or (item ∷ items) k d) ≡ name)) zero (omega arith, (bytes_eq-Decides (key item) name).0 h)
      | inr h ↦ let rest : option_map (λ place. place + 1) (place_in name (map key items)) ≡ Some s = rw h at e in
          placed_more (place_in name (map key items)) s rest λ before there more.
          let r = placed key items name before d there in
          subst (λ (k : ℕ). (k < length (item ∷ items)) × (key (get_or (item ∷ items) k d) ≡ name)) (sym more) (omega (arith, r.0), r.1)
    ]

-- a name is found again behind others that are added
pub placed_front : (name : List ℕ) (names others : List (List ℕ)) (s : ℕ) → place_in name names ≡ Some s → place_in name (names ++ others) ≡ Some s
placed_front name [] others s e = absurd cc
placed_front name (first ∷ names) others s e =
    elim (cases_Bool (bytes_eq first name)) [
      | inl h ↦ let here : ◌≡◌ {A = Option ℕ} (Some 0) (Some s) = rw h at e in rw h here
      | inr h ↦ let rest : option_map (λ place. place + 1) (place_in name names) ≡ Some s = rw h at e in
          placed_more (place_in name names) s rest λ before there more. rw (h, placed_front name names others before there, more) (ap (λ (k : ℕ). Some k) (add-one before))
    ]

-- a name that is not in the list, and is added, stands last
pub placed_last : (name : List ℕ) (names : List (List ℕ)) → place_in name names ≡ None → place_in name (names ++ name ∷ []) ≡ Some (length names)
placed_last name [] e = rw (bytes_same name) refl
placed_last name (first ∷ names) e =
    let apart = unplaced name first names e in
    rw (apart.0, placed_last name names apart.1) (ap (λ (k : ℕ). Some k) (add-one (length names)))

-- a name is not in a list with one more where it is neither in the list nor the one
pub unplaced_both : (name : List ℕ) (names : List (List ℕ)) (more : List ℕ) → place_in name names ≡ None → bytes_eq more name ≡ false → place_in name (names ++ more ∷ []) ≡ None
unplaced_both name [] more e other = rw other refl
unplaced_both name (first ∷ names) more e other =
    let apart = unplaced name first names e in
    rw (apart.0, unplaced_both name names more apart.1 other) refl

-- and the other way round
pub unplaced_front : (name : List ℕ) (names : List (List ℕ)) (more : List ℕ) → place_in name (names ++ more ∷ []) ≡ None → (place_in name names ≡ None) × (bytes_eq more name ≡ false)
unplaced_front name [] more e = (refl, (unplaced name more [] e).0)
unplaced_front name (first ∷ names) more e =
    let apart = unplaced name first (names ++ more ∷ []) e in
    let rest = unplaced_front name names more apart.1 in
    (rw (apart.0, rest.0) refl, rest.1)

pub apart_more : (names : List (List ℕ)) (name : List ℕ) → Apart names → place_in name names ≡ None → Apart (names ++ name ∷ [])
apart_more [] name all none = (refl, tt)
apart_more (first ∷ names) name all none =
    let other = unplaced name first names none in
    (unplaced_both first names name all.0 (bytes_turned name first ∙ other.0), apart_more names name all.1 other.1)

-- a map that is changed at one name alone is the same at a list that lacks the name
pub same_map : {A X : Type 0} (key : A → List ℕ) (f g : A → X) (items : List A) (name : List ℕ) → place_in name (map key items) ≡ None
    → ((item : A) → bytes_eq name (key item) ≡ false → g item ≡ f item) → map g items ≡ map f items
same_map key f g [] name none same = refl
same_map {A} {X} key f g (item ∷ items) name none same =
    let other = unplaced name (key item) (map key items) none in
    rw (same item (bytes_turned name (key item) ∙ other.0)) (ap (λ (t : List X). f item ∷ t) (same_map key f g items name other.1 same))

-- a map that is changed at one name alone is changed at its place alone
pub map_at : {A X : Type 0} (key : A → List ℕ) (f g : A → X) (items : List A) (name : List ℕ) (s : ℕ) (d : A) → Apart (map key items) → place_in name (map key items) ≡ Some s
    → ((item : A) → bytes_eq name (key item) ≡ false → g item ≡ f item) → map g items ≡ set (map f items) s (g (get_or items s d))
map_at key f g [] name s d all e same = absurd cc
map_at {A} {X} key f g (item ∷ items) name s d all e same =
    elim (cases_Bool (bytes_eq (key item) name)) [
      | inl h ↦ let here : ◌≡◌ {A = Option ℕ} (Some 0) (Some s) = rw h at e in
          let zero : 0 ≡ s = cc in
          let is : key item ≡ name = (bytes_eq-Decides (key item) name).0 h in
          let none : place_in name (map key items) ≡ None = subst (λ (k : List ℕ). place_in k (map key items) ≡ None) is all.0 in
          subst (λ (k : ℕ). map g (item ∷ items) ≡ set (map f (item ∷ items)) k (g (get_or (item ∷ items) k d))) zero
          (ap (λ (t : List X). g item ∷ t) (same_map key f g items name none same))
      | inr h ↦ let rest : option_map (λ place. place + 1) (place_in name (map key items)) ≡ Some s = rw h at e in
          placed_more (place_in name (map key items)) s rest λ before there more.
          subst (λ (k : ℕ). map g (item ∷ items) ≡ set (map f (item ∷ items)) k (g (get_or (item ∷ items) k d))) (sym more)
          (rw (same item (bytes_turned name (key item) ∙ h)) (ap (λ (t : List X). f item ∷ t) (map_at key f g items name before d all.1 there same)))
    ]

-- a place by its counting is a place by recursion
counted_place : (k n : ℕ) → cond (leb (suc (1 + k)) (suc n)) (Some (1 + k)) None ≡ option_map (λ place. place + 1) (cond (leb (suc k) n) (Some k) None)
counted_place k n =
    elim (leb_tells (suc k) n) [
      | inl p ↦ let q : leb (suc (1 + k)) (suc n) ≡ true = leb-yes (suc (1 + k)) (suc n) (omega (arith, p.1)) in
          let e : 1 + k ≡ k + 1 = omega arith in
          rw (p.0, q) (ap (λ (x : ℕ). Some x) e)
      | inr p ↦ let q : leb (suc (1 + k)) (suc n) ≡ false = leb-no (suc (1 + k)) (suc n) (omega (arith, p.1)) in rw (p.0, q) refl
    ]
  where
    leb-yes : (a b : ℕ) → a ≤ b → leb a b ≡ true
    leb-yes a b le = elim (leb_tells a b) [ inl p ↦ p.0 | inr p ↦ absurd (omega (arith, le, p.1)) ]

    leb-no : (a b : ℕ) → b < a → leb a b ≡ false
    leb-no a b lt = elim (leb_tells a b) [ inl p ↦ absurd (omega (arith, lt, p.1)) | inr p ↦ p.0 ]

-- the place that a set of names gives is the first place of the name
pub found_place : (name : List ℕ) (names : List (List ℕ)) → position (key_eq name) names ≡ place_in name names
unfolding key_eq
found_place name [] = refl
found_place name (first ∷ names) =
    elim (cases_Bool (bytes_eq name first)) [
      | inl h ↦ rw (h, bytes_turned first name ∙ h) (none_before (length names))
      | inr h ↦ rw (h, bytes_turned first name ∙ h) (counted_place (position_or_len (key_eq name) names) (length names) ∙ ap (option_map (λ place. place + 1)) (found_place name names))
    ]
  where
    none_before : (n : ℕ) → ◌≡◌ {A = Option ℕ} (cond (leb 1 (suc n)) (Some 0) None) (Some 0)
    none_before n = elim (leb_tells 1 (suc n)) [ inl p ↦ rw p.0 refl | inr p ↦ absurd (omega (arith, p.1)) ]

-- a name that has no place is not among the names
pub unfound : (name : List ℕ) (names : List (List ℕ)) → place_in name names ≡ None → list_any (key_eq name) names ≡ false
unfolding key_eq
unfound name [] none = refl
unfound name (first ∷ names) none =
    let apart = unplaced name first names none in
    rw (bytes_turned name first ∙ apart.0) (unfound name names apart.1)

-- a name that is inserted, and was not there, stands last
pub inserted : {T E : Type 0} (name : List ℕ) (names after : List (List ℕ)) (r : Result T E) → place_in name names ≡ None → IsOk r
    → OnOk r (after ≡ insert_key key_eq names name) → after ≡ names ++ name ∷ []
inserted name names after (Ok done) none ok h = h ∙ rw (unfound name names none) refl
inserted name names after (Err error) none ok h = let bad : false ≡ true = ok in absurd cc

-- the place of a name is one of the list
pub placed_below : (name : List ℕ) (names : List (List ℕ)) (s : ℕ) → place_in name names ≡ Some s → s < length names
placed_below name names s e = (placed (λ (x : List ℕ). x) names name s [] (ap (place_in name) (map-id names) ∙ e)).0

-- and the name stands there
pub placed_name : (name : List ℕ) (names : List (List ℕ)) (s : ℕ) → place_in name names ≡ Some s → get_or names s [] ≡ name
placed_name name names s e = (placed (λ (x : List ℕ). x) names name s [] (ap (place_in name) (map-id names) ∙ e)).1
