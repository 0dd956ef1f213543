-- Entries by version and then key: that a sort gives them, and that they are those that were given.
use Rattle.std.proofs.Common.{◌≡◌, ℕ, suc, ◌+◌, ◌≤◌, ◌⊎◌, Bool, true, false, cond, List, [], ◌∷◌, map, sum_by, filter, refl, sym, ap, subst, ◌∙◌, arith, inl, inr, nat_cmp, is_eq, IsPermutation, IsSortedBy}
use Rattle.std.specs.Cmp.{IsTotalOrder}
use Rattle.std.specs.Cmp.Lexicographic.{slice_cmp}
use Rattle.std.specs.List.{AllByRecursion}
use Rattle.std.specs.Ordering.{ordering_then}
use Rattle.std.specs.declared.cmp.Ordering.TheVariants.{Equal}
use Rattle.std.proofs.lemmas.Bool.{cases_Bool, both_ways, false_from_ne_true}
use Rattle.std.proofs.lemmas.Cmp.{then_total, on_total, nat_cmp_total, nat_list_cmp_total, ranked}
use Rattle.std.proofs.lemmas.List.Elements.{All-from_recursion, recursion_from_All}
use Rattle.std.proofs.lemmas.List.Sums.{sum_by-cons}
use Rattle.std.proofs.lemmas.List.Sorted.{IsPermutation-sym, All-permutation, sum_by-IsPermutation}
use Rattle.ov_base.specs.Lemmas.{key_eq-ties, key_eq-exact}
use Rattle.ov_lists.specs.Entries.{Entry, stands_before, is_earlier, IsOrdered, is_at, is_inside, by_version, window_of, Ascends}
use Rattle.ov_base.proofs.Lists.{all_weaker, all_filter}
use Rattle.ov_base.proofs.Orders.{before_trans, before_itself}
use Rattle.ov_lists.proofs.Orders.{all_put, Rises, rises_from, rises_put, rises_filter, ascends_from, Holds, all_holds, holds_each, holds_new, holds_old, rises_unique}
use Rattle.ov_lists.proofs.Entries.{entry_trans, entry_itself, at_pair, pair_at, sides, then_equal, equal_from, apart, ordered_unique}

-- ---- the order by version and then key

pub earlier_total : {T : Type 0} → IsTotalOrder (λ (e f : Entry T). ordering_then (nat_cmp e.version f.version) (slice_cmp nat_cmp e.key f.key))
earlier_total {T} = then_total (on_total (λ (e : Entry T). e.version) nat_cmp_total) (on_total (λ (e : Entry T). e.key) nat_list_cmp_total)

pub earlier_trans : {T : Type 0} (e f g : Entry T) → is_earlier e f ≡ true → is_earlier f g ≡ true → is_earlier e g ≡ true
earlier_trans e f g a b = before_trans earlier_total e f g a b

pub earlier_itself : {T : Type 0} (e : Entry T) → is_earlier e e ≡ false
earlier_itself e = before_itself earlier_total e

-- of two entries of different pairs one stands before the other
pub earlier_apart : {T : Type 0} (e f : Entry T) → is_at f.key f.version e ≡ false → (is_earlier e f ≡ true) ⊎ (is_earlier f e ≡ true)
earlier_apart {T} e f h =
    elim (sides (ordering_then (nat_cmp e.version f.version) (slice_cmp nat_cmp e.key f.key)) (ordering_then (nat_cmp f.version e.version) (slice_cmp nat_cmp f.key e.key)) (earlier_total.antisymm e f)) [
      | inl before ↦ inl before
      | inr (inl behind) ↦ inr behind
      | inr (inr same) ↦
          let q = then_equal (nat_cmp e.version f.version) (slice_cmp nat_cmp e.key f.key) same in
          let v : e.version ≡ f.version = ranked e.version f.version Equal (sym (equal_from (nat_cmp e.version f.version) q.0)) in
          let k : e.key ≡ f.key = key_eq-exact e.key f.key (key_eq-ties e.key f.key ∙ ap is_eq q.1) in
          absurd (both_ways (is_at f.key f.version e) h (pair_at f.key f.version e k v))
    ]

-- what stands behind an entry is not of its pair
pub behind_not_at : {T : Type 0} (e f : Entry T) → stands_before e f ≡ true → is_at e.key e.version f ≡ false
behind_not_at e f h =
    false_from_ne_true (is_at e.key e.version f) (λ there.
    let q = at_pair e.key e.version f there in
    let again : stands_before e e ≡ true = rw (q.0, q.1) at h in
    both_ways (stands_before e e) (entry_itself e) again)

-- ---- each pair stands once

-- an entry counts where it is of a pair
abbrev pub counted : {T : Type 0} → List ℕ → ℕ → Entry T → ℕ
counted key version e = cond (is_at key version e) 1 0

-- how many entries are of a pair
abbrev pub times : {T : Type 0} → List ℕ → ℕ → List (Entry T) → ℕ
times key version entries = sum_by (counted key version) entries

times_none : {T : Type 0} (key : List ℕ) (version : ℕ) (entries : List (Entry T)) → AllByRecursion (λ e. is_at key version e ≡ false) entries → times key version entries ≡ 0
times_none key version [] h = refl
times_none {T} key version (e ∷ es) h =
    let rest = times_none key version es h.1 in
    let first : counted key version e ≡ 0 = rw h.0 refl in
    omega (arith, sum_by-cons (counted key version) e es, rest, first)

pub times_once : {T : Type 0} (entries : List (Entry T)) → Rises stands_before entries → (key : List ℕ) (version : ℕ) → times key version entries ≤ 1
times_once [] h key version = omega arith
times_once {T} (e ∷ es) h key version =
    let cons = sum_by-cons (counted key version) e es in
    elim (cases_Bool (is_at key version e)) [
      | inl here ↦
          let q = at_pair key version e here in
          let others : AllByRecursion (λ f. is_at key version f ≡ false) es =
          all_weaker (λ f. stands_before e f ≡ true) (λ f. is_at key version f ≡ false) (λ f behind. rw (← q.0, ← q.1) (behind_not_at e f behind)) es h.0 in
          let none = times_none key version es others in
          let first : counted key version e ≡ 1 = rw here refl in
          omega (arith, cons, none, first)
      | inr other ↦
          let rest = times_once es h.1 key version in
          let first : counted key version e ≡ 0 = rw other refl in
          omega (arith, cons, rest, first)
    ]

-- ---- what a sort says

abbrev pub FirstStays : {A : Type 0} → (A → A → Bool) → A → List A → Type 0
FirstStays before x [] = Unit {0}
FirstStays before x (y ∷ ys) = before y x ≡ false

-- No element stands before the one that it follows.
abbrev pub Stays : {A : Type 0} → (A → A → Bool) → List A → Type 0
Stays before [] = Unit {0}
Stays before (x ∷ xs) = FirstStays before x xs × Stays before xs

pub stays_from : {X A : Type 0} (f : X → A) (before : A → A → Bool) (xs : List X) → IsSortedBy (λ x y. before (f x) (f y)) xs → Stays before (map f xs)
stays_from f before [] h = tt
stays_from f before (x ∷ []) h = (tt, tt)
stays_from f before (x ∷ y ∷ ys) h = (h 0 x (omega arith) (omega arith), stays_from f before (y ∷ ys) (λ k d low high. let next : suc k + 1 ≡ suc (k + 1) = omega arith in rw next at (h (suc k) d (omega arith) (omega arith))))

-- entries of different pairs that stay in an order ascend, where it tells different pairs apart
pub ascends_from_stays : {T : Type 0} (before : Entry T → Entry T → Bool) → ((e f : Entry T) → is_at f.key f.version e ≡ false → (before e f ≡ true) ⊎ (before f e ≡ true))
    → (entries : List (Entry T)) → Stays before entries → ((key : List ℕ) (version : ℕ) → times key version entries ≤ 1) → Ascends before entries
ascends_from_stays before apart [] h once = tt
ascends_from_stays before apart (e ∷ []) h once = (tt, tt)
ascends_from_stays {T} before apart (e ∷ f ∷ es) h once =
    let first = sum_by-cons (counted f.key f.version) e (f ∷ es) in
    let second = sum_by-cons (counted f.key f.version) f es in
    let here : counted f.key f.version f ≡ 1 = rw (pair_at f.key f.version f refl refl) refl in
    let other : is_at f.key f.version e ≡ false =
    false_from_ne_true (is_at f.key f.version e) (λ there.
    let too : counted f.key f.version e ≡ 1 = rw there refl in
    omega (arith, first, second, here, too, once f.key f.version)) in
    let stands : before e f ≡ true = elim (apart e f other) [ inl less ↦ less | inr more ↦ absurd (both_ways (before f e) h.0 more) ] in
    (stands, ascends_from_stays before apart (f ∷ es) h.1 (λ key version. omega (arith, sum_by-cons (counted key version) e (f ∷ es), once key version)))

-- entries in order that were moved until none stands before the one that it follows are as they were
pub ordered_again : {T : Type 0} (entries moved : List (Entry T)) → IsOrdered entries → IsPermutation entries moved → Stays stands_before moved → moved ≡ entries
ordered_again {T} entries moved ordered same stays =
    let rises = rises_from stands_before entry_trans entries ordered in
    let once = λ (key : List ℕ) (version : ℕ). subst (λ (n : ℕ). n ≤ 1) (sym (sum_by-IsPermutation (counted key version) entries moved same)) (times_once entries rises key version) in
    let there = recursion_from_All (Holds entries) moved (All-permutation (Holds entries) entries moved same (All-from_recursion (Holds entries) entries (holds_each entries))) in
    let back = recursion_from_All (Holds moved) entries
    (All-permutation (Holds moved) moved entries (IsPermutation-sym entries moved same) (All-from_recursion (Holds moved) moved (holds_each moved))) in
    ordered_unique moved entries (ascends_from_stays stands_before apart moved stays once) ordered there back

-- ---- the entries by version and then key

pub all_by_version : {T : Type 0} (P : Entry T → Type 0) (entries : List (Entry T)) → AllByRecursion P entries → AllByRecursion P (by_version entries)
all_by_version P [] h = tt
all_by_version P (e ∷ es) h = all_put is_earlier P e h.0 (by_version es) (all_by_version P es h.1)

pub holds_by_version : {T : Type 0} (entries : List (Entry T)) → AllByRecursion (Holds (by_version entries)) entries
holds_by_version [] = tt
holds_by_version (e ∷ es) = (
  holds_new is_earlier e (by_version es),
  all_weaker (Holds (by_version es)) (Holds (by_version (e ∷ es))) (λ f there. holds_old is_earlier e (by_version es) f there) es (holds_by_version es),
)

pub rises_by_version : {T : Type 0} (entries : List (Entry T)) → Rises stands_before entries → Rises is_earlier (by_version entries)
rises_by_version [] h = tt
rises_by_version (e ∷ es) h =
    rises_put is_earlier earlier_trans e (by_version es) (rises_by_version es h.1)
    (all_by_version (λ f. (is_earlier f e ≡ true) ⊎ (is_earlier e f ≡ true)) es
    (all_weaker (λ f. stands_before e f ≡ true) (λ f. (is_earlier f e ≡ true) ⊎ (is_earlier e f ≡ true)) (λ f behind. earlier_apart f e (behind_not_at e f behind)) es h.0))

-- entries in order that were moved until none stands before the one that it follows, by version and then key
pub sorted_is : {T : Type 0} (entries moved : List (Entry T)) → IsOrdered entries → IsPermutation entries moved → Stays is_earlier moved → moved ≡ by_version entries
sorted_is {T} entries moved ordered same stays =
    let rises = rises_from stands_before entry_trans entries ordered in
    let once = λ (key : List ℕ) (version : ℕ). subst (λ (n : ℕ). n ≤ 1) (sym (sum_by-IsPermutation (counted key version) entries moved same)) (times_once entries rises key version) in
    let up = rises_from is_earlier earlier_trans moved (ascends_from_stays is_earlier earlier_apart moved stays once) in
    let there = recursion_from_All (Holds (by_version entries)) moved
    (All-permutation (Holds (by_version entries)) entries moved same (All-from_recursion (Holds (by_version entries)) entries (holds_by_version entries))) in
    let back = all_by_version (Holds moved) entries (recursion_from_All (Holds moved) entries
    (All-permutation (Holds moved) moved entries (IsPermutation-sym entries moved same) (All-from_recursion (Holds moved) moved (holds_each moved)))) in
    rises_unique is_earlier earlier_trans earlier_itself moved (by_version entries) up (rises_by_version entries rises) there back

-- ---- a window

all_passing : {A : Type 0} (p : A → Bool) (xs : List A) → AllByRecursion (λ x. p x ≡ true) (filter p xs)
all_passing p [] = tt
all_passing p (x ∷ xs) =
    elim (cases_Bool (p x)) [
      | inl kept ↦ rw kept (kept, all_passing p xs)
      | inr left_out ↦ rw left_out (all_passing p xs)
    ]

-- all of a window lie inside
pub window_inside : {T : Type 0} (from below : ℕ) (entries : List (Entry T)) → AllByRecursion (λ e. is_inside from below e ≡ true) (window_of from below entries)
window_inside from below entries = all_by_version (λ e. is_inside from below e ≡ true) (filter (is_inside from below) entries) (all_passing (is_inside from below) entries)

-- all of a window are among the entries
pub window_among : {T : Type 0} (from below : ℕ) (entries : List (Entry T)) → AllByRecursion (Holds entries) (window_of from below entries)
window_among from below entries =
    all_by_version (Holds entries) (filter (is_inside from below) entries) (all_filter (is_inside from below) (Holds entries) entries (holds_each entries))

pub holds_passing : {A : Type 0} (p : A → Bool) (xs : List A) (x : A) → Holds xs x → p x ≡ true → Holds (filter p xs) x
holds_passing p [] x h passes = absurd h
holds_passing p (y ∷ ys) x h passes =
    elim (cases_Bool (p y)) [
      | inl kept ↦ rw kept (elim h [ inl same ↦ inl same | inr more ↦ inr (holds_passing p ys x more passes) ])
      | inr left_out ↦ rw left_out (elim h [ inl same ↦ absurd (both_ways (p y) left_out (ap p (sym same) ∙ passes)) | inr more ↦ holds_passing p ys x more passes ])
    ]

-- each entry that lies inside is in the window
pub window_holds : {T : Type 0} (from below : ℕ) (entries : List (Entry T)) (e : Entry T) → Holds entries e → is_inside from below e ≡ true → Holds (window_of from below entries) e
window_holds from below entries e h inside =
    all_holds (Holds (window_of from below entries)) (filter (is_inside from below) entries) e (holds_by_version (filter (is_inside from below) entries)) (holds_passing (is_inside from below) entries e h inside)

-- a window of entries in order ascends by version and then key
pub window_ascends : {T : Type 0} (from below : ℕ) (entries : List (Entry T)) → IsOrdered entries → Ascends is_earlier (window_of from below entries)
window_ascends from below entries ordered =
    ascends_from is_earlier (window_of from below entries) (rises_by_version (filter (is_inside from below) entries) (rises_filter stands_before (is_inside from below) entries (rises_from stands_before entry_trans entries ordered)))
