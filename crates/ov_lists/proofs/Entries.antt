-- The order of entries; entries of a pair; the newest of a key.
use Rattle.std.proofs.Common.{◌≡◌, ℕ, zero, suc, ◌<◌, ◌≤◌, ◌⊎◌, Bool, true, false, cond, ◌||◌, if◌then◌else◌, filter, ltb, eqb, List, [], ◌∷◌, length, get_or, Option, Some, None, refl, sym, subst, ◌∙◌, arith, inl, inr, nat_cmp, is_lt, is_eq}
use Rattle.std.specs.Cmp.{IsTotalOrder}
use Rattle.std.specs.Cmp.Lexicographic.{slice_cmp}
use Rattle.std.specs.List.{AllByRecursion}
use Rattle.std.specs.Ordering.{ordering_then, ordering_reverse}
use Rattle.std.specs.declared.cmp.Ordering.{Ordering}
use Rattle.std.specs.declared.cmp.Ordering.TheVariants.{Less, Equal, Greater}
use Rattle.std.proofs.lemmas.Bool.{cases_Bool, both_ways, and_parts, and_from, ltb-true, ltb-false, lt-ltb, le-ltb, eqb-true, eq-eqb, false_from_ne_true, or_parts, cases_order, cases_lt}
use Rattle.std.proofs.lemmas.Option.{cond_some}
use Rattle.std.proofs.lemmas.Cmp.{then_total, on_total, nat_cmp_total, nat_list_cmp_total, ranked}
use Rattle.std.proofs.lemmas.List.Recursion.{or_at, or_from_places}
use Rattle.ov_base.specs.Key.{key_eq}
use Rattle.ov_base.specs.Lemmas.{key_eq-ties, key_eq-exact}
use Rattle.ov_lists.specs.Entries.{Entry, pair_cmp, is_before, stands_before, IsOrdered, is_at, has_pair, inserted, newer, is_below, latest_of}
use Rattle.ov_base.proofs.Keys.{key_eq-self}
use Rattle.ov_base.proofs.Orders.{before_trans, before_itself}
use Rattle.ov_lists.proofs.Orders.{rises_from, rises_put, rises_filter, ascends_from, Holds, rises_unique}

-- ---- the order

abbrev on_pairs : List ℕ × ℕ → List ℕ × ℕ → Ordering
on_pairs p q = pair_cmp p.0 p.1 q.0 q.1

pairs_total : IsTotalOrder on_pairs
pairs_total = then_total (on_total (λ (p : List ℕ × ℕ). p.0) nat_list_cmp_total) (on_total (λ (p : List ℕ × ℕ). p.1) nat_cmp_total)

pub entries_total : {T : Type 0} → IsTotalOrder (λ (e f : Entry T). pair_cmp e.key e.version f.key f.version)
entries_total {T} = then_total (on_total (λ (e : Entry T). e.key) nat_list_cmp_total) (on_total (λ (e : Entry T). e.version) nat_cmp_total)

pub pair_trans : (key₁ : List ℕ) (version₁ : ℕ) (key₂ : List ℕ) (version₂ : ℕ) (key₃ : List ℕ) (version₃ : ℕ)
    → is_before key₁ version₁ key₂ version₂ ≡ true → is_before key₂ version₂ key₃ version₃ ≡ true → is_before key₁ version₁ key₃ version₃ ≡ true
pair_trans key₁ version₁ key₂ version₂ key₃ version₃ a b = before_trans pairs_total (key₁, version₁) (key₂, version₂) (key₃, version₃) a b

pub pair_itself : (key : List ℕ) (version : ℕ) → is_before key version key version ≡ false
pair_itself key version = before_itself pairs_total (key, version)

pub entry_trans : {T : Type 0} (e f g : Entry T) → stands_before e f ≡ true → stands_before f g ≡ true → stands_before e g ≡ true
entry_trans e f g a b = pair_trans e.key e.version f.key f.version g.key g.version a b

pub entry_itself : {T : Type 0} (e : Entry T) → stands_before e e ≡ false
entry_itself e = pair_itself e.key e.version

-- what stands before does not stand behind
pub entry_one_way : {T : Type 0} (e f : Entry T) → stands_before e f ≡ true → stands_before f e ≡ false
entry_one_way e f h = false_from_ne_true (stands_before f e) (λ back. both_ways (stands_before e e) (entry_itself e) (entry_trans e f e h back))

pub less_is : (a b : ℕ) → is_lt (nat_cmp a b) ≡ ltb a b
less_is a b =
    elim (cases_Bool (ltb a b)) [
      | inl less ↦ rw less refl
      | inr past ↦ rw past (elim (cases_Bool (eqb a b)) [ inl same ↦ rw same refl | inr other ↦ rw other refl ])
    ]

then_less : (o p : Ordering) → is_eq o ≡ true → is_lt (ordering_then o p) ≡ is_lt p
then_less Less p h = absurd cc
then_less Equal p h = refl
then_less Greater p h = absurd cc

-- of one key the lower version stands before
pub same_key_before : (key' : List ℕ) (version' : ℕ) (key : List ℕ) (version : ℕ) → key_eq key' key ≡ true → is_before key' version' key version ≡ ltb version' version
same_key_before key' version' key version h =
    then_less (slice_cmp nat_cmp key' key) (nat_cmp version' version) (sym (key_eq-ties key' key) ∙ h) ∙ less_is version' version

between_by : (o : Ordering) (version low high : ℕ) → is_lt (ordering_then o (nat_cmp version low)) ≡ false → is_lt (ordering_then o (nat_cmp version high)) ≡ true
    → (is_eq o ≡ true) × ((low ≤ version) × (version < high))
between_by Less version low high h g = absurd cc
between_by Equal version low high h g = (refl, (ltb-false version low (sym (less_is version low) ∙ h), ltb-true version high (sym (less_is version high) ∙ g)))
between_by Greater version low high h g = absurd cc

-- what stands from one version of a key on and before another is of that key
pub between : (key' : List ℕ) (version' : ℕ) (key : List ℕ) (low high : ℕ) → is_before key' version' key low ≡ false → is_before key' version' key high ≡ true
    → (key_eq key' key ≡ true) × ((low ≤ version') × (version' < high))
between key' version' key low high h g =
    let q = between_by (slice_cmp nat_cmp key' key) version' low high h g in
    (key_eq-ties key' key ∙ q.0, q.1)

-- ---- entries of a pair

-- an entry of a pair has its key and its version
pub at_pair : {T : Type 0} (key : List ℕ) (version : ℕ) (e : Entry T) → is_at key version e ≡ true → (e.key ≡ key) × (e.version ≡ version)
at_pair key version e h =
    let parts = and_parts (key_eq e.key key) (eqb e.version version) h in
    (key_eq-exact e.key key parts.0, eqb-true e.version version parts.1)

pub pair_at : {T : Type 0} (key : List ℕ) (version : ℕ) (e : Entry T) → e.key ≡ key → e.version ≡ version → is_at key version e ≡ true
pair_at key version e k v = and_from (key_eq e.key key) (eqb e.version version) (rw k (key_eq-self key)) (eq-eqb e.version version v)

-- what stands before a pair is not of it
pub before_not_at : {T : Type 0} (key : List ℕ) (version : ℕ) (e : Entry T) → is_before e.key e.version key version ≡ true → is_at key version e ≡ false
before_not_at key version e h =
    false_from_ne_true (is_at key version e) (λ there.
    let q = at_pair key version e there in
    let again : is_before key version key version ≡ true = rw (q.0, q.1) at h in
    both_ways (is_before key version key version) (pair_itself key version) again)

pub has_pair_at : {T : Type 0} (key : List ℕ) (version : ℕ) (entries : List (Entry T)) (i : ℕ) (d : Entry T)
    → i < length entries → is_at key version (get_or entries i d) ≡ true → has_pair key version entries ≡ true
has_pair_at key version entries i d lt h = or_at (has_pair key version) (is_at key version) refl (λ _ _. refl) entries i d lt h

pub lacks_pair : {T : Type 0} (key : List ℕ) (version : ℕ) (entries : List (Entry T))
    → ((i : ℕ) (d : Entry T) → i < length entries → is_at key version (get_or entries i d) ≡ false) → has_pair key version entries ≡ false
lacks_pair key version [] h = refl
lacks_pair key version (e ∷ es) h = or_from_places (has_pair key version) (is_at key version) refl (λ _ _. refl) (e ∷ es) e (λ i lt. h i e lt)

-- ---- the newest of a key below a number

-- of one key and below the number is the same as standing before them, where the key is that
pub below_before : {T : Type 0} (key : List ℕ) (below : ℕ) (e : Entry T) → is_below key below e ≡ true → (key_eq e.key key ≡ true) × (is_before e.key e.version key below ≡ true)
below_before key below e h =
    let parts = and_parts (key_eq e.key key) (ltb e.version below) h in
    (parts.0, same_key_before e.key e.version key below parts.0 ∙ parts.1)

pub before_below : {T : Type 0} (key : List ℕ) (below : ℕ) (e : Entry T) → key_eq e.key key ≡ true → is_before e.key e.version key below ≡ true → is_below key below e ≡ true
before_below key below e k h = and_from (key_eq e.key key) (ltb e.version below) k (sym (same_key_before e.key e.version key below k) ∙ h)

pub behind_not_below : {T : Type 0} (key : List ℕ) (below : ℕ) (e : Entry T) → is_before e.key e.version key below ≡ false → is_below key below e ≡ false
behind_not_below key below e h = false_from_ne_true (is_below key below e) (λ there. both_ways (is_before e.key e.version key below) h (below_before key below e there).1)

pub latest_none : {T : Type 0} (key : List ℕ) (below : ℕ) (entries : List (Entry T))
    → ((i : ℕ) (d : Entry T) → i < length entries → is_below key below (get_or entries i d) ≡ false) → latest_of key below entries ≡ None
latest_none key below [] h = refl
latest_none key below (e ∷ es) h = rw (h 0 e (omega arith), latest_none key below es (λ i d lt. h (suc i) d (omega arith))) refl

pub latest_some : {T : Type 0} (key : List ℕ) (below : ℕ) (entries : List (Entry T)) (m : ℕ) (e : Entry T)
    → m < length entries → e ≡ get_or entries m e → is_below key below e ≡ true
    → ((i : ℕ) (d : Entry T) → i < m → (is_below key below (get_or entries i d) ≡ false) ⊎ ((get_or entries i d).version < e.version))
    → ((i : ℕ) (d : Entry T) → m < i → i < length entries → is_below key below (get_or entries i d) ≡ false)
    → latest_of key below entries ≡ Some e
latest_some key below [] m e lt is here lower higher = absurd (omega arith)
latest_some {T} key below (x ∷ xs) zero e lt is here lower higher =
    subst (λ (t : Entry T). newer (cond (is_below key below t) (Some t) None) (latest_of key below xs) ≡ Some e) is
    (rw (here, latest_none key below xs (λ i d within. higher (suc i) d (omega arith) (omega arith))) refl)
latest_some key below (x ∷ xs) (suc m) e lt is here lower higher =
    let rest : latest_of key below xs ≡ Some e =
    latest_some key below xs m e (omega arith) is here (λ i d under. lower (suc i) d (omega arith)) (λ i d past within. higher (suc i) d (omega arith) (omega arith)) in
    rw rest
    (elim (lower 0 x (omega arith)) [
      | inl other ↦ rw other refl
      | inr less ↦ elim (cases_Bool (is_below key below x)) [
        | inl one ↦ rw (one, lt-ltb x.version e.version less) refl
        | inr other ↦ rw other refl
      ]
    ])

-- ---- one more entry

pub sides : (o p : Ordering) → o ≡ ordering_reverse p → (is_lt o ≡ true) ⊎ ((is_lt p ≡ true) ⊎ (o ≡ Equal))
sides Less p h = inl refl
sides Equal p h = inr (inr refl)
sides Greater Less h = inr (inl refl)
sides Greater Equal h = absurd cc
sides Greater Greater h = absurd cc

pub then_equal : (o p : Ordering) → ordering_then o p ≡ Equal → (is_eq o ≡ true) × (p ≡ Equal)
then_equal Less p h = absurd cc
then_equal Equal p h = (refl, h)
then_equal Greater p h = absurd cc

pub equal_from : (o : Ordering) → is_eq o ≡ true → o ≡ Equal
equal_from Less h = absurd cc
equal_from Equal h = refl
equal_from Greater h = absurd cc

-- what is not of the pair of another stands before it or behind it
pub apart : {T : Type 0} (e new : Entry T) → is_at new.key new.version e ≡ false → (stands_before e new ≡ true) ⊎ (stands_before new e ≡ true)
apart e new h =
    elim (sides (pair_cmp e.key e.version new.key new.version) (pair_cmp new.key new.version e.key e.version) (pairs_total.antisymm (e.key, e.version) (new.key, new.version))) [
      | inl before ↦ inl before
      | inr (inl behind) ↦ inr behind
      | inr (inr same) ↦
          let q = then_equal (slice_cmp nat_cmp e.key new.key) (nat_cmp e.version new.version) same in
          let v : e.version ≡ new.version = ranked e.version new.version Equal (sym q.1) in
          let k : e.key ≡ new.key = key_eq-exact e.key new.key (key_eq-ties e.key new.key ∙ q.0) in
          absurd (both_ways (is_at new.key new.version e) h (pair_at new.key new.version e k v))
    ]

all_apart : {T : Type 0} (new : Entry T) (entries : List (Entry T)) → has_pair new.key new.version entries ≡ false
    → AllByRecursion (λ e. (stands_before e new ≡ true) ⊎ (stands_before new e ≡ true)) entries
all_apart new [] h = tt
all_apart new (e ∷ es) h =
    let parts = or_parts (is_at new.key new.version e) (has_pair new.key new.version es) h in
    (apart e new parts.0, all_apart new es parts.1)

-- entries in order, with one of a new pair, are in order
pub ordered_inserted : {T : Type 0} (new : Entry T) (entries : List (Entry T)) → IsOrdered entries → has_pair new.key new.version entries ≡ false → IsOrdered (inserted new entries)
ordered_inserted new entries ordered h =
    ascends_from stands_before (inserted new entries) (rises_put stands_before entry_trans new entries (rises_from stands_before entry_trans entries ordered) (all_apart new entries h))

-- what a test leaves of entries in order is in order
pub ordered_filter : {T : Type 0} (p : Entry T → Bool) (entries : List (Entry T)) → IsOrdered entries → IsOrdered (filter p entries)
ordered_filter p entries ordered = ascends_from stands_before (filter p entries) (rises_filter stands_before p entries (rises_from stands_before entry_trans entries ordered))

-- entries in order are determined by which they are
pub ordered_unique : {T : Type 0} (entries others : List (Entry T)) → IsOrdered entries → IsOrdered others → AllByRecursion (Holds others) entries → AllByRecursion (Holds entries) others → entries ≡ others
ordered_unique entries others h g there back =
    rises_unique stands_before entry_trans entry_itself entries others (rises_from stands_before entry_trans entries h) (rises_from stands_before entry_trans others g) there back

or_swap : (a b c : Bool) → (a || (b || c)) ≡ (b || (a || c))
or_swap true true c = refl
or_swap true false c = refl
or_swap false b c = refl

-- the pairs of entries with one more are the pair of that and those that were there
pub has_pair_inserted : {T : Type 0} (key : List ℕ) (version : ℕ) (new : Entry T) (entries : List (Entry T))
    → has_pair key version (inserted new entries) ≡ (is_at key version new || has_pair key version entries)
has_pair_inserted key version new [] = refl
has_pair_inserted key version new (e ∷ es) =
    elim (cases_Bool (stands_before e new)) [
      | inl less ↦ rw (less, has_pair_inserted key version new es) (or_swap (is_at key version e) (is_at key version new) (has_pair key version es))
      | inr past ↦ rw past refl
    ]

newer_swap : {T : Type 0} (a b : Bool) (e f : Entry T) (g : Option (Entry T)) → (a ≡ true → b ≡ true → e.version ≡ f.version → ⊥)
    → newer (cond a (Some e) None) (newer (cond b (Some f) None) g) ≡ newer (cond b (Some f) None) (newer (cond a (Some e) None) g)
newer_swap false b e f g apart = refl
newer_swap true false e f g apart = refl
newer_swap true true e f None apart =
    elim (cases_order e.version f.version) [
      | inl same ↦ absurd (apart refl refl same)
      | inr (inl less) ↦ rw (lt-ltb e.version f.version less, le-ltb f.version e.version (omega arith)) refl
      | inr (inr more) ↦ rw (lt-ltb f.version e.version more, le-ltb e.version f.version (omega arith)) refl
    ]
newer_swap true true e f (Some g) apart =
    elim (cases_order e.version f.version) [
      | inl same ↦ absurd (apart refl refl same)
      | inr (inl less) ↦ elim (cases_lt f.version g.version) [
        | inl up ↦ rw (lt-ltb f.version g.version up, lt-ltb e.version g.version (omega arith), lt-ltb f.version g.version up) refl
        | inr down ↦ rw (le-ltb f.version g.version down, lt-ltb e.version f.version less) (elim (cases_lt e.version g.version) [
          | inl up ↦ rw (lt-ltb e.version g.version up, le-ltb f.version g.version down) refl
          | inr low ↦ rw (le-ltb e.version g.version low, le-ltb f.version e.version (omega arith)) refl
        ])
      ]
      | inr (inr more) ↦ elim (cases_lt e.version g.version) [
        | inl up ↦ rw (lt-ltb e.version g.version up, lt-ltb f.version g.version (omega arith), lt-ltb e.version g.version up) refl
        | inr down ↦ rw (le-ltb e.version g.version down, lt-ltb f.version e.version more) (elim (cases_lt f.version g.version) [
          | inl up ↦ rw (lt-ltb f.version g.version up, le-ltb e.version g.version down) refl
          | inr low ↦ rw (le-ltb f.version g.version low, le-ltb e.version f.version (omega arith)) refl
        ])
      ]
    ]

-- the newest of entries with one of a new pair is that one or the newest that was there
pub latest_inserted : {T : Type 0} (key : List ℕ) (below : ℕ) (new : Entry T) (entries : List (Entry T)) → has_pair new.key new.version entries ≡ false
    → latest_of key below (inserted new entries) ≡ newer (if is_below key below new then Some new else None) (latest_of key below entries)
latest_inserted key below new [] lacks = refl
latest_inserted key below new (e ∷ es) lacks =
    elim (cases_Bool (stands_before e new)) [
      | inl less ↦
          let parts = or_parts (is_at new.key new.version e) (has_pair new.key new.version es) lacks in
          rw (less, latest_inserted key below new es parts.1)
          (newer_swap (is_below key below e) (is_below key below new) e new (latest_of key below es) (λ a b same.
          let k1 = key_eq-exact e.key key (below_before key below e a).0 in
          let k2 = key_eq-exact new.key key (below_before key below new b).0 in
          both_ways (is_at new.key new.version e) parts.0 (pair_at new.key new.version e (k1 ∙ sym k2) same)))
      | inr past ↦ rw past refl
    ]

newer_one : {T : Type 0} (a b : Option (Entry T)) (e : Entry T) → newer a b ≡ Some e → (a ≡ Some e) ⊎ (b ≡ Some e)
newer_one None b e h = inr h
newer_one (Some x) None e h = inl h
newer_one (Some x) (Some y) e h =
    elim (cases_Bool (ltb x.version y.version)) [
      | inl less ↦ inr (rw less at h)
      | inr past ↦ inl (rw past at h)
    ]

-- the newest of a key below a number is one of the entries, of that key and below that number
pub latest_from : {T : Type 0} (key : List ℕ) (below : ℕ) (entries : List (Entry T)) (e : Entry T) → latest_of key below entries ≡ Some e → Holds entries e × (is_below key below e ≡ true)
latest_from key below [] e h = absurd cc
latest_from {T} key below (x ∷ xs) e h =
    elim (newer_one (cond (is_below key below x) (Some x) None) (latest_of key below xs) e h) [
      | inl first ↦
          let q = cond_some (is_below key below x) x e first in
          (inl (sym q.1), subst (λ (t : Entry T). is_below key below t ≡ true) q.1 q.0)
      | inr later ↦ let rest = latest_from key below xs e later in (inr rest.0, rest.1)
    ]
