-- Places among entries in order: what the search keeps, and what a place tells of a pair, of the newest and of a window.
use Rattle.std.proofs.Common.{◌≡◌, ℕ, zero, suc, ◌+◌, ◌<◌, ◌≤◌, Bool, true, false, cond, ltb, leb, List, [], ◌∷◌, length, get_or, take, insert, filter, Some, None, refl, sym, ap, subst, ◌∙◌, arith, inl, inr}
use Rattle.std.proofs.lemmas.Bool.{cases_Bool, both_ways, and_left, and_right, and_cases, le-ltb, leb-false, ltb-false, ltb-true, lt-leb, lt-ltb, false_from_ne_true, cases_lt, cases_order}
use Rattle.std.proofs.lemmas.List.{get_or_default}
use Rattle.ov_base.specs.Key.{key_eq}
use Rattle.ov_base.specs.Lemmas.{key_eq-exact}
use Rattle.ov_base.proofs.Keys.{key_eq-self}
use Rattle.ov_lists.specs.Entries.{Entry, put, is_before, stands_before, IsOrdered, is_at, has_pair, inserted, is_below, latest_of, is_inside}
use Rattle.ov_lists.specs.Places.{AreBefore, IsPlace, AreOutside, Passes}
use Rattle.ov_lists.proofs.Orders.{ascends_far}
use Rattle.ov_lists.proofs.Entries.{pair_trans, entry_trans, entry_itself, entry_one_way, same_key_before, between, at_pair, before_not_at, has_pair_at, lacks_pair, below_before, before_below, behind_not_below, latest_none, latest_some}

-- what is read at a place is there whatever the default
pub read_at : {T : Type 0} (entries : List (Entry T)) (m : ℕ) (e d : Entry T) → m < length entries → e ≡ get_or entries m e → get_or entries m d ≡ e
read_at entries m e d lt is = get_or_default entries m d e lt ∙ sym is

pub far : {T : Type 0} (entries : List (Entry T)) → IsOrdered entries → (i j : ℕ) (d : Entry T) → i < j → j < length entries → stands_before (get_or entries i d) (get_or entries j d) ≡ true
far entries ordered i j d lt within = ascends_far stands_before entry_trans entries ordered i j d lt within

-- what stands at a place or behind it does not stand before what is there
pub not_before_lower : {T : Type 0} (entries : List (Entry T)) → IsOrdered entries → (m k : ℕ) (d : Entry T) → m ≤ k → k < length entries → stands_before (get_or entries k d) (get_or entries m d) ≡ false
not_before_lower entries ordered m k d le within =
    elim (cases_lt m k) [
      | inl lt ↦ entry_one_way (get_or entries m d) (get_or entries k d) (far entries ordered m k d lt within)
      | inr ge ↦ let same : k ≡ m = omega arith in rw same (entry_itself (get_or entries m d))
    ]

-- ---- the search

pub before_upto : {T : Type 0} (entries : List (Entry T)) → IsOrdered entries → (m : ℕ) (e : Entry T) (key : List ℕ) (number : ℕ)
    → m < length entries → e ≡ get_or entries m e → is_before e.key e.version key number ≡ true
    → (k : ℕ) (d : Entry T) → k < m + 1 → is_before (get_or entries k d).key (get_or entries k d).version key number ≡ true
before_upto {T} entries ordered m e key number lt is here k d under =
    let there : is_before (get_or entries m d).key (get_or entries m d).version key number ≡ true =
    subst (λ (t : Entry T). is_before t.key t.version key number ≡ true) (sym (read_at entries m e d lt is)) here in
    elim (cases_lt k m) [
      | inl less ↦ pair_trans (get_or entries k d).key (get_or entries k d).version (get_or entries m d).key (get_or entries m d).version key number (far entries ordered k m d less lt) there
      | inr past ↦ let same : k ≡ m = omega arith in rw same there
    ]

pub behind_from : {T : Type 0} (entries : List (Entry T)) → IsOrdered entries → (m : ℕ) (e : Entry T) (key : List ℕ) (number : ℕ)
    → m < length entries → e ≡ get_or entries m e → is_before e.key e.version key number ≡ false
    → (k : ℕ) (d : Entry T) → m ≤ k → k < length entries → is_before (get_or entries k d).key (get_or entries k d).version key number ≡ false
behind_from {T} entries ordered m e key number lt is here k d past within =
    let there : is_before (get_or entries m d).key (get_or entries m d).version key number ≡ false =
    subst (λ (t : Entry T). is_before t.key t.version key number ≡ false) (sym (read_at entries m e d lt is)) here in
    elim (cases_lt m k) [
      | inl less ↦ false_from_ne_true (is_before (get_or entries k d).key (get_or entries k d).version key number) (λ yes_here.
          both_ways (is_before (get_or entries m d).key (get_or entries m d).version key number) there
          (pair_trans (get_or entries m d).key (get_or entries m d).version (get_or entries k d).key (get_or entries k d).version key number (far entries ordered m k d less within) yes_here))
      | inr ge ↦ let same : k ≡ m = omega arith in rw same there
    ]

-- ---- a pair

pub pair_there : {T : Type 0} (key : List ℕ) (version : ℕ) (entries : List (Entry T)) (place : ℕ) (e : Entry T)
    → place < length entries → e ≡ get_or entries place e → is_at key version e ≡ true → has_pair key version entries ≡ true
pair_there {T} key version entries place e lt is here =
    has_pair_at key version entries place e lt (subst (λ (t : Entry T). is_at key version t ≡ true) is here)

pub pair_not_there : {T : Type 0} (key : List ℕ) (version : ℕ) (entries : List (Entry T)) (place : ℕ)
    → IsOrdered entries → IsPlace key version entries place
    → ((d : Entry T) → place < length entries → is_at key version (get_or entries place d) ≡ false) → has_pair key version entries ≡ false
pair_not_there {T} key version entries place ordered h here =
    lacks_pair key version entries (λ i d lt.
    elim (cases_order i place) [
      | inl same ↦ rw same (here d (omega arith))
      | inr (inl under) ↦ before_not_at key version (get_or entries i d) (h.before i d under)
      | inr (inr past) ↦ false_from_ne_true (is_at key version (get_or entries i d)) (λ there.
          let q = at_pair key version (get_or entries i d) there in
          let up = far entries ordered place i d past lt in
          let up' : is_before (get_or entries place d).key (get_or entries place d).version key version ≡ true = rw (q.0, q.1) at up in
          both_ways (is_before (get_or entries place d).key (get_or entries place d).version key version) (h.behind place d (omega arith) (omega arith)) up')
    ])

-- one more goes to its place
pub put_at : {A : Type 0} (before : A → A → Bool) (new : A) (xs : List A) (i : ℕ) → i ≤ length xs
    → ((k : ℕ) (d : A) → k < i → before (get_or xs k d) new ≡ true) → ((d : A) → i < length xs → before (get_or xs i d) new ≡ false) → put before new xs ≡ insert xs i new
put_at before new [] zero le under past = refl
put_at before new [] (suc i) le under past = absurd (omega arith)
put_at before new (x ∷ xs) zero le under past = rw (past x (omega arith)) refl
put_at before new (x ∷ xs) (suc i) le under past =
    rw (under 0 x (omega arith)) (ap (λ (t : List _). x ∷ t) (put_at before new xs i (omega arith) (λ k d lt. under (suc k) d (omega arith)) (λ d lt. past d (omega arith))))

pub inserted_at : {T : Type 0} (new : Entry T) (entries : List (Entry T)) (place : ℕ) → IsPlace new.key new.version entries place → inserted new entries ≡ insert entries place new
inserted_at new entries place h = put_at stands_before new entries place h.within h.before (λ d lt. h.behind place d (omega arith) lt)

-- ---- the newest

pub latest_here : {T : Type 0} (key : List ℕ) (below : ℕ) (entries : List (Entry T)) (place m : ℕ) (e : Entry T)
    → IsOrdered entries → IsPlace key below entries place → place ≡ m + 1 → e ≡ get_or entries m e → key_eq e.key key ≡ true → latest_of key below entries ≡ Some e
latest_here {T} key below entries place m e ordered h next is here =
    let lt : m < length entries = omega (arith, h.within) in
    let there : is_before e.key e.version key below ≡ true = subst (λ (t : Entry T). is_before t.key t.version key below ≡ true) (sym is) (h.before m e (omega arith)) in
    latest_some key below entries m e lt is (before_below key below e here there)
    (λ i d under. elim (cases_Bool (is_below key below (get_or entries i d))) [
      | inl one ↦ inr (
          let up = far entries ordered i m d under lt in
          let up' : stands_before (get_or entries i d) e ≡ true = subst (λ (t : Entry T). stands_before (get_or entries i d) t ≡ true) (read_at entries m e d lt is) up in
          let k1 : (get_or entries i d).key ≡ key = key_eq-exact (get_or entries i d).key key (below_before key below (get_or entries i d) one).0 in
          let k2 : e.key ≡ key = key_eq-exact e.key key here in
          let same : key_eq (get_or entries i d).key e.key ≡ true = rw (k1, k2) (key_eq-self key) in
          let less : ltb (get_or entries i d).version e.version ≡ true = sym (same_key_before (get_or entries i d).key (get_or entries i d).version e.key e.version same) ∙ up' in
          omega (arith, ltb-true (get_or entries i d).version e.version less))
      | inr other ↦ inl other
    ])
    (λ i d past within. behind_not_below key below (get_or entries i d) (h.behind i d (omega arith) within))

pub latest_nowhere : {T : Type 0} (key : List ℕ) (below : ℕ) (entries : List (Entry T)) (place : ℕ)
    → IsPlace key below entries place → place ≡ 0 → latest_of key below entries ≡ None
latest_nowhere key below entries place h none = latest_none key below entries (λ i d within. behind_not_below key below (get_or entries i d) (h.behind i d (omega arith) within))

pub latest_other : {T : Type 0} (key : List ℕ) (below : ℕ) (entries : List (Entry T)) (place m : ℕ) (e : Entry T)
    → IsOrdered entries → IsPlace key below entries place → place ≡ m + 1 → e ≡ get_or entries m e → key_eq e.key key ≡ false → latest_of key below entries ≡ None
latest_other {T} key below entries place m e ordered h next is other =
    let lt : m < length entries = omega (arith, h.within) in
    latest_none key below entries (λ i d within.
    elim (cases_lt m i) [
      | inl past ↦ behind_not_below key below (get_or entries i d) (h.behind i d (omega arith) within)
      | inr under ↦ false_from_ne_true (is_below key below (get_or entries i d)) (λ one.
          let q = below_before key below (get_or entries i d) one in
          let k1 : (get_or entries i d).key ≡ key = key_eq-exact (get_or entries i d).key key q.0 in
          let up = not_before_lower entries ordered i m d under lt in
          let up' : stands_before e (get_or entries i d) ≡ false = subst (λ (t : Entry T). stands_before t (get_or entries i d) ≡ false) (read_at entries m e d lt is) up in
          let low : is_before e.key e.version key (get_or entries i d).version ≡ false = rw k1 at up' in
          let high : is_before e.key e.version key below ≡ true = subst (λ (t : Entry T). is_before t.key t.version key below ≡ true) (sym is) (h.before m e (omega arith)) in
          both_ways (key_eq e.key key) other (between e.key e.version key (get_or entries i d).version below low high).0)
    ])

-- ---- a window

-- entries from one of a key on, before a number of that key
pub run_of : {T : Type 0} (entries : List (Entry T)) (place next number : ℕ) (e : Entry T) → IsOrdered entries → place < length entries → e ≡ get_or entries place e
    → IsPlace e.key number entries next → (k : ℕ) (d : Entry T) → place ≤ k → k < next → (e.version ≤ (get_or entries k d).version) × ((get_or entries k d).version < number)
run_of {T} entries place next number e ordered lt is h k d past under =
    let up = not_before_lower entries ordered place k d past (omega (arith, h.within)) in
    let up' : stands_before (get_or entries k d) e ≡ false = subst (λ (t : Entry T). stands_before (get_or entries k d) t ≡ false) (read_at entries place e d lt is) up in
    (between (get_or entries k d).key (get_or entries k d).version e.key e.version number up' (h.before k d under)).1

run_onward : {T : Type 0} (entries : List (Entry T)) (place next number : ℕ) (e : Entry T) → place < length entries → e ≡ get_or entries place e
    → IsPlace e.key number entries next → e.version < number → place < next
run_onward {T} entries place next number e lt is h less =
    elim (cases_lt place next) [
      | inl onward ↦ onward
      | inr back ↦ absurd (
          let no_more : is_before e.key e.version e.key number ≡ false = subst (λ (t : Entry T). is_before t.key t.version e.key number ≡ false) (sym is) (h.behind place e back lt) in
          both_ways (is_before e.key e.version e.key number) no_more (same_key_before e.key e.version e.key number (key_eq-self e.key) ∙ lt-ltb e.version number less))
    ]

-- from an entry below a window on, up to the window's start of that key
pub passes_front : {T : Type 0} (from below : ℕ) (entries : List (Entry T)) (place next : ℕ) (e : Entry T) → IsOrdered entries → place < length entries → e ≡ get_or entries place e
    → IsPlace e.key from entries next → e.version < from → Passes from below entries place next
passes_front from below entries place next e ordered lt is h less = record {
  onward = run_onward entries place next from e lt is h less;
  within = h.within;
  outside = λ k d past under.
      let q = run_of entries place next from e ordered lt is h k d past under in
      and_left (leb from (get_or entries k d).version) (ltb (get_or entries k d).version below) (lt-leb from (get_or entries k d).version q.1);
}

-- from an entry past a window on, up to the end of that key
pub passes_back : {T : Type 0} (from below : ℕ) (entries : List (Entry T)) (place next number : ℕ) (e : Entry T) → IsOrdered entries → place < length entries → e ≡ get_or entries place e
    → IsPlace e.key number entries next → e.version < number → below ≤ e.version → Passes from below entries place next
passes_back from below entries place next number e ordered lt is h less past_end = record {
  onward = run_onward entries place next number e lt is h less;
  within = h.within;
  outside = λ k d past under.
      let q = run_of entries place next number e ordered lt is h k d past under in
      and_right (leb from (get_or entries k d).version) (ltb (get_or entries k d).version below) (le-ltb (get_or entries k d).version below (omega (arith, q.0)));
}

-- what is passed is not in what a test leaves
pub filter_skip : {A : Type 0} (p : A → Bool) (xs : List A) (i j : ℕ) → i ≤ j
    → ((k : ℕ) (d : A) → i ≤ k → k < j → p (get_or xs k d) ≡ false) → filter p (take j xs) ≡ filter p (take i xs)
filter_skip p [] zero zero le h = refl
filter_skip p [] zero (suc j) le h = refl
filter_skip p [] (suc i) zero le h = refl
filter_skip p [] (suc i) (suc j) le h = refl
filter_skip p (x ∷ xs) zero zero le h = refl
filter_skip p (x ∷ xs) (suc i) zero le h = absurd (omega arith)
filter_skip p (x ∷ xs) zero (suc j) le h = rw (h 0 x (omega arith) (omega arith)) (filter_skip p xs zero j (omega arith) (λ k d lo hi. h (suc k) d (omega arith) (omega arith)))
filter_skip p (x ∷ xs) (suc i) (suc j) le h = ap (λ (t : List _). cond (p x) (x ∷ t) t) (filter_skip p xs i j (omega arith) (λ k d lo hi. h (suc k) d (omega arith) (omega arith)))

-- an entry outside a window that is not below it is past it
pub past_window : {T : Type 0} (from below : ℕ) (entries : List (Entry T)) (place : ℕ) (e : Entry T) → e ≡ get_or entries place e
    → AreOutside from below entries place (place + 1) → from ≤ e.version → below ≤ e.version
past_window {T} from below entries place e is h le =
    let out : is_inside from below e ≡ false = subst (λ (t : Entry T). is_inside from below t ≡ false) (sym is) (h place e (omega arith) (omega arith)) in
    elim (and_cases (leb from e.version) (ltb e.version below) out) [
      | inl low ↦ absurd (omega (arith, leb-false from e.version low))
      | inr high ↦ ltb-false e.version below high
    ]

-- an entry of a key below a number, and those before it, stand before them
pub run_begun : {T : Type 0} (entries : List (Entry T)) (place number : ℕ) (e : Entry T) → IsOrdered entries → place < length entries → e ≡ get_or entries place e → e.version < number
    → AreBefore e.key number entries (place + 1)
run_begun entries place number e ordered lt is less =
    before_upto entries ordered place e e.key number lt is (same_key_before e.key e.version e.key number (key_eq-self e.key) ∙ lt-ltb e.version number less)
