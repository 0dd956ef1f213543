-- Entries that stay: each is told by the next, and those that were passed are in front.
use Rattle.std.proofs.Common.{◌≡◌, ℕ, zero, suc, ◌+◌, ◌<◌, ◌≤◌, Bool, true, false, not, cond, ◌||◌, ◌&&◌, leb, ltb, eqb, List, [], ◌∷◌, ◌++◌, length, get_or, set, take, drop, filter, Option, Some, None, refl, sym, ap, subst, ◌∙◌, arith, inl, inr}
use Rattle.std.specs.List.{swap}
use Rattle.std.proofs.lemmas.Bool.{cases_Bool, both_ways, and_from, false_from_ne_true, le-leb, leb-false, ltb-true, ltb-false, lt-ltb, eqb-true, eq-eqb, cases_lt}
use Rattle.std.proofs.lemmas.List.{get_or_default, take-set-le, drop-set-lt, set-set, append-nil}
use Rattle.ov_base.specs.Key.{key_eq}
use Rattle.ov_base.specs.Lemmas.{key_eq-exact}
use Rattle.ov_base.proofs.Keys.{key_eq-self}
use Rattle.ov_lists.specs.Entries.{Entry, is_before, stands_before, IsOrdered, newer, is_below, latest_of, is_version, is_kept}
use Rattle.ov_lists.specs.Places.{IsPlace}
use Rattle.ov_lists.specs.Thin.{is_last, stays_at}
use Rattle.ov_lists.proofs.Entries.{same_key_before, below_before, entry_one_way, between}
use Rattle.ov_lists.proofs.Places.{before_upto, behind_from, far, read_at, latest_here}

-- ---- lists

module _ {X : Type 0} where
  pub filter_take_more : (p : X → Bool) (xs : List X) (i : ℕ) (e : X) → i < length xs → e ≡ get_or xs i e → filter p (take (suc i) xs) ≡ filter p (take i xs) ++ cond (p e) (e ∷ []) []
  filter_take_more p [] i e lt is = absurd (omega (arith, lt))
  filter_take_more p (x ∷ xs) zero e lt is = ap (λ (t : X). cond (p t) (t ∷ []) []) (sym is)
  filter_take_more p (x ∷ xs) (suc i) e lt is =
      elim (cases_Bool (p x)) [
        | inl kept ↦ rw kept (ap (λ (t : List X). x ∷ t) (filter_take_more p xs i e (omega (arith, lt)) is))
        | inr left_out ↦ rw left_out (filter_take_more p xs i e (omega (arith, lt)) is)
      ]

  -- one more that passes is one more of those that do
  pub filter_take_passing : (p : X → Bool) (xs found : List X) (place next : ℕ) (e : X) → next ≡ place + 1 → place < length xs → e ≡ get_or xs place e → p e ≡ true → found ≡ filter p (take place xs)
      → found ++ e ∷ [] ≡ filter p (take next xs)
  filter_take_passing p xs found place next e more lt is passes so_far =
      let same : suc place ≡ next = omega (arith, more) in
      ap (λ (t : List X). t ++ e ∷ []) so_far ∙ sym (filter_take_more p xs place e lt is ∙ ap (λ b. filter p (take place xs) ++ cond b (e ∷ []) []) passes)
      ∙ ap (λ n. filter p (take n xs)) same

  take_set_more : (xs : List X) (i : ℕ) (e : X) → i < length xs → take (suc i) (set xs i e) ≡ take i xs ++ e ∷ []
  take_set_more [] i e lt = absurd (omega (arith, lt))
  take_set_more (x ∷ xs) zero e lt = refl
  take_set_more (x ∷ xs) (suc i) e lt = ap (λ (t : List X). x ∷ t) (take_set_more xs i e (omega (arith, lt)))

  -- what is moved to the front stands behind those in front
  pub swap_front : (xs : List X) (i j : ℕ) (e : X) → i ≤ j → j < length xs → e ≡ get_or xs j e → take (suc i) (swap xs i j) ≡ take i xs ++ e ∷ []
  swap_front [] i j e le lt is = absurd (omega (arith, lt))
  swap_front (x ∷ xs) i j e le lt is =
      let read : get_or (x ∷ xs) j x ≡ e = get_or_default (x ∷ xs) j x e lt ∙ sym is in
      elim (cases_lt i j) [
        | inl less ↦ take-set-le (suc i) (set (x ∷ xs) i (get_or (x ∷ xs) j x)) j (get_or (x ∷ xs) i x) (omega (arith, less))
            ∙ take_set_more (x ∷ xs) i (get_or (x ∷ xs) j x) (omega (arith, less, lt)) ∙ ap (λ (t : X). take i (x ∷ xs) ++ t ∷ []) read
        | inr more ↦
            let same : j ≡ i = omega (arith, le, more) in
            ap (take (suc i)) (ap (λ n. set (set (x ∷ xs) i (get_or (x ∷ xs) j x)) n (get_or (x ∷ xs) i x)) same ∙ set-set (x ∷ xs) i (get_or (x ∷ xs) j x) (get_or (x ∷ xs) i x))
            ∙ take_set_more (x ∷ xs) i (get_or (x ∷ xs) i x) (omega (arith, same, lt))
            ∙ ap (λ (t : X). take i (x ∷ xs) ++ t ∷ []) (ap (λ n. get_or (x ∷ xs) n x) (sym same) ∙ read)
      ]

  pub swap_back : (xs : List X) (i j : ℕ) → i ≤ j → drop (suc j) (swap xs i j) ≡ drop (suc j) xs
  swap_back [] i j le = refl
  swap_back (x ∷ xs) i j le =
      drop-set-lt (suc j) (set (x ∷ xs) i (get_or (x ∷ xs) j x)) j (get_or (x ∷ xs) i x) (omega arith)
      ∙ drop-set-lt (suc j) (x ∷ xs) i (get_or (x ∷ xs) j x) (omega (arith, le))

  pub drop_next : (xs : List X) (i : ℕ) → drop (suc i) xs ≡ drop 1 (drop i xs)
  drop_next [] zero = refl
  drop_next [] (suc i) = refl
  drop_next (x ∷ xs) zero = refl
  drop_next (x ∷ xs) (suc i) = drop_next xs i

-- ---- an entry and the next

and_itself : (k : Bool) → (k && true) ≡ k
and_itself true = refl
and_itself false = refl

pub stays_end : {T : Type 0} (below : ℕ) (keep_last : Bool) (entries : List (Entry T)) (place : ℕ) (e : Entry T) → place + 1 ≡ length entries → e ≡ get_or entries place e
    → stays_at below keep_last entries place ≡ (leb below e.version || keep_last)
stays_end below keep_last [] place e end is = absurd (omega (arith, end))
stays_end {T} below keep_last (x ∷ []) zero e end is =
    subst (λ (t : Entry T). (leb below x.version || (keep_last && true)) ≡ (leb below t.version || keep_last)) (sym is)
    (ap (λ t. leb below x.version || t) (and_itself keep_last))
stays_end below keep_last (x ∷ y ∷ ys) zero e end is = absurd (omega (arith, end))
stays_end below keep_last (x ∷ xs) (suc place) e end is = stays_end below keep_last xs place e (omega (arith, end)) is

pub stays_next : {T : Type 0} (below : ℕ) (keep_last : Bool) (entries : List (Entry T)) (place : ℕ) (e f : Entry T) → place + 1 < length entries → e ≡ get_or entries place e → f ≡ get_or entries (place + 1) f
    → stays_at below keep_last entries place ≡ (leb below e.version || (keep_last && not (is_below e.key below f)))
stays_next below keep_last [] place e f lt is next = absurd (omega (arith, lt))
stays_next below keep_last (x ∷ []) zero e f lt is next = absurd (omega (arith, lt))
stays_next {T} below keep_last (x ∷ y ∷ ys) zero e f lt is next =
    subst (λ (t : Entry T). (leb below x.version || (keep_last && not (is_below x.key below y))) ≡ (leb below t.version || (keep_last && not (is_below t.key below f)))) (sym is)
    (ap (λ (t : Entry T). leb below x.version || (keep_last && not (is_below x.key below t))) (sym next))
stays_next {T} below keep_last (x ∷ xs) (suc place) e f lt is next =
    let step : suc place + 1 ≡ suc (place + 1) = omega arith in
    stays_next below keep_last xs place e f (omega (arith, lt)) is (subst (λ (n : ℕ). f ≡ get_or (x ∷ xs) n f) step next)

-- an entry that is not below the number stays
pub stays_high : {T : Type 0} (below : ℕ) (keep_last : Bool) (entries : List (Entry T)) (place : ℕ) (e : Entry T) → place < length entries → e ≡ get_or entries place e → below ≤ e.version
    → stays_at below keep_last entries place ≡ true
stays_high below keep_last [] place e lt is high = absurd (omega (arith, lt))
stays_high {T} below keep_last (x ∷ xs) zero e lt is high =
    ap (λ b. b || (keep_last && is_last below x xs)) (ap (λ (t : Entry T). leb below t.version) (sym is) ∙ le-leb below e.version high)
stays_high below keep_last (x ∷ xs) (suc place) e lt is high = stays_high below keep_last xs place e (omega (arith, lt)) is high

-- what stands from a place on tells whether the entry there stays
pub stays_from : {T : Type 0} (below : ℕ) (keep_last : Bool) (entries : List (Entry T)) (place : ℕ) → stays_at below keep_last entries place ≡ stays_at below keep_last (drop place entries) 0
stays_from below keep_last [] zero = refl
stays_from below keep_last [] (suc place) = refl
stays_from below keep_last (x ∷ xs) zero = refl
stays_from below keep_last (x ∷ xs) (suc place) = stays_from below keep_last xs place

-- ---- the newest below a number

pub first_reaches : {T : Type 0} (f : Entry T) (o : Option (Entry T)) → (g : Entry T) × ((newer (Some f) o ≡ Some g) × (f.version ≤ g.version))
first_reaches f None = (f, (refl, omega arith))
first_reaches f (Some y) =
    elim (cases_Bool (ltb f.version y.version)) [
      | inl less ↦ (y, (rw less refl, omega (arith, ltb-true f.version y.version less)))
      | inr more ↦ (f, (rw more refl, omega arith))
    ]

pub next_reaches : {T : Type 0} (b : Bool) (x : Entry T) (o : Option (Entry T)) (version : ℕ) (g : Entry T) → o ≡ Some g → version ≤ g.version
    → (h : Entry T) × ((newer (cond b (Some x) None) o ≡ Some h) × (version ≤ h.version))
next_reaches false x o version g is le = (g, (is, le))
next_reaches true x o version g is le =
    elim (cases_Bool (ltb x.version g.version)) [
      | inl less ↦ (g, (ap (newer (Some x)) is ∙ rw less refl, le))
      | inr more ↦ (x, (ap (newer (Some x)) is ∙ rw more refl, omega (arith, le, ltb-false x.version g.version more)))
    ]

-- the newest is no older than any of its key below the number
pub latest_reaches : {T : Type 0} (key : List ℕ) (below : ℕ) (entries : List (Entry T)) (i : ℕ) (f : Entry T) → i < length entries → f ≡ get_or entries i f → is_below key below f ≡ true
    → (g : Entry T) × ((latest_of key below entries ≡ Some g) × (f.version ≤ g.version))
latest_reaches key below [] i f lt is here = absurd (omega (arith, lt))
latest_reaches {T} key below (x ∷ xs) zero f lt is here =
    subst (λ (t : Entry T). (g : Entry T) × ((newer (cond (is_below key below t) (Some t) None) (latest_of key below xs) ≡ Some g) × (f.version ≤ g.version))) is
    (subst (λ (b : Bool). (g : Entry T) × ((newer (cond b (Some f) None) (latest_of key below xs) ≡ Some g) × (f.version ≤ g.version))) (sym here) (first_reaches f (latest_of key below xs)))
latest_reaches {T} key below (x ∷ xs) (suc i) f lt is here =
    let rest = latest_reaches key below xs i f (omega (arith, lt)) is here in
    next_reaches (is_below key below x) x (latest_of key below xs) f.version rest.0 rest.1.0 rest.1.1

module _ {T : Type 0} (below : ℕ) (entries : List (Entry T)) (place : ℕ) (e : Entry T) (ordered : IsOrdered entries) (lt : place < length entries) (is : e ≡ get_or entries place e) (low : e.version < below) where
  newest_here : IsPlace e.key below entries (place + 1) → is_version e.version (latest_of e.key below entries) ≡ true
  newest_here h = rw (latest_here e.key below entries (place + 1) place e ordered h refl is (key_eq-self e.key)) (eq-eqb e.version e.version refl)

  ends_before : is_before e.key e.version e.key below ≡ true
  ends_before = same_key_before e.key e.version e.key below (key_eq-self e.key) ∙ lt-ltb e.version below low

  -- the last entry is the newest of its key
  newest_end : place + 1 ≡ length entries → is_version e.version (latest_of e.key below entries) ≡ true
  newest_end end = newest_here record {
    within = omega (arith, end);
    before = before_upto entries ordered place e e.key below lt is ends_before;
    behind = λ k d past within. absurd (omega (arith, past, within, end));
  }

  -- another is the newest of its key where the next is not of its key and below the number
  newest_next : (f : Entry T) → place + 1 < length entries → f ≡ get_or entries (place + 1) f → is_version e.version (latest_of e.key below entries) ≡ not (is_below e.key below f)
  newest_next f more next =
      let stands : stands_before e f ≡ true =
      subst (λ (t : Entry T). stands_before e t ≡ true) (read_at entries (place + 1) f e more next)
      (subst (λ (t : Entry T). stands_before t (get_or entries (place + 1) e) ≡ true) (sym is) (far entries ordered place (place + 1) e (omega arith) more)) in
      elim (cases_Bool (is_below e.key below f)) [
        | inl also ↦
            let g = latest_reaches e.key below entries (place + 1) f more next also in
            let same : f.key ≡ e.key = key_eq-exact f.key e.key (below_before e.key below f also).0 in
            let alike : key_eq e.key f.key ≡ true = rw same (key_eq-self e.key) in
            let less : ltb e.version f.version ≡ true = sym (same_key_before e.key e.version f.key f.version alike) ∙ stands in
            rw (also, g.1.0) (false_from_ne_true (eqb (g.0).version e.version) (λ equal. omega (arith, eqb-true (g.0).version e.version equal, ltb-true e.version f.version less, g.1.1)))
        | inr other ↦
            let past : is_before f.key f.version e.key below ≡ false =
            false_from_ne_true (is_before f.key f.version e.key below) (λ before.
            let q = between f.key f.version e.key e.version below (entry_one_way e f stands) before in
            both_ways (is_below e.key below f) other (and_from (key_eq f.key e.key) (ltb f.version below) q.0 (lt-ltb f.version below q.1.1))) in
            let h : IsPlace e.key below entries (place + 1) = record {
              within = omega (arith, more);
              before = before_upto entries ordered place e e.key below lt is ends_before;
              behind = λ k d far_on within. behind_from entries ordered (place + 1) f e.key below more next past k d far_on within;
            } in
            rw other (newest_here h)
      ]

or_right : (a b k x : Bool) → (a ≡ false → x ≡ b) → (a || (k && x)) ≡ (a || (k && b))
or_right true b k x h = refl
or_right false b k x h = ap (λ t. k && t) (h refl)

-- the next tells whether an entry stays
pub kept_is : {T : Type 0} (below : ℕ) (keep_last : Bool) (entries : List (Entry T)) (place : ℕ) (e : Entry T) → IsOrdered entries → place < length entries → e ≡ get_or entries place e
    → is_kept below keep_last entries e ≡ stays_at below keep_last entries place
kept_is below keep_last entries place e ordered lt is =
    elim (cases_lt (place + 1) (length entries)) [
      | inl more ↦
          let f = get_or entries (place + 1) e in
          let next : f ≡ get_or entries (place + 1) f = get_or_default entries (place + 1) e f more in
          or_right (leb below e.version) (not (is_below e.key below f)) keep_last (is_version e.version (latest_of e.key below entries))
          (λ low. newest_next below entries place e ordered lt is (leb-false below e.version low) f more next)
          ∙ sym (stays_next below keep_last entries place e f more is next)
      | inr last ↦
          let end : place + 1 ≡ length entries = omega (arith, last, lt) in
          or_right (leb below e.version) true keep_last (is_version e.version (latest_of e.key below entries))
          (λ low. newest_end below entries place e ordered lt is (leb-false below e.version low) end)
          ∙ ap (λ t. leb below e.version || t) (and_itself keep_last) ∙ sym (stays_end below keep_last entries place e end is)
    ]

-- ---- a step

some_of : {X : Type 0} (xs : List X) → 0 < length xs → X
some_of [] lt = absurd (omega (arith, lt))
some_of (x ∷ xs) lt = x

read_drop : {X : Type 0} (xs : List X) (i : ℕ) (d : X) → get_or xs i d ≡ get_or (drop i xs) 0 d
read_drop [] zero d = refl
read_drop [] (suc i) d = refl
read_drop (x ∷ xs) zero d = refl
read_drop (x ∷ xs) (suc i) d = read_drop xs i d

module _ {T : Type 0} (below : ℕ) (keep_last : Bool) (entries items : List (Entry T)) (kept place : ℕ) (ordered : IsOrdered entries) (le : kept ≤ place) (lt : place < length entries)
    (long : length items ≡ length entries) (front : take kept items ≡ filter (is_kept below keep_last entries) (take place entries)) (back : drop place items ≡ drop place entries) where
  same_test : stays_at below keep_last items place ≡ stays_at below keep_last entries place
  same_test = stays_from below keep_last items place ∙ ap (λ (t : List (Entry T)). stays_at below keep_last t 0) back ∙ sym (stays_from below keep_last entries place)

  same_read : (d : Entry T) → get_or items place d ≡ get_or entries place d
  same_read d = read_drop items place d ∙ ap (λ (t : List (Entry T)). get_or t 0 d) back ∙ sym (read_drop entries place d)

  one_more : (b : Bool) (d : Entry T) → stays_at below keep_last items place ≡ b
      → filter (is_kept below keep_last entries) (take (suc place) entries)
      ≡ filter (is_kept below keep_last entries) (take place entries) ++ cond b (get_or entries place d ∷ []) []
  one_more b d is =
      let e = get_or entries place d in
      let reads : e ≡ get_or entries place e = get_or_default entries place d e lt in
      filter_take_more (is_kept below keep_last entries) entries place e lt reads
      ∙ ap (λ t. filter (is_kept below keep_last entries) (take place entries) ++ cond t (e ∷ []) []) (kept_is below keep_last entries place e ordered lt reads ∙ sym same_test ∙ is)

  -- one that stays is moved behind those in front
  pub front_stays : stays_at below keep_last items place ≡ true → take (suc kept) (swap items kept place) ≡ filter (is_kept below keep_last entries) (take (suc place) entries)
  front_stays is =
      let d = some_of entries (omega (arith, lt)) in
      let e = get_or entries place d in
      let reads : e ≡ get_or items place e = get_or_default entries place d e lt ∙ sym (same_read e) in
      swap_front items kept place e le (omega (arith, lt, long)) reads ∙ ap (λ (t : List (Entry T)). t ++ e ∷ []) front ∙ sym (one_more true d is)

  -- one that goes is passed
  pub front_goes : stays_at below keep_last items place ≡ false → take kept items ≡ filter (is_kept below keep_last entries) (take (suc place) entries)
  front_goes is = front ∙ sym (append-nil (filter (is_kept below keep_last entries) (take place entries))) ∙ sym (one_more false (some_of entries (omega (arith, lt))) is)

  pub back_goes : drop (suc place) items ≡ drop (suc place) entries
  back_goes = drop_next items place ∙ ap (drop 1) back ∙ sym (drop_next entries place)

  pub back_stays : drop (suc place) (swap items kept place) ≡ drop (suc place) entries
  back_stays = swap_back items kept place le ∙ back_goes
