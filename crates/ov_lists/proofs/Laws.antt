-- Laws on what stays of entries in order, and on the next key.
use Rattle.std.proofs.Common.{◌≡◌, ℕ, ◌≤◌, ◌⊎◌, Bool, true, false, cond, ◌||◌, ◌&&◌, leb, ltb, List, [], ◌∷◌, filter, Option, Some, None, refl, sym, ap, subst, ◌∙◌, arith, inl, inr, nat_cmp, is_lt}
use Rattle.std.specs.Cmp.Lexicographic.{slice_cmp}
use Rattle.std.specs.List.{AllByRecursion}
use Rattle.std.specs.Ordering.{ordering_then}
use Rattle.std.specs.declared.cmp.Ordering.{Ordering}
use Rattle.std.specs.declared.cmp.Ordering.TheVariants.{Less, Equal, Greater}
use Rattle.std.proofs.lemmas.Bool.{cases_Bool, both_ways, and_from, and_parts, le-leb, leb-true, leb-false, ltb-true, lt-ltb, eq-eqb, false_from_ne_true}
use Rattle.std.proofs.lemmas.Cmp.{nat_list_cmp_total}
use Rattle.std.proofs.lemmas.Option.{same_Some}
use Rattle.ov_base.specs.Key.{key_eq}
use Rattle.ov_base.specs.Lemmas.{key_eq-exact}
use Rattle.ov_base.proofs.Keys.{key_eq-self}
use Rattle.ov_base.proofs.Lists.{all_weaker, all_filter}
use Rattle.ov_base.proofs.Orders.{before_itself}
use Rattle.ov_lists.specs.Entries.{Entry, stands_before, IsOrdered, newer, is_below, latest_of, is_inside, by_version, window_of, is_from, next_key_of, is_version, is_kept, thinned}
use Rattle.ov_lists.proofs.Entries.{entry_trans, entry_itself, entry_one_way, below_before, latest_from}
use Rattle.ov_lists.proofs.Orders.{Rises, rises_from, Holds, all_holds, holds_each}
use Rattle.ov_lists.proofs.Sorting.{holds_passing}
use Rattle.ov_lists.proofs.Thinning.{first_reaches, next_reaches}

-- ---- entries that are held

option_cases : {A : Type 0} (o : Option A) → (o ≡ None) ⊎ ((x : A) × (o ≡ Some x))
option_cases None = inl refl
option_cases (Some x) = inr (x, refl)

none_is_no_one : {A : Type 0} (x : A) → None ≡ Some x → ⊥
none_is_no_one x h = absurd cc

-- what a test leaves is held
holds_filter : {A : Type 0} (p : A → Bool) (xs : List A) (x : A) → Holds (filter p xs) x → Holds xs x
holds_filter p xs x h = all_holds (Holds xs) (filter p xs) x (all_filter p (Holds xs) xs (holds_each xs)) h

-- what stands behind an entry is not of its pair
not_again : {T : Type 0} (x e f : Entry T) → stands_before x f ≡ true → e ≡ x → e.key ≡ f.key → e.version ≡ f.version → ⊥
not_again x e f behind same key version =
    let here : stands_before e f ≡ true = subst (λ t. stands_before t f ≡ true) (sym same) behind in
    let itself : stands_before f f ≡ true = rw (key, version) at here in
    both_ways (stands_before f f) (entry_itself f) itself

rises_once : {T : Type 0} (entries : List (Entry T)) (e f : Entry T) → Rises stands_before entries → Holds entries e → Holds entries f → e.key ≡ f.key → e.version ≡ f.version → e ≡ f
rises_once [] e f rises he hf key version = absurd he
rises_once (x ∷ xs) e f rises he hf key version =
    elim he [
      | inl e_first ↦ elim hf [
        | inl f_first ↦ e_first ∙ sym f_first
        | inr f_more ↦ absurd (not_again x e f (all_holds (λ y. stands_before x y ≡ true) xs f rises.0 f_more) e_first key version)
      ]
      | inr e_more ↦ elim hf [
        | inl f_first ↦ absurd (not_again x f e (all_holds (λ y. stands_before x y ≡ true) xs e rises.0 e_more) f_first (sym key) (sym version))
        | inr f_more ↦ rises_once xs e f rises.1 e_more f_more key version
      ]
    ]

-- entries in order hold one of a pair
held_once : {T : Type 0} (entries : List (Entry T)) (e f : Entry T) → IsOrdered entries → Holds entries e → Holds entries f → e.key ≡ f.key → e.version ≡ f.version → e ≡ f
held_once entries e f ordered he hf key version = rises_once entries e f (rises_from stands_before entry_trans entries ordered) he hf key version

-- the newest is no older than any that is held, of its key and below the number
held_reaches : {T : Type 0} (key : List ℕ) (below : ℕ) (entries : List (Entry T)) (e : Entry T) → Holds entries e → is_below key below e ≡ true
    → (g : Entry T) × ((latest_of key below entries ≡ Some g) × (e.version ≤ g.version))
held_reaches key below [] e h here = absurd h
held_reaches {T} key below (x ∷ xs) e h here =
    elim h [
      | inl same ↦ subst (λ (t : Entry T). (g : Entry T) × ((newer (cond (is_below key below t) (Some t) None) (latest_of key below xs) ≡ Some g) × (e.version ≤ g.version))) same
          (subst (λ (b : Bool). (g : Entry T) × ((newer (cond b (Some e) None) (latest_of key below xs) ≡ Some g) × (e.version ≤ g.version))) (sym here) (first_reaches e (latest_of key below xs)))
      | inr more ↦ let rest = held_reaches key below xs e more here in next_reaches (is_below key below x) x (latest_of key below xs) e.version rest.0 rest.1.0 rest.1.1
    ]

-- ---- what thinning keeps

-- where there is no newest, a test leaves none
latest_none_left : {T : Type 0} (key : List ℕ) (number : ℕ) (p : Entry T → Bool) (entries : List (Entry T)) → latest_of key number entries ≡ None → latest_of key number (filter p entries) ≡ None
latest_none_left key number p entries none =
    elim (option_cases (latest_of key number (filter p entries))) [
      | inl nothing ↦ nothing
      | inr some ↦
          let q = latest_from key number (filter p entries) some.0 some.1 in
          let g = held_reaches key number entries some.0 (holds_filter p entries some.0 q.0) q.1 in
          absurd (none_is_no_one g.0 (sym none ∙ g.1.0))
    ]

-- a test that the newest passes leaves it the newest
latest_left : {T : Type 0} (key : List ℕ) (number : ℕ) (p : Entry T → Bool) (entries : List (Entry T)) (g : Entry T) → IsOrdered entries → latest_of key number entries ≡ Some g → p g ≡ true
    → latest_of key number (filter p entries) ≡ Some g
latest_left key number p entries g ordered is passes =
    let q = latest_from key number entries g is in
    let z = held_reaches key number (filter p entries) g (holds_passing p entries g q.0 passes) q.1 in
    let r = latest_from key number (filter p entries) z.0 z.1.0 in
    let there = holds_filter p entries z.0 r.0 in
    let back = held_reaches key number entries z.0 there r.1 in
    let same : back.0 ≡ g = same_Some back.0 g (sym back.1.0 ∙ is) in
    let low : (z.0).version ≤ g.version = subst (λ t. (z.0).version ≤ t.version) same back.1.1 in
    let k1 : (z.0).key ≡ key = key_eq-exact (z.0).key key (below_before key number z.0 r.1).0 in
    let k2 : g.key ≡ key = key_eq-exact g.key key (below_before key number g q.1).0 in
    let v : (z.0).version ≡ g.version = omega (arith, low, z.1.1) in
    z.1.0 ∙ ap Some (held_once entries z.0 g ordered there q.0 (k1 ∙ sym k2) v)

-- the newest below a number stays where what is below another, no greater number goes
newest_kept : {T : Type 0} (key : List ℕ) (below number : ℕ) (entries : List (Entry T)) (g : Entry T) → below ≤ number → latest_of key number entries ≡ Some g → is_kept below true entries g ≡ true
newest_kept key below number entries g le is =
    elim (cases_Bool (leb below g.version)) [
      | inl high ↦ ap (λ b. b || is_version g.version (latest_of g.key below entries)) high
      | inr low ↦
          let q = latest_from key number entries g is in
          let mine : g.key ≡ key = key_eq-exact g.key key (below_before key number g q.1).0 in
          let less = leb-false below g.version low in
          let h = held_reaches g.key below entries g q.0 (and_from (key_eq g.key g.key) (ltb g.version below) (key_eq-self g.key) (lt-ltb g.version below less)) in
          let r = latest_from g.key below entries h.0 h.1.0 in
          let parts = and_parts (key_eq (h.0).key g.key) (ltb (h.0).version below) r.1 in
          let alike : key_eq (h.0).key key ≡ true = subst (λ t. key_eq (h.0).key t ≡ true) mine parts.0 in
          let under : ltb (h.0).version number ≡ true = lt-ltb (h.0).version number (omega (arith, ltb-true (h.0).version below parts.1, le)) in
          let back = held_reaches key number entries h.0 r.0 (and_from (key_eq (h.0).key key) (ltb (h.0).version number) alike under) in
          let same : back.0 ≡ g = same_Some back.0 g (sym back.1.0 ∙ is) in
          let v : (h.0).version ≡ g.version = omega (arith, subst (λ t. (h.0).version ≤ t.version) same back.1.1, h.1.1) in
          ap (λ b. b || is_version g.version (latest_of g.key below entries)) low ∙ ap (is_version g.version) h.1.0 ∙ eq-eqb (h.0).version g.version v
    ]

-- the newest below a number are as they were where only what is below another, no greater number and not the newest there went
pub latest_thinned : {T : Type 0} (key : List ℕ) (below number : ℕ) (entries : List (Entry T)) → IsOrdered entries → below ≤ number → latest_of key number (thinned below true entries) ≡ latest_of key number entries
latest_thinned key below number entries ordered le =
    elim (option_cases (latest_of key number entries)) [
      | inl none ↦ latest_none_left key number (is_kept below true entries) entries none ∙ sym none
      | inr some ↦ latest_left key number (is_kept below true entries) entries some.0 ordered some.1 (newest_kept key below number entries some.0 le some.1) ∙ sym some.1
    ]

filter_twice : {A : Type 0} (p q : A → Bool) → ((x : A) → p x ≡ true → q x ≡ true) → (xs : List A) → filter p (filter q xs) ≡ filter p xs
filter_twice p q more [] = refl
filter_twice {A} p q more (x ∷ xs) =
    elim (cases_Bool (q x)) [
      | inl kept ↦ rw kept (ap (λ (t : List A). cond (p x) (x ∷ t) t) (filter_twice p q more xs))
      | inr gone ↦ let out : p x ≡ false = false_from_ne_true (p x) (λ passes. both_ways (q x) gone (more x passes)) in rw (gone, out) (filter_twice p q more xs)
    ]

inside_kept : {T : Type 0} (from number below : ℕ) (keep_last : Bool) (entries : List (Entry T)) → below ≤ from → (e : Entry T) → is_inside from number e ≡ true → is_kept below keep_last entries e ≡ true
inside_kept from number below keep_last entries le e inside =
    let parts = and_parts (leb from e.version) (ltb e.version number) inside in
    ap (λ b. b || (keep_last && is_version e.version (latest_of e.key below entries))) (le-leb below e.version (omega (arith, leb-true from e.version parts.0, le)))

-- a window that begins no lower is as it was
pub window_thinned : {T : Type 0} (from number below : ℕ) (keep_last : Bool) (entries : List (Entry T)) → below ≤ from → window_of from number (thinned below keep_last entries) ≡ window_of from number entries
window_thinned from number below keep_last entries le =
    ap by_version (filter_twice (is_inside from number) (is_kept below keep_last entries) (inside_kept from number below keep_last entries le) entries)

-- ---- the next key

lower_first : (o p : Ordering) → is_lt o ≡ true → is_lt (ordering_then o p) ≡ true
lower_first Less p h = refl
lower_first Equal p h = absurd cc
lower_first Greater p h = absurd cc

-- what stands behind an entry is not of a lower key
no_lower_key : {T : Type 0} (e f : Entry T) → stands_before e f ≡ true → is_lt (slice_cmp nat_cmp f.key e.key) ≡ false
no_lower_key e f behind =
    false_from_ne_true (is_lt (slice_cmp nat_cmp f.key e.key)) (λ lower.
    both_ways (stands_before f e) (entry_one_way e f behind) (lower_first (slice_cmp nat_cmp f.key e.key) (nat_cmp f.version e.version) lower))

-- no key of entries in order that is at least another, or above it, is below the next key
pub next_key_least : {T : Type 0} (from : List ℕ) (past : Bool) (entries : List (Entry T)) (key : List ℕ) → Rises stands_before entries → next_key_of from past entries ≡ Some key
    → AllByRecursion (λ e. is_from from past e.key ≡ true → is_lt (slice_cmp nat_cmp e.key key) ≡ false) entries
next_key_least from past [] key rises is = tt
next_key_least {T} from past (x ∷ xs) key rises is =
    elim (cases_Bool (is_from from past x.key)) [
      | inl here ↦
          let is' : Some x.key ≡ Some key = rw here at is in
          let same = same_Some x.key key is' in (
            λ _. rw (← same) (before_itself nat_list_cmp_total x.key),
            all_weaker (λ f. stands_before x f ≡ true) (λ f. is_from from past f.key ≡ true → is_lt (slice_cmp nat_cmp f.key key) ≡ false) (λ f behind _. rw (← same) (no_lower_key x f behind)) xs rises.0,
          )
      | inr other ↦
          let is' : next_key_of from past xs ≡ Some key = rw other at is in
          (λ there. absurd (both_ways (is_from from past x.key) other there), next_key_least from past xs key rises.1 is')
    ]
