-- The next key: where it stands among entries, by their order with a key and number.
use Rattle.std.proofs.Common.{◌≡◌, ℕ, zero, suc, ◌<◌, Bool, true, false, not, cond, List, [], ◌∷◌, length, get_or, Some, None, refl, sym, ap, subst, ◌∙◌, arith, nat_cmp, is_lt}
use Rattle.std.specs.Cmp.Lexicographic.{slice_cmp}
use Rattle.std.specs.Ordering.{ordering_then, ordering_reverse}
use Rattle.std.specs.declared.cmp.Ordering.{Ordering}
use Rattle.std.specs.declared.cmp.Ordering.TheVariants.{Less, Equal, Greater}
use Rattle.std.proofs.lemmas.Bool.{both_ways, le-ltb, lt-ltb}
use Rattle.std.proofs.lemmas.Cmp.{nat_list_cmp_total}
use Rattle.ov_lists.specs.Entries.{Entry, is_before, is_from, next_key_of}
use Rattle.ov_lists.specs.Places.{IsPlace}
use Rattle.ov_lists.proofs.Entries.{less_is}

-- ---- the first of a kind

pub next_at : {T : Type 0} (from : List ℕ) (past : Bool) (entries : List (Entry T)) (place : ℕ) (e : Entry T) → place < length entries → e ≡ get_or entries place e
    → ((k : ℕ) (d : Entry T) → k < place → is_from from past (get_or entries k d).key ≡ false) → is_from from past e.key ≡ true → next_key_of from past entries ≡ Some e.key
next_at from past [] place e lt is lower here = absurd (omega (arith, lt))
next_at {T} from past (x ∷ xs) zero e lt is lower here =
    subst (λ (t : Entry T). cond (is_from from past t.key) (Some t.key) (next_key_of from past xs) ≡ Some e.key) is (rw here refl)
next_at from past (x ∷ xs) (suc place) e lt is lower here =
    rw (lower 0 x (omega arith)) (next_at from past xs place e (omega (arith, lt)) is (λ k d under. lower (suc k) d (omega (arith, under))) here)

pub next_none : {T : Type 0} (from : List ℕ) (past : Bool) (entries : List (Entry T)) → ((k : ℕ) (d : Entry T) → k < length entries → is_from from past (get_or entries k d).key ≡ false)
    → next_key_of from past entries ≡ None
next_none from past [] lower = refl
next_none from past (x ∷ xs) lower = rw (lower 0 x (omega arith)) (next_none from past xs (λ k d under. lower (suc k) d (omega (arith, under))))

-- ---- what a place tells

least_by : (o : Ordering) (version : ℕ) → is_lt (ordering_then o (nat_cmp version 0)) ≡ is_lt o
least_by Less version = refl
least_by Equal version = less_is version 0 ∙ le-ltb version 0 (omega arith)
least_by Greater version = refl

-- what stands before the number 0 of a key is of a lower key
pub least_of_key : (key : List ℕ) (version : ℕ) (from : List ℕ) (b : Bool) → is_before key version from 0 ≡ b → is_from from false key ≡ not b
least_of_key key version from b h = ap not (sym (least_by (slice_cmp nat_cmp key from) version) ∙ h)

up_to_by : (o : Ordering) (version number : ℕ) → is_lt (ordering_then o (nat_cmp version number)) ≡ true → is_lt (ordering_reverse o) ≡ false
up_to_by Less version number h = refl
up_to_by Equal version number h = refl
up_to_by Greater version number h = absurd cc

-- what stands before a number of a key is not of a key above
pub up_to_key : (key : List ℕ) (version : ℕ) (from : List ℕ) (number : ℕ) → is_before key version from number ≡ true → is_from from true key ≡ false
up_to_key key version from number h =
    ap is_lt (nat_list_cmp_total.antisymm from key) ∙ up_to_by (slice_cmp nat_cmp key from) version number h

past_by : (o : Ordering) (version number : ℕ) → version < number → is_lt (ordering_then o (nat_cmp version number)) ≡ false → is_lt (ordering_reverse o) ≡ true
past_by Less version number less h = absurd cc
past_by Equal version number less h = let yes_here = less_is version number ∙ lt-ltb version number less in absurd (both_ways _ h yes_here)
past_by Greater version number less h = refl

-- what does not stand before a number of a key, and is below it, is of a key above
pub past_key : (key : List ℕ) (version : ℕ) (from : List ℕ) (number : ℕ) → version < number → is_before key version from number ≡ false → is_from from true key ≡ true
past_key key version from number less h =
    ap is_lt (nat_list_cmp_total.antisymm from key) ∙ past_by (slice_cmp nat_cmp key from) version number less h

-- ---- at a place that was found

-- what stands at the place of a key and number does not stand before them
pub here_behind : {T : Type 0} (key : List ℕ) (number : ℕ) (entries : List (Entry T)) (place there : ℕ) (e : Entry T) → IsPlace key number entries place → there ≡ place
    → there < length entries → e ≡ get_or entries there e → is_before e.key e.version key number ≡ false
here_behind {T} key number entries place there e h same lt is =
    subst (λ (t : Entry T). is_before t.key t.version key number ≡ false) (sym is) (h.behind there e (omega (arith, same)) lt)

-- the place of the number 0 of a key has the least key that is at least that
pub from_at : {T : Type 0} (from : List ℕ) (entries : List (Entry T)) (place there : ℕ) (e : Entry T) → IsPlace from 0 entries place → there ≡ place
    → there < length entries → e ≡ get_or entries there e → next_key_of from false entries ≡ Some e.key
from_at from entries place there e h same lt is =
    next_at from false entries there e lt is (λ k d under. least_of_key (get_or entries k d).key (get_or entries k d).version from true (h.before k d (omega (arith, under, same))))
    (least_of_key e.key e.version from false (here_behind from 0 entries place there e h same lt is))

pub from_end : {T : Type 0} (from : List ℕ) (entries : List (Entry T)) (place : ℕ) → IsPlace from 0 entries place → place ≡ length entries → next_key_of from false entries ≡ None
from_end from entries place h end =
    next_none from false entries (λ k d under. least_of_key (get_or entries k d).key (get_or entries k d).version from true (h.before k d (omega (arith, under, end))))

-- the place of a number of a key above all its versions has the least key that is above that
pub past_at : {T : Type 0} (from : List ℕ) (number : ℕ) (entries : List (Entry T)) (place there : ℕ) (e : Entry T) → IsPlace from number entries place → there ≡ place
    → there < length entries → e ≡ get_or entries there e → e.version < number → next_key_of from true entries ≡ Some e.key
past_at from number entries place there e h same lt is less =
    next_at from true entries there e lt is (λ k d under. up_to_key (get_or entries k d).key (get_or entries k d).version from number (h.before k d (omega (arith, under, same))))
    (past_key e.key e.version from number less (here_behind from number entries place there e h same lt is))

pub past_end : {T : Type 0} (from : List ℕ) (number : ℕ) (entries : List (Entry T)) (place : ℕ) → IsPlace from number entries place → place ≡ length entries → next_key_of from true entries ≡ None
past_end from number entries place h end =
    next_none from true entries (λ k d under. up_to_key (get_or entries k d).key (get_or entries k d).version from number (h.before k d (omega (arith, under, end))))
