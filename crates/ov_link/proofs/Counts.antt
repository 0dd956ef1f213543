-- One call more: which nodes were asked, have answered or failed.
use Rattle.std.proofs.Common.{◌≡◌, ◌≢◌, ◌==◌, ℕ, ◌+◌, ◌≤◌, Bool, true, false, not, ◌&&◌, ◌||◌, List, [], ◌∷◌, ◌++◌, refl, ap, ◌∙◌, arith}
use Rattle.std.specs.Prelude.{if◌then◌else◌}
use Rattle.std.proofs.lemmas.Grind.{common_steps}
use Rattle.ov_link.specs.Links.{Rose}
use Rattle.ov_link.specs.Calls.{call_of, failures, has_replied, is_of, was_asked}
use Rattle.ov_link.specs.declared.link.Call.{Call}

-- ---- failures

-- a call more may be a failure more
pub failures_more : (centre part : ℕ) (calls : List Call) (call : Call) → failures centre part (calls ++ call ∷ []) ≡ failures centre part calls + (if not call.answered && is_of centre part call then 1 else 0)
failures_more centre part [] call = omega arith
failures_more centre part (first ∷ rest) call = let old = failures_more centre part rest call in omega (arith, old)

-- no call makes the failures fewer
pub failures_grow : (centre part : ℕ) (calls : List Call) (call : Call) → failures centre part calls ≤ failures centre part (calls ++ call ∷ [])
failures_grow centre part calls call = let more = failures_more centre part calls call in omega (arith, more)

-- a failed call of a node lets its failures rise
pub failures_rise : (centre part : ℕ) (calls : List Call) → Rose (failures centre part calls) (failures centre part (calls ++ call_of centre part false ∷ []))
failures_rise centre part calls = let more = failures_more centre part calls (call_of centre part false) in grind (arith, common_steps)

-- ---- nodes

-- a call is of the node that it asks
pub own_call : (centre part : ℕ) (answered : Bool) → is_of centre part (call_of centre part answered) ≡ true
own_call centre part answered = grind (arith, common_steps)

-- a call is of no node of another partition
pub other_part : (centre part c p : ℕ) (answered : Bool) → p ≢ part → is_of c p (call_of centre part answered) ≡ false
other_part centre part c p answered differ = grind (arith, common_steps)

-- a call is of no node of another centre
pub other_centre : (centre part c p : ℕ) (answered : Bool) → c ≢ centre → is_of c p (call_of centre part answered) ≡ false
other_centre centre part c p answered differ = grind (arith, common_steps)

-- a call is of one node alone
pub call_is : (centre part c p : ℕ) (answered : Bool) → is_of c p (call_of centre part answered) ≡ true → (c ≡ centre) × (p ≡ part)
call_is centre part c p answered is = (grind (arith, common_steps), grind (arith, common_steps))

-- ---- who was asked, and who has answered

-- a node was asked where it was before or is now
pub asked_more : (c p : ℕ) (calls : List Call) (call : Call) → was_asked c p (calls ++ call ∷ []) ≡ (was_asked c p calls || is_of c p call)
asked_more c p [] call = grind (arith, common_steps)
asked_more c p (first ∷ rest) call = let old = asked_more c p rest call in grind (arith, common_steps)

-- a node has answered where it had before or does now
pub replied_more : (c p : ℕ) (calls : List Call) (call : Call) → has_replied c p (calls ++ call ∷ []) ≡ (has_replied c p calls || (call.answered && is_of c p call))
replied_more c p [] call = grind (arith, common_steps)
replied_more c p (first ∷ rest) call = let old = replied_more c p rest call in grind (arith, common_steps)

-- a node that was not asked has not answered
pub replied_asked : (c p : ℕ) (calls : List Call) → was_asked c p calls ≡ false → has_replied c p calls ≡ false
replied_asked c p [] not = refl
replied_asked c p (first ∷ rest) not = let old = replied_asked c p rest in grind (arith, common_steps)

-- a call of another node leaves whether this one was asked
pub asked_stays : (c p : ℕ) (calls : List Call) (call : Call) → is_of c p call ≡ false → was_asked c p (calls ++ call ∷ []) ≡ was_asked c p calls
asked_stays c p calls call other = let more = asked_more c p calls call in grind (arith, common_steps)

-- a call of a node has asked it
pub asked_now : (c p : ℕ) (calls : List Call) (call : Call) → is_of c p call ≡ true → was_asked c p (calls ++ call ∷ []) ≡ true
asked_now c p calls call own = let more = asked_more c p calls call in grind (arith, common_steps)

-- a call of another node leaves whether this one has answered
pub replied_stays : (c p : ℕ) (calls : List Call) (call : Call) → is_of c p call ≡ false → has_replied c p (calls ++ call ∷ []) ≡ has_replied c p calls
replied_stays c p calls call other = let more = replied_more c p calls call in grind (arith, common_steps)

-- a call that failed leaves who has answered
pub replied_failed : (c p : ℕ) (calls : List Call) (call : Call) → call.answered ≡ false → has_replied c p (calls ++ call ∷ []) ≡ has_replied c p calls
replied_failed c p calls call failed = let more = replied_more c p calls call in grind (arith, common_steps)

-- a node whose call was answered has answered
pub replied_now : (c p : ℕ) (calls : List Call) (call : Call) → call.answered ≡ true → is_of c p call ≡ true → has_replied c p (calls ++ call ∷ []) ≡ true
replied_now c p calls call answered own = let more = replied_more c p calls call in grind (arith, common_steps)

-- ---- counts that rise

-- a count that rose has risen where it is read later
pub rose_later : (a b c : ℕ) → Rose a b → b ≤ c → Rose a c
rose_later a b c rose less = omega (arith, rose, less)

-- a count that rose has risen from what it was earlier
pub rose_earlier : (a b c : ℕ) → a ≤ b → Rose b c → Rose a c
rose_earlier a b c less rose = omega (arith, rose, less)
