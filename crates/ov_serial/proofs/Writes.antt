-- Setting the writes of the parts from the last to the first is what executing the parts does.
use Rattle.std.proofs.Common.{◌≡◌, true, List, [], ◌∷◌, ◌++◌, refl, sym, ap, ◌∙◌}
use Rattle.ov_functor.specs.declared.item.Shown.{Shown}
use Rattle.ov_functor.specs.declared.part.Part.{Part}
use Rattle.ov_functor.specs.declared.part.Part.TheVariants.{Put, Del, Add, Least, Greatest, Move as MovePart, Get}
use Rattle.ov_functor.specs.Execution.{Map, set, changed, written, all_written, exec, hold, moves_of}
use Rattle.ov_serial.specs.Results.{set_back, writes_in, writes_of}

-- two lists of writes, one after the other
set_back-append : (map : Map) (first others : List Shown) → set_back map (first ++ others) ≡ set_back (set_back map others) first
set_back-append map [] others = refl
set_back-append map (one ∷ first) others = ap (λ (m : Map). set one.key one.value m) (set_back-append map first others)

-- the writes of one part
written_by : (old : Map) (part : Part) (map : Map) → written old part map ≡ set_back map (writes_in old part)
unfolding changed
written_by old (Put key amount) map = refl
written_by old (Del key) map = refl
written_by old (Add key amount) map = refl
written_by old (Least key amount) map = refl
written_by old (Greatest key amount) map = refl
written_by old (MovePart from to amount) map = refl
written_by old (Get key) map = refl

-- the writes of all parts
pub written_back : (old : Map) (parts : List Part) → all_written old parts ≡ set_back old (writes_of old parts)
written_back old [] = refl
written_back old (part ∷ others) =
    ap (λ (m : Map). written old part m) (written_back old others) ∙ written_by old part (set_back old (writes_of old others))
    ∙ sym (set_back-append old (writes_in old part) (writes_of old others))

-- executing a transaction whose moves hold
pub executed_back : (old : Map) (parts : List Part) → hold old (moves_of parts) ≡ true → exec old parts ≡ set_back old (writes_of old parts)
executed_back old parts held = rw held (written_back old parts)
