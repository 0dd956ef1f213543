-- A line that may stand may be added.
use Rattle.std.proofs.Common.{◌≡◌, true, List, [], ◌∷◌, refl, arith}
use Rattle.std.specs.List.{list_all, AllByRecursion}
use Rattle.ov_functor.specs.Transaction.{is_positive}
use Rattle.ov_functor.specs.Words.{IsPart}
use Rattle.ov_functor.specs.declared.part.Part.{Part}
use Rattle.ov_functor.specs.declared.part.Part.TheVariants.{Put, Del, Add, Least, Greatest, Move, Get}
use Rattle.ov_script.specs.Line.{CanAdd, IsLine}
use Rattle.ov_script.specs.declared.line.ScriptLine.{ScriptLine}
use Rattle.ov_script.specs.declared.line.ScriptLine.TheVariants.{Session, Do, Snap, After}

part_positive : (part : Part) → IsPart part → is_positive part ≡ true
part_positive (Put key amount) form = refl
part_positive (Del key) form = refl
part_positive (Add key amount) form = refl
part_positive (Least key amount) form = refl
part_positive (Greatest key amount) form = refl
part_positive (Move from to amount) form = form.3
part_positive (Get key) form = refl

parts_positive : (parts : List Part) → AllByRecursion IsPart parts → list_all is_positive parts ≡ true
parts_positive [] all = refl
parts_positive (part ∷ parts) all = rw (part_positive part all.0) (parts_positive parts all.1)

-- a line in form may be added
pub can_add : (line : ScriptLine) → IsLine line → CanAdd line
can_add (Session name gate) form = form.1
can_add (Do session []) form = absurd form.1
can_add (Do session (part ∷ parts)) form = (omega arith, parts_positive (part ∷ parts) form.1)
can_add (Snap session []) form = absurd form.1
can_add (Snap session (key ∷ keys)) form = omega arith
can_add (After session other seq) form = (form.2, form.3)
