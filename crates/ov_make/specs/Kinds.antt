-- The kinds of lines that the examples count.
use Rattle.std.specs.Prelude.{pos, Bool, true, false, List, ◌∷◌}
use Rattle.std.specs.Ordering.{int_eq}
use Rattle.ov_functor.specs.declared.part.Part.{Part}
use Rattle.ov_functor.specs.declared.part.Part.TheVariants.{Move}
use Rattle.ov_script.specs.declared.line.ScriptLine.{ScriptLine}
use Rattle.ov_script.specs.declared.line.ScriptLine.TheVariants.{Do, Snap}
use Rattle.ov_make.specs.Made.{too_much}

-- the first part moves more than any key ever has
abbrev pub moves_too_much : List Part → Bool
moves_too_much (Move from to amount ∷ others) = int_eq amount (pos too_much)
moves_too_much parts = false

-- the line is a transaction that always aborts
abbrev pub always_aborts : ScriptLine → Bool
always_aborts (Do session parts) = moves_too_much parts
always_aborts line = false

-- the line is a snapshot
abbrev pub is_snapshot : ScriptLine → Bool
is_snapshot (Snap session keys) = true
is_snapshot line = false
