use Rattle.std.proofs.Common.{take}
use Rattle.std.specs.List.{All}
use Rattle.ov_event.specs.ItemWords.{IsMove}
use Rattle.ov_event.proofs.item_text.moves_fit.Given as goal

abbrev pub invariant-loop-one : goal.invariant-loop-one
invariant-loop-one l = All IsMove (take l.one-index l.moves)
