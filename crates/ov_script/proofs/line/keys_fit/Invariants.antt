use Rattle.std.proofs.Common.{take}
use Rattle.std.specs.List.{All}
use Rattle.ov_base.specs.Key.{IsKey}
use Rattle.ov_script.proofs.line.keys_fit.Given as goal

abbrev pub invariant-loop-key : goal.invariant-loop-key
invariant-loop-key l = All IsKey (take l.key-index l.keys)
