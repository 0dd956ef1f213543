use Rattle.std.proofs.Common.{◌≡◌, ◌++◌, map, take}
use Rattle.ov_window.specs.Evaluation.{input_value}
use Rattle.ov_window.proofs.evaluate.gather.Given as goal

abbrev pub invariant-loop-input : goal.invariant-loop-input
invariant-loop-input l = l.gathered.items ≡ l.fn.gathered.items ++ map (input_value l.values) (take l.input-index l.inputs)
