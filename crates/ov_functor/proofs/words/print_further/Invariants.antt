use Rattle.std.proofs.Common.{◌≡◌, ◌++◌, take}
use Rattle.std.specs.List.{flat_map}
use Rattle.ov_functor.specs.Words.{further_text}
use Rattle.ov_functor.proofs.words.print_further.Given as goal

abbrev pub invariant-loop-part : goal.invariant-loop-part
invariant-loop-part l = l.text.items ≡ l.initial.text.items ++ flat_map further_text (take l.part-index l.parts)
