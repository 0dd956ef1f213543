use Rattle.std.proofs.Common.{◌≡◌, ◌++◌, take}
use Rattle.ov_functor.specs.Reply.{showns_text}
use Rattle.ov_functor.proofs.reply.print_showns.Given as goal

abbrev pub invariant-loop-shown : goal.invariant-loop-shown
invariant-loop-shown l = l.text.items ≡ l.initial.text.items ++ showns_text (take l.shown-index l.list)
