use Rattle.std.proofs.Common.{◌≡◌, ◌++◌, drop}
use Rattle.ov_functor.specs.Items.{items_at}
use Rattle.ov_functor.proofs.items.items_at.Given as goal

abbrev pub invariant-loop-key : goal.invariant-loop-key
invariant-loop-key l = l.items ++ items_at l.version l.transaction (drop l.key-index l.keys) ≡ items_at l.version l.transaction l.keys
