use Rattle.std.proofs.Common.{◌≡◌, ◌++◌, drop}
use Rattle.ov_functor.specs.Items.{written_keys}
use Rattle.ov_functor.proofs.items.written_keys.Given as goal

abbrev pub invariant-loop-part : goal.invariant-loop-part
invariant-loop-part l = l.keys ++ written_keys (drop l.part-index l.parts) ≡ written_keys l.parts
