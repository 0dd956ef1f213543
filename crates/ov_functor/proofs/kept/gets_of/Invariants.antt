use Rattle.std.proofs.Common.{◌≡◌, ◌++◌, drop}
use Rattle.ov_functor.specs.Execution.{got}
use Rattle.ov_functor.proofs.kept.gets_of.Given as goal

abbrev pub invariant-loop-part : goal.invariant-loop-part
invariant-loop-part g l = l.gets ++ got (g.L.Lookup.map l.values) (drop l.part-index l.parts) ≡ got (g.L.Lookup.map l.values) l.parts
