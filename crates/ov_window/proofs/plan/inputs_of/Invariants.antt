use Rattle.std.proofs.Common.{◌≡◌, map, take}
use Rattle.ov_functor.specs.Functor.{reads}
use Rattle.ov_window.specs.Drafts.{input_at}
use Rattle.ov_window.specs.Plan.{map_below}
use Rattle.ov_window.proofs.plan.inputs_of.Given as goal

abbrev pub invariant-loop-index : goal.invariant-loop-index
invariant-loop-index l = l.inputs ≡ map (input_at (map_below l.from l.base.entries) l.places.entries l.version) (take l.index (reads l.functor))
