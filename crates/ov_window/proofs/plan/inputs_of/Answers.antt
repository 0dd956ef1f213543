use Rattle.std.proofs.Common.{sym}
use Rattle.ov_functor.specs.Functor.{reads}
use Rattle.ov_window.specs.Drafts.{input_at}
use Rattle.ov_window.specs.Plan.{map_below}
use Rattle.ov_window.proofs.Drafting.{map_more}
use Rattle.ov_window.proofs.plan.inputs_of.Goals as goal

pub loop-index-preserved : goal.loop-index-preserved
loop-index-preserved c =
    rw (c.in_ok-push.ensures.ok, c.input_of.ensures, c.loop-index.invariant)
    (sym (map_more (input_at (map_below c.args.from c.args.base.now.entries) c.args.places.now.entries c.args.version) (reads c.args.functor.now) c.loop-index.index c.read_key-key.result c.read_key-key.ensures))
