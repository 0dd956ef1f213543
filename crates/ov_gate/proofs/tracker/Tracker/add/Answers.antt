use Rattle.std.proofs.Common.{◌∙◌}
use Rattle.ov_gate.specs.declared.tracked.Mark.TheVariants.{Low, Full, Done}
use Rattle.ov_gate.proofs.Rising.{pushed}
use Rattle.ov_gate.proofs.tracker.Tracker.add.Goals as goal

pub first_held-self-inside-requires : goal.first_held-self-inside-requires
first_held-self-inside-requires c = pushed Low _ _ _ _ c.self.invariant.low_is (c.as_slice.ensures.value ∙ c.in_ok-push.ensures.items)

pub first_held-self-inside-requires-2 : goal.first_held-self-inside-requires-2
first_held-self-inside-requires-2 c = pushed Full _ _ _ _ c.self.invariant.full_is (c.as_slice-2.ensures.value ∙ c.in_ok-push.ensures.items)

pub first_held-self-inside-requires-3 : goal.first_held-self-inside-requires-3
first_held-self-inside-requires-3 c = pushed Done _ _ _ _ c.self.invariant.done_is (c.as_slice-3.ensures.value ∙ c.in_ok-push.ensures.items)
