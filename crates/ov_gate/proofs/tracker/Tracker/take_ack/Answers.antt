use Rattle.std.proofs.Common.{◌∙◌, ap, sym}
use Rattle.ov_gate.specs.declared.tracked.Mark.TheVariants.{Low, Full, Done}
use Rattle.ov_gate.specs.Tracked.{with_ack}
use Rattle.ov_gate.specs.Tracker.{first_held}
use Rattle.ov_gate.proofs.Rising.{changed, first_same, change_there, change_lacking, ack_keeps, ack_reply}
use Rattle.ov_gate.proofs.tracker.Tracker.take_ack.Goals as goal

pub first_held-self-inside-requires : goal.first_held-self-inside-requires
first_held-self-inside-requires c = changed Low _ _ _ c.index_mut.result.now c.take_ack.new.self _ c.self.invariant.low_is c.as_slice-in-Some.ensures.value c.index_mut.ensures.value (ack_keeps Low c.args.topology.now c.args.centre c.args.part c.index_mut.result.now c.take_ack.new.self c.take_ack.ensures)

pub first_held-self-inside-requires-in-Some : goal.first_held-self-inside-requires-in-Some
first_held-self-inside-requires-in-Some c = changed Full _ _ _ c.index_mut.result.now c.take_ack.new.self _ c.self.invariant.full_is c.as_slice-in-Some-2.ensures.value c.index_mut.ensures.value (ack_keeps Full c.args.topology.now c.args.centre c.args.part c.index_mut.result.now c.take_ack.new.self c.take_ack.ensures)

pub invariant_of-self : goal.invariant_of-self
invariant_of-self c = record {
  low_is = c.first_held-self-inside.ensures ∙ ap (first_held Low) c.as_slice-in-Some.ensures.value;
  full_is = c.first_held-self-inside-in-Some.ensures ∙ ap (first_held Full) c.as_slice-in-Some-2.ensures.value;
  done_is = c.self.invariant.done_is ∙ sym (first_same Done c.self.inside.items.items c.in-Some.place c.index_mut.result.now c.take_ack.new.self c.index_mut.ensures.value (ack_reply c.args.topology.now c.args.centre c.args.part c.index_mut.result.now c.take_ack.new.self c.take_ack.ensures));
}

pub returns-in-Some : goal.returns-in-Some
returns-in-Some c = rw (← c.self.view_is) (change_there c.args.version (with_ack c.args.topology.now c.args.centre c.args.part) c.self.inside.items.items c.as_slice.result.now c.in-Some.place c.index_mut.result.now c.take_ack.new.self c.as_slice.ensures.value c.in-Some.ensures.within c.in-Some.ensures.place c.index_mut.ensures.value c.take_ack.ensures)

pub returns-in_default : goal.returns-in_default
returns-in_default c = rw (← c.self.view_is) (change_lacking c.args.version (with_ack c.args.topology.now c.args.centre c.args.part) c.self.inside.items.items c.as_slice.result.now c.as_slice.ensures.value c.in_default.ensures.place)
