use Rattle.std.proofs.Common.{◌∙◌, ap, sym}
use Rattle.ov_gate.specs.declared.tracked.Mark.TheVariants.{Low, Full, Done}
use Rattle.ov_gate.specs.Tracked.{with_reply}
use Rattle.ov_gate.specs.Tracker.{first_held}
use Rattle.ov_gate.proofs.Rising.{changed, first_same, change_there, change_lacking, reply_keeps, reply_acks}
use Rattle.ov_gate.proofs.tracker.Tracker.take_reply.Goals as goal

pub first_held-self-inside-requires : goal.first_held-self-inside-requires
first_held-self-inside-requires c = changed Done _ _ _ c.index_mut.result.now c.take_reply.new.self _ c.self.invariant.done_is c.as_slice-in-Some.ensures.value c.index_mut.ensures.value (reply_keeps c.args.session c.args.seq c.index_mut.result.now c.take_reply.new.self c.take_reply.ensures)

pub invariant_of-self : goal.invariant_of-self
invariant_of-self c =
    let acks = reply_acks c.args.session c.args.seq c.index_mut.result.now c.take_reply.new.self c.take_reply.ensures in
    record {
      low_is = c.self.invariant.low_is ∙ sym (first_same Low c.self.inside.items.items c.in-Some.place c.index_mut.result.now c.take_reply.new.self c.index_mut.ensures.value acks.0);
      full_is = c.self.invariant.full_is ∙ sym (first_same Full c.self.inside.items.items c.in-Some.place c.index_mut.result.now c.take_reply.new.self c.index_mut.ensures.value acks.1);
      done_is = c.first_held-self-inside.ensures ∙ ap (first_held Done) c.as_slice-in-Some.ensures.value;
    }

pub returns-in-Some : goal.returns-in-Some
returns-in-Some c = rw (← c.self.view_is) (change_there c.args.version (with_reply c.args.session c.args.seq) c.self.inside.items.items c.as_slice.result.now c.in-Some.place c.index_mut.result.now c.take_reply.new.self c.as_slice.ensures.value c.in-Some.ensures.within c.in-Some.ensures.place c.index_mut.ensures.value c.take_reply.ensures)

pub returns-in_default : goal.returns-in_default
returns-in_default c = rw (← c.self.view_is) (change_lacking c.args.version (with_reply c.args.session c.args.seq) c.self.inside.items.items c.as_slice.result.now c.as_slice.ensures.value c.in_default.ensures.place)
