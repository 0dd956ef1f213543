use Rattle.std.proofs.Common.{refl}
use Rattle.std.proofs.lemmas.Result.{IfOk-weaker}
use Rattle.ov_event.specs.declared.kind.Kind.TheVariants as kinds
use Rattle.ov_settler.specs.Settler.{IsSettler, is_heard, is_resulted, is_taken}
use Rattle.ov_world.proofs.Acting.{one_passes, does_taking}
use Rattle.ov_world.proofs.ActingSettlers.{answer_passes, settler_sound, want_passes}
use Rattle.ov_world.proofs.actor_core.settler.take.Goals as goal

pub returns-in-Gossip-clause-does : goal.returns-in-Gossip-clause-does
returns-in-Gossip-clause-does c = λ t h actor lawful is there.
    does_taking IsSettler is_heard t h actor c.args.place c.args.letter.now c.heard.result c.heard.new.self there
    (rw (is.actor_is, c.in-Gossip.is) (one_passes is_heard (kinds.Heard c.args.place c.in-Gossip.vector) refl))
    (c.heard.ensures.steps t h actor is there)

pub returns-in-Answer-clause-does : goal.returns-in-Answer-clause-does
returns-in-Answer-clause-does c = IfOk-weaker c.take.result _ _ (λ answer says t h actor lawful is there.
    does_taking IsSettler is_taken t h actor c.args.place c.args.letter.now answer c.take.new.self there
    (rw (is.actor_is, c.in-Answer.is) (answer_passes h c.args.core.now.centre c.args.place
    c.in-Answer.settler c.in-Answer.round c.in-Answer.centre c.in-Answer.part c.in-Answer.items))
    (says t h actor is there (settler_sound t h actor c.args.core.now c.args.place c.args.letter.now lawful is there))) c.take.ensures.steps

pub returns-in-Want-clause-does : goal.returns-in-Want-clause-does
returns-in-Want-clause-does c = IfOk-weaker c.result.result _ _ (λ answer says t h actor lawful is there.
    does_taking IsSettler is_resulted t h actor c.args.place c.args.letter.now answer c.result.new.self there
    (rw (is.actor_is, c.in-Want.is) (want_passes is_resulted h c.args.core.now.centre c.args.place c.in-Want.session c.in-Want.seq c.in-Want.gate c.in-Want.start (λ reply. refl)))
    (says t h actor is there)) c.result.ensures.steps
