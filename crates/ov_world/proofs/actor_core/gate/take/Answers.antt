use Rattle.std.proofs.Common.{refl}
use Rattle.std.proofs.lemmas.Result.{IfOk-weaker}
use Rattle.ov_event.specs.declared.kind.Kind.TheVariants as kinds
use Rattle.ov_history.specs.Gives.{is_open}
use Rattle.ov_laws.proofs.Sound.{sound}
use Rattle.ov_gate.specs.Gate.{IsGate, is_taken, is_heard, is_replied, is_told}
use Rattle.ov_world.proofs.Acting.{one_passes, tested_passes, does_taking}
use Rattle.ov_world.proofs.actor_core.gate.take.Goals as goal

pub returns-in-Ack-clause-does : goal.returns-in-Ack-clause-does
returns-in-Ack-clause-does c = λ t h actor lawful is there.
    does_taking IsGate is_taken t h actor c.args.place c.args.letter.now c.acked.result c.acked.new.self there
    (rw (is.actor_is, c.in-Ack.is) (one_passes is_taken (kinds.Acked c.args.place c.in-Ack.version c.in-Ack.centre c.in-Ack.part) refl))
    (c.acked.ensures.steps t h actor is there (sound t h c.args.core.now.gate c.args.place c.args.letter.now lawful there))

pub returns-in-Gossip-clause-does : goal.returns-in-Gossip-clause-does
returns-in-Gossip-clause-does c = λ t h actor lawful is there.
    does_taking IsGate is_heard t h actor c.args.place c.args.letter.now c.heard.result c.heard.new.self there
    (rw (is.actor_is, c.in-Gossip.is) (one_passes is_heard (kinds.Heard c.args.place c.in-Gossip.vector) refl))
    (c.heard.ensures.steps t h actor is there)

pub returns-in-Result-clause-does : goal.returns-in-Result-clause-does
returns-in-Result-clause-does c = IfOk-weaker c.replied.result _ _ (λ answer says t h actor lawful is there.
    does_taking IsGate is_replied t h actor c.args.place c.args.letter.now answer c.replied.new.self there
    (rw (is.actor_is, c.in-Result.is) (tested_passes is_replied
    (is_open t h c.args.core.now.gate c.in-Result.session c.in-Result.seq) (kinds.Replied c.args.place c.in-Result.session c.in-Result.seq c.in-Result.reply) refl))
    (says t h actor is there)) c.replied.ensures.steps

pub returns-in-Told-clause-does : goal.returns-in-Told-clause-does
returns-in-Told-clause-does c = λ t h actor lawful is there.
    does_taking IsGate is_told t h actor c.args.place c.args.letter.now c.told.result c.told.new.self there
    (rw (is.actor_is, c.in-Told.is) (one_passes is_told (kinds.Told c.args.place c.in-Told.session c.in-Told.seq) refl))
    (c.told.ensures.steps t h actor is there (sound t h c.args.core.now.gate c.args.place c.args.letter.now lawful there))
