use Rattle.std.proofs.Common.{refl}
use Rattle.std.proofs.lemmas.Result.{IfOk-weaker}
use Rattle.ov_event.specs.declared.kind.Kind.TheVariants as kinds
use Rattle.ov_history.specs.Nodes.{answer}
use Rattle.ov_node.specs.Node.{IsNode, stores, answers}
use Rattle.ov_world.proofs.Acting.{one_passes, does_taking}
use Rattle.ov_world.proofs.actor_core.node.take.Goals as goal

pub returns-in-Write-clause-does : goal.returns-in-Write-clause-does
returns-in-Write-clause-does c = IfOk-weaker c.store.result _ _ (λ given says t h actor is there.
    does_taking IsNode stores t h actor c.args.place c.args.letter.now given c.store.new.self there
    (rw (is.actor_is, c.in-Write.is) (one_passes stores (kinds.Stored c.args.place c.in-Write.version c.in-Write.items) refl))
    (says t h actor is there)) c.store.ensures.steps

pub returns-in-Ask-clause-does : goal.returns-in-Ask-clause-does
returns-in-Ask-clause-does c = IfOk-weaker c.answer.result _ _ (λ given says t h actor is there.
    does_taking IsNode answers t h actor c.args.place c.args.letter.now given c.answer.new.self there
    (rw (is.actor_is, c.in-Ask.is) (one_passes answers
    (kinds.Answered c.args.place c.in-Ask.settler c.in-Ask.round (answer c.args.core.now.centre c.args.core.now.part c.in-Ask.from c.in-Ask.below h)) refl))
    (says t h actor is there)) c.answer.ensures.steps
