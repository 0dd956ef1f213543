use Rattle.std.proofs.Common.{length, arith, ap, ◌∙◌, ◌++◌}
use Rattle.std.proofs.lemmas.Result.{IfOk-weaker}
use Rattle.ov_functor.specs.Execution.{moves_of}
use Rattle.ov_functor.proofs.TransactionCode.{moves_few}
use Rattle.ov_functor.proofs.transaction.Transaction.moves.Goals as goal

pub returns-clause-few : goal.returns-clause-few
returns-clause-few c =
    IfOk-weaker c.moves_after.result _ _
    (λ moves e.
    let parts = e ∙ ap (λ front. front ++ moves_of c.parts.result.now) c.empty.ensures ∙ ap moves_of c.parts.ensures.parts in
    omega (arith, moves_few c.args.self.now c.parts.ensures.form.form, ap length parts))
    c.moves_after.ensures
