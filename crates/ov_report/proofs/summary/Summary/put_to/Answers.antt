use Rattle.std.proofs.Common.{subst, OnErr, codes, FitsSigned, rules}
use Rattle.std.specs.Int.{w128}
use Rattle.std.proofs.lemmas.Int.{to_z-of_z}
use Rattle.ov_base.specs.Amount.{amount_text}
use Rattle.ov_io.specs.Causes.{WroteFront}
use Rattle.ov_report.specs.Summary.{number_line}
use Rattle.std.proofs.lemmas.Result.{err_from_is_err_and, on_err_weaker}
use Rattle.ov_io.proofs.Sinks.{wrote_both}
use Rattle.ov_report.proofs.Puts.{front_first, front_second}
use Rattle.ov_report.proofs.summary.Summary.put_to.Goals as goal

pub returns-in_err-put_count-clause-err : goal.returns-in_err-put_count-clause-err
returns-in_err-put_count-clause-err g c =
    let p = err_from_is_err_and c.from_residual.result c.from_residual.ensures.1 in
    rw (p.1) (front_first _ _ _ _ (front_first _ _ _ _ (front_first _ _ _ _ (front_first _ _ _ _ c.in_err-put_count.ensures.err))))

pub returns-in_err-put_count-2-clause-err : goal.returns-in_err-put_count-2-clause-err
returns-in_err-put_count-2-clause-err g c =
    let p = err_from_is_err_and c.from_residual-in_err-put_count-2.result c.from_residual-in_err-put_count-2.ensures.1 in
    rw (p.1) (front_first _ _ _ _ (front_first _ _ _ _ (front_first _ _ _ _ (front_second _ _ _ _ _ c.in_ok-put_count.ensures.ok c.in_err-put_count-2.ensures.err))))

pub returns-in_err-put_count-3-clause-err : goal.returns-in_err-put_count-3-clause-err
returns-in_err-put_count-3-clause-err g c =
    let p = err_from_is_err_and c.from_residual-in_err-put_count-3.result c.from_residual-in_err-put_count-3.ensures.1 in
    rw (p.1) (front_first _ _ _ _ (front_first _ _ _ _ (front_second _ _ _ _ _ (wrote_both _ _ _ _ _ c.in_ok-put_count.ensures.ok c.in_ok-put_count-2.ensures.ok) c.in_err-put_count-3.ensures.err)))

pub returns-in_err-put_count-4-clause-err : goal.returns-in_err-put_count-4-clause-err
returns-in_err-put_count-4-clause-err g c =
    let p = err_from_is_err_and c.from_residual-in_err-put_count-4.result c.from_residual-in_err-put_count-4.ensures.1 in
    rw (p.1) (front_first _ _ _ _ (front_second _ _ _ _ _ (wrote_both _ _ _ _ _ (wrote_both _ _ _ _ _ c.in_ok-put_count.ensures.ok c.in_ok-put_count-2.ensures.ok) c.in_ok-put_count-3.ensures.ok) c.in_err-put_count-4.ensures.err))

pub returns-clause-err : goal.returns-clause-err
returns-clause-err g c =
    let fits : FitsSigned w128 c.args.self.now.sum = search rules in
    let wrote = wrote_both _ _ _ _ _ (wrote_both _ _ _ _ _ (wrote_both _ _ _ _ _ c.in_ok-put_count.ensures.ok c.in_ok-put_count-2.ensures.ok) c.in_ok-put_count-3.ensures.ok) c.in_ok-put_count-4.ensures.ok in
    let last = subst (λ z. OnErr c.put_number.result (WroteFront (g.K.Sink.written c.put_count-4.new.out) (g.K.Sink.written c.put_number.new.out) (number_line (codes "sum") (amount_text z))))
    (to_z-of_z w128 c.args.self.now.sum fits) c.put_number.ensures.err in
    on_err_weaker c.put_number.result (λ front. front_second _ _ _ _ _ wrote front) last
