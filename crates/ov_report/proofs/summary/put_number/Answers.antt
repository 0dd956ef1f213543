use Rattle.std.proofs.Common.{◌≡◌, [], ◌∷◌, ◌++◌, sym, ap, subst, ◌∙◌, append_assoc, OnErr}
use Rattle.std.specs.Int.{w128}
use Rattle.std.proofs.lemmas.Int.{to_z-of_z}
use Rattle.ov_base.specs.Amount.{amount_text}
use Rattle.ov_io.specs.Causes.{WroteFront}
use Rattle.ov_report.specs.Summary.{number_line}
use Rattle.ov_report.proofs.summary.put_number.Goals as goal

pub returns-in-Ok-clause-err : goal.returns-in-Ok-clause-err
returns-in-Ok-clause-err g c =
    let text : c.as_bytes.result.now ≡ number_line c.args.word.now (amount_text c.args.number) =
    c.as_bytes.ensures.value ∙ c.in-Ok.ensures.ok
    ∙ ap (λ z. c.args.word.now ++ (32 ∷ (amount_text z ++ 10 ∷ []))) (to_z-of_z w128 c.args.number c.ranges.number)
    ∙ sym (append_assoc c.args.word.now (32 ∷ amount_text c.args.number) (10 ∷ [])) in
    subst (λ text. OnErr c.put_text.result (WroteFront (g.K.Sink.written c.args.out.now) (g.K.Sink.written c.put_text.new.out) text)) text c.put_text.ensures.err
