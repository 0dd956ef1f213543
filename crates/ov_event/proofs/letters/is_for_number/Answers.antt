use Rattle.std.proofs.Common.{ap, sym, ◌∙◌, arith}
use Rattle.std.specs.Prelude.{Option}
use Rattle.ov_event.specs.Letters.{is_for_some}
use Rattle.ov_event.specs.declared.letter.Letter.{Letter}
use Rattle.ov_event.proofs.Numbered.{number_of_last, number_past}
use Rattle.ov_event.proofs.letters.is_for_number.Goals as goal

pub returns-then-index-writes-2 : goal.returns-then-index-writes-2
returns-then-index-writes-2 c =
    let last = number_of_last c.args.topology.now c.args.entry.now c.args.number c.if-number-eq0.false (omega arith) in
    c.is_for_last.ensures ∙ ap (λ (letter : Option Letter). is_for_some c.args.topology.now letter c.args.actor) (sym last)

pub returns-else-index-writes-2 : goal.returns-else-index-writes-2
returns-else-index-writes-2 c =
    let past = number_past c.args.topology.now c.args.entry.now c.args.number c.if-number-eq0.false (omega arith) in
    ap (λ (letter : Option Letter). is_for_some c.args.topology.now letter c.args.actor) (sym past)
