use Rattle.std.proofs.Common.{sym, ◌∙◌, ap, arith, List, ℕ, Some, take, drop, ◌+◌, suc, ◌≡◌}
use Rattle.std.proofs.lemmas.Bool.{eqb-true, eq-eqb}
use Rattle.std.proofs.lemmas.List.{take_rest}
use Rattle.ov_base.proofs.Splits.{cut_first, cut_none}
use Rattle.ov_base.proofs.lines.split_line.Goals as goal

pub returns-in-Some : goal.returns-in-Some
returns-in-Some c =
    let text = c.args.text.now in
    let found = c.in-Some.ensures in
    let next : suc c.in-Some.at ≡ c.in-Some.at + 1 = omega arith in
    ap (λ (rest : List ℕ). Some (take c.in-Some.at text, rest)) (take_rest text (c.in-Some.at + 1) ∙ ap (λ (k : ℕ). drop k text) (sym next))
    ∙ sym (cut_first 10 text c.in-Some.at found.0.high (λ j less is. found.0.before j (omega arith) less (eq-eqb _ 10 is)) (eqb-true _ 10 found.1))

pub returns-in-None : goal.returns-in-None
returns-in-None c = sym (cut_none 10 c.args.text.now (λ j less is. c.in-None.ensures j (omega arith) less (eq-eqb _ 10 is)))
