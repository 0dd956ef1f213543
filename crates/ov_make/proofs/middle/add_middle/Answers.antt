use Rattle.std.proofs.Common.{◌≡◌, ℕ, ◌+◌, ◌∷◌, [], ap, sym, subst, ◌∙◌, arith}
use Rattle.std.proofs.lemmas.List.FromFn.{map-range_with_len_more}
use Rattle.ov_script.specs.Script.{Content}
use Rattle.ov_script.specs.Written.{MayStand}
use Rattle.ov_make.specs.Made.{middle_line, middle_lines}
use Rattle.ov_make.specs.Progress.{with_lines}
use Rattle.ov_make.proofs.Growing.{middle_at, number_next, middle_next, grown}
use Rattle.ov_make.proofs.middle.add_middle.Goals as goal

pub add_line-requires : goal.add_line-requires
add_line-requires c =
    let number = c.next_number-chosen.ensures ∙ number_next c.args.number c.loop-done.done c.loop-done.chosen c.loop-done.invariant.chosen in
    let line = c.in_ok-middle_line.ensures ∙ middle_next c.args.number c.loop-done.done c.next_number-chosen.result number in
    rw line
    (subst (λ (script : Content). MayStand script (middle_line c.args.number (c.loop-done.done + 1))) (sym c.loop-done.invariant.script)
    (middle_at c.args.script.now c.args.count c.args.number c.loop-done.done (c.loop-done.done + 1) c.requires c.loop-done-test.true))

pub loop-done-preserved : goal.loop-done-preserved
loop-done-preserved c =
    let number = c.next_number-chosen.ensures ∙ number_next c.args.number c.loop-done.done c.loop-done.chosen c.loop-done.invariant.chosen in
    let line = c.in_ok-middle_line.ensures ∙ middle_next c.args.number c.loop-done.done c.next_number-chosen.result number in
    let more = map-range_with_len_more (middle_line c.args.number) 1 c.loop-done.done (c.loop-done.done + 1) (omega arith) in
    record {
      chosen = number;
      script =
          grown c.add_line.new.script c.loop-done.script c.args.script.now (middle_lines c.args.number c.loop-done.done) (c.in_ok-middle_line.field-0 ∷ [])
          (middle_lines c.args.number (c.loop-done.done + 1)) c.in_ok-add_line.ensures c.loop-done.invariant.script (rw line more);
    }

pub returns : goal.returns
returns c =
    let all : c.loop-done.done ≡ c.args.count = omega arith in
    c.loop-done.invariant.script ∙ ap (λ (n : ℕ). with_lines c.args.script.now (middle_lines c.args.number n)) all
