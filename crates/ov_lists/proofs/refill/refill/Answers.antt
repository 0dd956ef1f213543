use Rattle.std.proofs.Common.{◌≡◌, ◌+◌, ◌++◌, ℕ, List, length, insert, arith, sym, ap, ◌∙◌}
use Rattle.std.specs.List.{range_with_len}
use Rattle.std.proofs.lemmas.List.Edits.{length-insert}
use Rattle.ov_lists.specs.Parts.{flat}
use Rattle.ov_lists.proofs.Parts.{flat_end, range_in_two}
use Rattle.ov_lists.proofs.refill.refill.Goals as goal

pub loop-done-preserved : goal.loop-done-preserved
loop-done-preserved c =
    let begun = c.loop-done.invariant.full c.loop-done-test.true in
    let more : length c.add.new.self.parts ≡ length c.loop-done.blocks.parts + 1 =
    ap length c.add.ensures.parts ∙ length-insert c.loop-done.blocks.parts c.loop-done.number c.run.result (omega (arith, c.loop-done.invariant.number)) in
    record {
      number = omega (arith, more, c.loop-done.invariant.number);
      within = omega (arith, c.min-size.ensures, c.loop-done-test.true);
      full = λ rest. omega (arith, rest, c.min-size.ensures, begun);
      few = omega (arith, begun, c.loop-done-test.true);
      places = ap flat (c.add.ensures.parts ∙ ap (λ n. insert c.loop-done.blocks.parts n c.run.result) c.loop-done.invariant.number)
          ∙ flat_end c.loop-done.blocks.parts c.run.result
          ∙ ap (λ (t : List ℕ). t ++ c.run.result) c.loop-done.invariant.places
          ∙ ap (λ (t : List ℕ). range_with_len 0 c.loop-done.done ++ t) c.run.ensures
          ∙ (let none : 0 + c.loop-done.done ≡ c.loop-done.done = omega arith in
          sym (range_in_two 0 c.loop-done.done c.min-size.result ∙ ap (λ (k : ℕ). range_with_len 0 c.loop-done.done ++ range_with_len k c.min-size.result) none));
      spare = omega (arith, c.add.ensures.spare, c.loop-done.invariant.spare);
    }
