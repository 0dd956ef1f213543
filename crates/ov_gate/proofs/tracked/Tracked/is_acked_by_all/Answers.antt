use Rattle.std.proofs.Common.{◌≡◌, false, sym, ◌∙◌, arith}
use Rattle.std.proofs.lemmas.Grind.{common_steps}
use Rattle.ov_gate.specs.Tracked.{is_acked}
use Rattle.ov_history.proofs.Counting.{not_all_pass}
use Rattle.ov_gate.proofs.tracked.Tracked.is_acked_by_all.Goals as goal

pub returns-then-not-has : goal.returns-then-not-has
returns-then-not-has c =
    let fails : is_acked c.args.self.now.acked c.args.part c.loop-centre.centre ≡ false = sym c.has.ensures ∙ grind (arith, common_steps, c.if-not-has.true) in
    sym (not_all_pass (is_acked c.args.self.now.acked c.args.part) c.args.topology.now.centres c.loop-centre.centre (omega arith) fails)
