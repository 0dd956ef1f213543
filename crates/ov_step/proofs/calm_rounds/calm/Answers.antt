use Rattle.std.proofs.Common.{◌≡◌, ◌-◌, ◌≤◌, ◌+◌, true, false, refl, arith}
use Rattle.std.proofs.lemmas.Bool.{eq-eqb, ne_eqb}
use Rattle.ov_follow.specs.Calm.{commands}
use Rattle.ov_world.specs.World.{setting_of}
use Rattle.ov_step.proofs.Calming.{way_none, way_begins, way_ends, way_done, way_on, way_stops, way_some, way_kept, all_in}
use Rattle.ov_step.proofs.Results.{on_any_err}
use Rattle.ov_step.proofs.calm_rounds.calm.Goals as goal

pub returns-in_err-kept-clause-part : goal.returns-in_err-kept-clause-part
returns-in_err-kept-clause-part c = on_any_err c.from_residual.result (way_none c.args.world.now c.args.world.now refl)

pub loop-init : goal.loop-init
loop-init c =
    let whole : c.rounds_enough-end.result - 0 ≡ c.rounds_enough-end.result = omega arith in
    let enough : commands (setting_of c.args.world.now) + 1 ≤ c.rounds_enough-end.result = rw (c.roster.ensures.value, c.script.ensures) at c.rounds_enough-end.ensures in
    rw whole (way_begins c.args.world.now c.in_ok-kept.kept c.rounds_enough-end.result enough c.in_ok-kept.ensures.lawful c.in_ok-kept.ensures.kept)

pub are_all_replied-requires : goal.are_all_replied-requires
are_all_replied-requires c = c.loop.invariant.kept_is

pub returns-then-are_all_replied-clause-done : goal.returns-then-are_all_replied-clause-done
returns-then-are_all_replied-clause-done c =
    way_done c.args.world.now c.loop.world c.loop.kept c.rounds_enough-end.result c.loop.counter c.loop-test.true c.loop.invariant
    (all_in c.args.world.now c.loop.world c.are_all_replied.result true c.loop.invariant.same c.are_all_replied.ensures.all c.if-are_all_replied.true)

pub returns-in-Err-clause-part : goal.returns-in-Err-clause-part
returns-in-Err-clause-part c =
    way_some c.args.world.now c.loop.world c.round.new.world c.loop.kept c.rounds_enough-end.result c.loop.counter c.loop-test.true c.loop.invariant
    (all_in c.args.world.now c.loop.world c.are_all_replied.result false c.loop.invariant.same c.are_all_replied.ensures.all c.if-are_all_replied.false) c.in-Err.ensures.part

pub returns-then-kept-before-clause-done : goal.returns-then-kept-before-clause-done
returns-then-kept-before-clause-done c =
    way_stops c.args.world.now c.loop.world c.round.new.world c.are_all_replied.new.self c.round.new.self c.rounds_enough-end.result c.loop.counter c.loop-test.true
    (way_kept c.args.world.now c.loop.world c.loop.kept c.are_all_replied.new.self (c.rounds_enough-end.result - c.loop.counter) c.loop.invariant c.are_all_replied.ensures.kept)
    (all_in c.args.world.now c.loop.world c.are_all_replied.result false c.loop.invariant.same c.are_all_replied.ensures.all c.if-are_all_replied.false) c.in-Ok.ensures.done
    (eq-eqb c.round.new.self.replies c.are_all_replied.new.self.replies c.if-kept-before.true)

pub loop-preserved : goal.loop-preserved
loop-preserved c =
    way_on c.args.world.now c.loop.world c.round.new.world c.are_all_replied.new.self c.round.new.self c.rounds_enough-end.result c.loop.counter c.loop-test.true
    (way_kept c.args.world.now c.loop.world c.loop.kept c.are_all_replied.new.self (c.rounds_enough-end.result - c.loop.counter) c.loop.invariant c.are_all_replied.ensures.kept)
    (all_in c.args.world.now c.loop.world c.are_all_replied.result false c.loop.invariant.same c.are_all_replied.ensures.all c.if-are_all_replied.false) c.in-Ok.ensures.done
    (ne_eqb c.round.new.self.replies c.are_all_replied.new.self.replies c.if-kept-before.false)

pub returns-clause-done : goal.returns-clause-done
returns-clause-done c = way_ends c.args.world.now c.loop.world c.loop.kept c.rounds_enough-end.result c.loop.counter c.loop-test.false c.loop.invariant
