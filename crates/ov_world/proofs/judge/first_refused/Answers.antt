use Rattle.std.proofs.Common.{◌≡◌, true, false, sym, ◌∙◌, arith}
use Rattle.ov_world.specs.World.{setting_by}
use Rattle.ov_world.proofs.Judging.{refused_at}
use Rattle.ov_world.proofs.judge.first_refused.Goals as goal

pub loop-index-init : goal.loop-index-init
loop-index-init c = record {
  within = omega arith;
  keeps = record {
    world = record { run = (c.assure_form.ensures, tt); stand = rw c.roster-roster.ensures.value at c.in_ok-cores.ensures };
    letter = tt;
  };
}

pub returns-then-not-branch : goal.returns-then-not-branch
returns-then-not-branch c =
    refused_at (setting_by c.args.topology.now c.args.script.now) c.args.entries.now c.loop-index.index c.index-entries-index.result c.loop-index-test.true c.index-entries-index.is
    c.loop-index.invariant.keeps.world.run.1 (λ may.
    let yes = c.in_ok-follows.ensures.may.1 (rw c.roster-roster.ensures.value may) in let bad : true ≡ false = sym yes ∙ c.if-not-branch.true in cc)
