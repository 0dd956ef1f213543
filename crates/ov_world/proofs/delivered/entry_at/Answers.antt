use Rattle.std.proofs.Common.{◌≡◌, ◌+◌, ◌-◌, sym, arith}
use Rattle.std.specs.Prelude.{reverse}
use Rattle.ov_world.proofs.Numbered.{at_place, at_zero, found_is}
use Rattle.ov_world.proofs.delivered.entry_at.Goals as goal

pub returns-then-number-eq0 : goal.returns-then-number-eq0
returns-then-number-eq0 c = rw c.if-number-eq0.true (sym (at_zero (reverse c.args.entries.now)))

pub returns : goal.returns
returns c =
    let number : (c.args.number - 1) + 1 ≡ c.args.number = omega (arith, c.if-number-eq0.false) in
    rw (← number, at_place c.args.entries.now (c.args.number - 1))
    (found_is c.get.result c.args.entries.now (c.args.number - 1) c.get.ensures.lookup.0 c.get.ensures.lookup.1)
