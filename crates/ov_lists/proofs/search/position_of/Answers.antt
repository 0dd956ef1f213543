use Rattle.std.proofs.Common.{◌≡◌, ◌+◌, ◌-◌, ℕ, arith, subst}
use Rattle.ov_lists.specs.Parts.{start, listed}
use Rattle.ov_lists.specs.Places.{AreBehind}
use Rattle.ov_lists.proofs.search.position_of.Goals as goal

pub returns-then-next-eq0-clause-place : goal.returns-then-next-eq0-clause-place
returns-then-next-eq0-clause-place g c = record {
  within = omega arith;
  before = λ k d under. absurd (omega (arith, under));
  behind = subst (λ (n : ℕ). AreBehind c.args.key.now c.args.number (listed c.args.items.now c.args.blocks.now.parts) (start c.args.blocks.now.parts n)) c.if-next-eq0.true c.block_behind-next.ensures.behind;
}

pub offset_of-requires-clause-before : goal.offset_of-requires-clause-before
offset_of-requires-clause-before g c = c.block_behind-next.ensures.before (omega (arith, c.if-next-eq0.false))

pub offset_of-requires-clause-behind : goal.offset_of-requires-clause-behind
offset_of-requires-clause-behind g c =
    let back : c.block_behind-next.result ≡ (c.block_behind-next.result - 1) + 1 = omega (arith, c.if-next-eq0.false) in
    subst (λ (n : ℕ). AreBehind c.args.key.now c.args.number (listed c.args.items.now c.args.blocks.now.parts) (start c.args.blocks.now.parts n)) back c.block_behind-next.ensures.behind
