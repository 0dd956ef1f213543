use Rattle.std.proofs.Common.{◌≡◌, ◌+◌, ◌<◌, length, ap, arith}
use Rattle.ov_lists.specs.Parts.{start}
use Rattle.ov_lists.proofs.Parts.{front_of_next, start_end}
use Rattle.ov_lists.proofs.blocks.Blocks.forward.Goals as goal

pub returns-then-at-len_of-clause-same : goal.returns-then-at-len_of-clause-same
returns-then-at-len_of-clause-same c =
    let lt : c.args.at.block < length c.args.self.now.parts = omega (arith, c.count.ensures.value, c.if-at-count.true) in
    omega (arith, front_of_next c.args.self.now.parts c.args.at.block (c.args.at.block + 1) lt (omega arith), c.if-at-len_of.true, c.len_of.ensures.value)

pub returns-then-at-len_of-clause-at : goal.returns-then-at-len_of-clause-at
returns-then-at-len_of-clause-at c =
    let lt : c.args.at.block < length c.args.self.now.parts = omega (arith, c.count.ensures.value, c.if-at-count.true) in
    record {
      inside = λ further. c.count.ensures.some (c.args.at.block + 1) further;
      end = λ last.
          let all : c.args.at.block + 1 ≡ length c.args.self.now.parts = omega (arith, last, lt) in
          omega (arith, ap (start c.args.self.now.parts) all, start_end c.args.self.now.parts);
    }
