use Rattle.std.proofs.Common.{◌≡◌, ◌+◌, ◌-◌, ◌<◌, length, arith, sym, ap}
use Rattle.ov_lists.specs.Parts.{start, place_in, listed}
use Rattle.ov_lists.proofs.Parts.{front_of_next, start_end}
use Rattle.ov_lists.proofs.Picked.{count_listed}
use Rattle.ov_lists.proofs.Places.{before_upto}
use Rattle.ov_lists.proofs.search.position_for.Goals as goal

pub returns-then-is_before-clause-place : goal.returns-then-is_before-clause-place
returns-then-is_before-clause-place g c =
    let last : c.count-count.result - 1 < length c.args.blocks.now.parts = omega (arith, c.count-count.ensures.value, c.if-count-gt0.true) in
    let past : (c.count-count.result - 1) + 1 ≡ length c.args.blocks.now.parts = omega (arith, c.count-count.ensures.value, c.if-count-gt0.true) in
    let end : place_in c.args.blocks.now.parts (c.count-count.result - 1) c.len_of-len.result ≡ length (listed c.args.items.now c.args.blocks.now.parts) =
    omega (
      arith,
      front_of_next c.args.blocks.now.parts (c.count-count.result - 1) ((c.count-count.result - 1) + 1) last (omega arith),
      ap (start c.args.blocks.now.parts) past,
      start_end c.args.blocks.now.parts,
      count_listed c.args.items.now c.args.blocks.now.parts c.requires,
      c.len_of-len.ensures.value,
    ) in
    record {
      within = omega (arith, end);
      before = λ k d under.
          before_upto (listed c.args.items.now c.args.blocks.now.parts) c.requires.ordered (place_in c.args.blocks.now.parts (c.count-count.result - 1) (c.len_of-len.result - 1)) c.entry_at.result.now c.args.key.now c.args.number
          c.entry_at.ensures.within c.entry_at.ensures.value (sym c.if-is_before.ensures) k d (omega (arith, under, c.len_of-len.ensures.some));
      behind = λ k d far within. absurd (omega (arith, far, within, end));
    }
