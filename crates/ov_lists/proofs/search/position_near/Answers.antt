use Rattle.std.proofs.Common.{◌+◌, ◌-◌, arith, sym}
use Rattle.ov_lists.specs.Parts.{place_in, listed}
use Rattle.ov_lists.proofs.Parts.{front_of_next}
use Rattle.ov_lists.proofs.Places.{behind_from}
use Rattle.ov_lists.proofs.search.position_near.Goals as goal

pub offset_of-requires-clause-before : goal.offset_of-requires-clause-before
offset_of-requires-clause-before g c = λ k d under. c.requires.before k d (omega (arith, under))

pub offset_of-requires-clause-behind : goal.offset_of-requires-clause-behind
offset_of-requires-clause-behind g c = λ k d past within.
    behind_from (listed c.args.items.now c.args.blocks.now.parts) c.requires.index.ordered (place_in c.args.blocks.now.parts c.args.at.block (c.len_of.result - 1)) c.entry_at.result.now c.args.key.now c.args.number
    c.entry_at.ensures.within c.entry_at.ensures.value (sym c.if-is_before.ensures) k d
    (omega (arith, past, c.len_of.ensures.value, front_of_next c.args.blocks.now.parts c.args.at.block (c.args.at.block + 1) c.requires.block (omega arith))) within
