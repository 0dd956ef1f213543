use Rattle.std.proofs.Common.{Some, arith, sym, ap, ◌∙◌}
use Rattle.ov_lists.specs.Entries.{Entry}
use Rattle.ov_lists.specs.Parts.{listed}
use Rattle.ov_lists.proofs.NextKey.{from_at, from_end}
use Rattle.ov_lists.proofs.Picked.{count_listed}
use Rattle.ov_lists.proofs.keys.key_from.Goals as goal

pub returns-then-at-count : goal.returns-then-at-count
returns-then-at-count g c =
    let end = c.forward-at.ensures.at.end (omega (arith, c.count.ensures.value, c.if-at-count.true)) in
    sym (from_end c.args.from.now (listed c.args.items.now c.args.blocks.now.parts) _ c.position_of.ensures.place
    (omega (arith, end, c.forward-at.ensures.same, count_listed c.args.items.now c.args.blocks.now.parts c.requires)))

pub returns : goal.returns
returns g c =
    ap (λ (e : Entry _). Some e.key) c.behind-items.view_is
    ∙ sym (from_at c.args.from.now (listed c.args.items.now c.args.blocks.now.parts) _ _ c.entry_at.result.now c.position_of.ensures.place c.forward-at.ensures.same
    c.entry_at.ensures.within c.entry_at.ensures.value)
