use Rattle.std.proofs.Common.{Some, arith, sym, ap, ◌∙◌}
use Rattle.ov_lists.specs.Entries.{Entry}
use Rattle.ov_lists.specs.Parts.{listed}
use Rattle.ov_lists.proofs.NextKey.{past_at, past_end}
use Rattle.ov_lists.proofs.Picked.{count_listed}
use Rattle.ov_lists.proofs.keys.key_past.Goals as goal

pub returns-then-at-count : goal.returns-then-at-count
returns-then-at-count g c =
    let end = c.forward-at.ensures.at.end (omega (arith, c.count.ensures.value, c.if-at-count.true)) in
    sym (past_end c.args.from.now 9223372036854775808 (listed c.args.items.now c.args.blocks.now.parts) _ c.position_of.ensures.place
    (omega (arith, end, c.forward-at.ensures.same, count_listed c.args.items.now c.args.blocks.now.parts c.requires)))

pub returns : goal.returns
returns g c =
    let version = ap (λ (e : Entry _). e.version) c.entry.view_is in
    ap (λ (e : Entry _). Some e.key) c.entry.view_is
    ∙ sym (past_at c.args.from.now 9223372036854775808 (listed c.args.items.now c.args.blocks.now.parts) _ _ c.entry_at-entry.result.now c.position_of.ensures.place c.forward-at.ensures.same
    c.entry_at-entry.ensures.within c.entry_at-entry.ensures.value (omega (arith, version, c.number.ensures.value, c.number.ensures.form)))
