use Rattle.std.proofs.Common.{◌≡◌, length, ap, ◌∙◌, arith}
use Rattle.ov_lists.specs.Entries.{inserted}
use Rattle.ov_window.specs.Plan.{map_below}
use Rattle.ov_window.proofs.Drafting.{draft_more, insertion}
use Rattle.ov_window.proofs.plan.add_task.Goals as goal

pub returns : goal.returns
returns c older before draft =
    let count : c.len.result ≡ length c.args.tasks.now.items = omega (arith, c.len.ensures, c.args.tasks.now.ok.0) in
    rw (c.in_ok-push.ensures.items, c.in_ok-functor.ensures)
    (draft_more (map_below c.args.from c.args.base.now.entries) older c.args.tasks.now.items c.args.places.now.entries c.insert.new.self.entries c.args.item.now c.in_ok-inputs.inputs draft before c.in_ok-inputs.ensures
    (λ none. insertion c.args.places.now c.insert.new.self (record { key = c.args.item.now.key; version = c.args.item.now.version; item = c.len.result }) c.in_ok-insert.field-0 c.in_ok-insert.ensures.inserts none
    ∙ ap (λ place. inserted (record { key = c.args.item.now.key; version = c.args.item.now.version; item = place }) c.args.places.now.entries) count))
