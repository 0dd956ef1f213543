use Rattle.std.proofs.Common.{List, [], ◌∷◌, ◌++◌, sym, ap, ◌∙◌}
use Rattle.std.proofs.lemmas.List.{append-nil}
use Rattle.ov_step.specs.declared.wants.Want.{Want}
use Rattle.ov_step.proofs.Wanting.{wants_noted}
use Rattle.ov_step.proofs.wants.Wants.note.Goals as goal

pub returns-in_ok-push : goal.returns-in_ok-push
returns-in_ok-push c h at are =
    wants_noted c.args.topology.now h c.args.entry.now c.args.number (c.in-Some.want ∷ []) c.args.self.now c.push.new.self.items c.in-Some.ensures
    (c.in_ok-push.ensures.items ∙ ap (λ (kept : List Want). kept ++ c.in-Some.want ∷ []) c.self.view_is) at are

pub returns-in_default : goal.returns-in_default
returns-in_default c h at are =
    wants_noted c.args.topology.now h c.args.entry.now c.args.number [] c.args.self.now c.args.self.now c.in_default.ensures (sym (append-nil c.args.self.now)) at are
