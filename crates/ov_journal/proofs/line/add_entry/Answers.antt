use Rattle.std.proofs.Common.{ap, ◌∙◌}
use Rattle.std.proofs.lemmas.Result.{IfOk-weaker}
use Rattle.ov_base.proofs.GroupTexts.{groups_read}
use Rattle.ov_journal.specs.Read.{added_entry, entry_of_groups}
use Rattle.ov_journal.proofs.line.add_entry.Goals as goal

pub returns : goal.returns
returns c = IfOk-weaker c.add_groups.result _ _ (λ o e. e ∙ (rw (c.as_slice-2.ensures.value)
    (ap (λ t. added_entry c.args.entries.now (entry_of_groups t)) (groups_read c.args.text.now c.in_ok-words.words.items c.in_ok-groups.groups.items c.in_ok-words.ensures (rw c.as_slice.ensures.value at c.in_ok-groups.ensures)))))
    c.add_groups.ensures
