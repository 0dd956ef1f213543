use Rattle.std.proofs.Common.{ap, ◌∙◌}
use Rattle.std.proofs.lemmas.Result.{IfOk-weaker}
use Rattle.ov_base.proofs.GroupTexts.{groups_read}
use Rattle.ov_functor.specs.Words.{part_of, parts_of}
use Rattle.ov_base.specs.Split.{all_of}
use Rattle.ov_functor.proofs.words.parts_read.Goals as goal

pub returns : goal.returns
unfolding parts_of
returns c = IfOk-weaker c.parts_in_groups.result _ _ (λ o e. e ∙ (rw (c.as_slice-2.ensures.value)
    (ap (all_of part_of) (groups_read c.args.text.now c.in_ok-words.words.items c.in_ok-groups.groups.items c.in_ok-words.ensures (rw c.as_slice.ensures.value at c.in_ok-groups.ensures)))))
    c.parts_in_groups.ensures
