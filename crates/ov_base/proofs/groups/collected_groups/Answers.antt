use Rattle.std.proofs.Common.{rules}
use Rattle.std.proofs.lemmas.Result.{IfOk-weaker}
use Rattle.std.proofs.lemmas.Iterator.Consumers.{map_from_collect}
use Rattle.std.proofs.lemmas.Iterator.Splits.{YieldsList-from_slice_split}
use Rattle.ov_base.specs.Groups.{is_separator}
use Rattle.ov_base.proofs.GroupTexts.{groups_kept}
use Rattle.ov_base.proofs.groups.collected_groups.Goals as goal

pub returns : goal.returns
returns c = IfOk-weaker c.collect.result _ _ (λ v e. groups_kept c.args.words.now v.items e)
    (map_from_collect _ c.collect.ensures.ran (YieldsList-from_slice_split _ (λ w. is_separator w.now) c.args.words.now
    c.split.ensures.rest c.split.ensures.done c.split.ensures.closure (λ x b q k. search rules)))
