use Rattle.std.proofs.Common.{◌∙◌, ap, rules}
use Rattle.std.proofs.lemmas.Fn.{dedup_same}
use Rattle.std.proofs.lemmas.List.Sorted.{answers_always}
use Rattle.ov_window.proofs.Repeats.{dedup_union, shown, shown_first, shown_rank, shown_same}
use Rattle.ov_window.proofs.union.united.Goals as goal

pub returns : goal.returns
returns c =
    ap shown (dedup_same _ shown_same _ (λ x y b f' x' y' k. search rules) _ _ c.dedup_by.ensures.filtered)
    ∙ dedup_union c.args.items.items c.sort_by.new.self.items
    (c.in_ok-sort_by.ensures.sorted shown_first shown_rank (answers_always _ _ _ (λ f a r f' h. search rules)))
    (c.in_ok-sort_by.ensures.stable shown_first shown_rank (answers_always _ _ _ (λ f a r f' h. search rules)))
