use Rattle.std.proofs.Common.{rules}
use Rattle.std.proofs.lemmas.List.Sorted.{ranks_by, answers_always}
use Rattle.ov_lists.specs.Entries.{Entry, stands_before}
use Rattle.ov_lists.proofs.Entries.{entries_total}
use Rattle.ov_lists.proofs.thin.sort_items.Goals as goal

pub returns-clause-sorted : goal.returns-clause-sorted
returns-clause-sorted g c =
    c.sort_unstable_by.ensures.sorted (λ x y. stands_before x y) (ranks_by entries_total (λ (e : Entry _). e)) (answers_always _ _ _ (λ f a r f' h. search rules))
