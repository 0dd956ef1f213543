use Rattle.std.proofs.Common.{map, rules}
use Rattle.std.proofs.lemmas.List.Sorted.{IsPermutation-map, ranks_by, answers_always}
use Rattle.ov_lists.specs.Entries.{is_earlier, shown}
use Rattle.ov_lists.proofs.Sorting.{earlier_total, stays_from, sorted_is}
use Rattle.ov_lists.proofs.window.sort_found.Goals as goal

pub returns : goal.returns
returns g c =
    sorted_is (map shown c.args.found.now.items) (map shown c.sort_unstable_by.new.self.items) c.requires
    (IsPermutation-map shown c.args.found.now.items c.sort_unstable_by.new.self.items c.sort_unstable_by.ensures.permutation)
    (stays_from shown is_earlier c.sort_unstable_by.new.self.items
    (c.sort_unstable_by.ensures.sorted (λ x y. is_earlier (shown x) (shown y)) (ranks_by earlier_total shown) (answers_always _ _ _ (λ f a r f' h. search rules))))
