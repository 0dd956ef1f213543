use Rattle.std.proofs.Common.{◌≡◌, ◌+◌, ◌∙◌, [], length, get_or, ap, arith}
use Rattle.ov_cells.proofs.Values.{values_long}
use Rattle.ov_cells.proofs.Codes.{zeros}
use Rattle.ov_cells.proofs.Kept.{opens}
use Rattle.ov_cells.proofs.cells.Cells.new.Goals as goal

pub of_words-requires : goal.of_words-requires
of_words-requires c =
    let long = values_long [] c.args.plan in
    let tasks : length c.tasks.result.now ≡ length c.args.plan = ap (λ l. length l) c.tasks.ensures.tasks in
    let items = c.as_slice.ensures.value in let len = c.as_slice.ensures.len in let n = c.in_ok-words.ensures.len in
    let all = items ∙ c.in_ok-words.ensures.items_if_clones_equal (λ y h. h) in
    opens _ _ (omega arith) (λ at. ap (λ l. get_or l at 0) all ∙ zeros (length c.tasks.result.now + 1) at)
