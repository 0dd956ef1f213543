use Rattle.std.proofs.Common.{◌≡◌, rules}
use Rattle.ov_base.proofs.GroupTexts.{groups_read}
use Rattle.ov_journal.proofs.tails.Tail.of.Goals as goal

pub invariant_of-result : goal.invariant_of-result
invariant_of-result c =
    let same : c.extend_from_slice.new.self.items ≡ c.args.text.now = search rules in
    let read = groups_read c.args.text.now c.in_ok-words.words.items c.in_ok-groups.groups.items c.in_ok-words.ensures (rw c.as_slice.ensures.value at c.in_ok-groups.ensures) in
    rw same (rw (c.as_slice-2.ensures.value, read) at c.in_ok-items.ensures, rw (c.as_slice-3.ensures.value, read) at c.in_ok-vector.ensures)
