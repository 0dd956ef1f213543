use Rattle.std.proofs.Common.{◌≡◌, drop}
use Rattle.ov_base.specs.Groups.{groups_in}
use Rattle.ov_base.specs.Split.{all_of, with_front}
use Rattle.ov_journal.specs.Read.{marks_of}
use Rattle.ov_journal.proofs.list.marks_from.Given as goal

abbrev pub invariant-loop-group : goal.invariant-loop-group
invariant-loop-group l = with_front l.all (all_of marks_of (groups_in (drop l.group-index l.groups))) ≡ all_of marks_of (groups_in l.groups)
