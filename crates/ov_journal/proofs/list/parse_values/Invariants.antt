use Rattle.std.proofs.Common.{◌≡◌, drop}
use Rattle.ov_base.specs.Groups.{groups_in}
use Rattle.ov_base.specs.Split.{all_of, with_front}
use Rattle.ov_journal.specs.Read.{valued_of}
use Rattle.ov_journal.proofs.list.parse_values.Given as goal

abbrev pub invariant-loop-group : goal.invariant-loop-group
invariant-loop-group l = with_front l.values (all_of valued_of (groups_in (drop l.group-index l.groups))) ≡ all_of valued_of (groups_in l.groups)
