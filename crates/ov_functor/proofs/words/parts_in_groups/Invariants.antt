use Rattle.std.proofs.Common.{◌≡◌, drop}
use Rattle.ov_base.specs.Groups.{groups_in}
use Rattle.ov_base.specs.Split.{with_front}
use Rattle.ov_functor.specs.Words.{parts_in}
use Rattle.ov_functor.proofs.words.parts_in_groups.Given as goal

abbrev pub invariant-loop-group : goal.invariant-loop-group
invariant-loop-group l = with_front l.parts.items (parts_in (groups_in (drop l.group-index l.groups))) ≡ parts_in (groups_in l.groups)
