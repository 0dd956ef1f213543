use Rattle.std.proofs.Common.{◌≡◌, drop}
use Rattle.ov_base.specs.Groups.{groups_in}
use Rattle.ov_base.specs.Split.{all_of, with_front}
use Rattle.ov_event.specs.ItemWords.{item_of}
use Rattle.ov_event.proofs.item_text.items_in_groups.Given as goal

abbrev pub invariant-loop-group : goal.invariant-loop-group
invariant-loop-group l = with_front l.items.items (all_of item_of (groups_in (drop l.group-index l.groups))) ≡ all_of item_of (groups_in l.groups)
