use Rattle.std.proofs.Common.{◌≡◌, ◌++◌, take}
use Rattle.ov_event.specs.ItemWords.{items_text}
use Rattle.ov_event.proofs.item_text.print_items.Given as goal

abbrev pub invariant-loop-item : goal.invariant-loop-item
invariant-loop-item l = l.text.items ≡ l.initial.text.items ++ items_text (take l.item-index l.items)
