use Rattle.std.proofs.Common.{◌≡◌, ◌++◌, ◌∷◌, [], get_or, drop, ◌+◌, Some, sym, ap, ◌∙◌, rules, arith}
use Rattle.ov_base.specs.Groups.{words_in, groups_in}
use Rattle.ov_base.specs.Split.{all_of, with_front}
use Rattle.ov_event.specs.ItemWords.{item_of}
use Rattle.ov_event.proofs.ItemLoops.{no_group, groups_next}
use Rattle.ov_event.proofs.item_text.items_in_groups.Goals as goal

pub loop-group-preserved : goal.loop-group-preserved
loop-group-preserved c =
    let read : item_of (words_in ((get_or c.args.groups.now c.loop-group.group-index no_group).now)) ≡ Some c.in-Some.item = sym c.in_ok-item_read.ensures ∙ c.in-Some.is in
    let pushed : c.push.new.self.items ≡ c.loop-group.items.items ++ c.in-Some.item ∷ [] = search rules in
    ap (λ list. with_front list (all_of item_of (groups_in (drop (c.loop-group.group-index + 1) c.args.groups.now)))) pushed
    ∙ sym (groups_next item_of c.args.groups.now c.loop-group.group-index no_group c.in-Some.item c.loop-group.items.items (omega arith) read)
    ∙ c.loop-group.invariant
