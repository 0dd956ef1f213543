use Rattle.std.proofs.Common.{◌≡◌, ◌++◌, ◌∷◌, [], get_or, drop, ◌+◌, Some, sym, ap, ◌∙◌, rules, arith}
use Rattle.ov_base.specs.Split.{all_of, with_front}
use Rattle.ov_base.specs.Groups.{groups_in, words_in}
use Rattle.ov_journal.specs.Read.{valued_of}
use Rattle.ov_journal.proofs.Reading.{groups_next, no_group}
use Rattle.ov_journal.proofs.list.parse_values.Goals as goal

pub loop-group-preserved : goal.loop-group-preserved
loop-group-preserved c =
    let read : valued_of (words_in ((get_or c.args.groups.now c.loop-group.group-index no_group).now)) ≡ Some c.in-Some.field-0 = sym c.parse_valued.ensures ∙ c.in-Some.is in
    let pushed : c.push.new.self ≡ c.loop-group.values ++ c.in-Some.field-0 ∷ [] = search rules in
    ap (λ values. with_front values (all_of valued_of (groups_in (drop (c.loop-group.group-index + 1) c.args.groups.now)))) pushed
    ∙ sym (groups_next valued_of c.args.groups.now c.loop-group.group-index no_group c.in-Some.field-0 c.loop-group.values (omega arith) read)
    ∙ c.loop-group.invariant
