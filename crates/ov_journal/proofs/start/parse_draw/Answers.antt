use Rattle.std.proofs.Common.{sym, ap, ◌∙◌, option_map}
use Rattle.ov_base.specs.Groups.{groups_in}
use Rattle.ov_journal.proofs.Reading.{read_positive}
use Rattle.ov_journal.proofs.start.parse_draw.Goals as goal

pub new-requires : goal.new-requires
new-requires c =
    read_positive (groups_in c.as_slice.result.now) c.in-Some-2.parts.items
    (sym c.in_ok-parts_in_groups.ensures ∙ ap (option_map (λ v. v.items)) c.in-Some-2.is)
