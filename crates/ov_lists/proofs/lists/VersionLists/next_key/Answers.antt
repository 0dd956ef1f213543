use Rattle.std.proofs.Common.{List, true, false, sym, ap, ◌∙◌}
use Rattle.ov_lists.specs.Entries.{Entry, Contents, next_key_of}
use Rattle.ov_lists.specs.Parts.{listed}
use Rattle.ov_lists.proofs.lists.VersionLists.next_key.Goals as goal

pub returns-then-past : goal.returns-then-past
returns-then-past g c =
    c.key_past.ensures
    ∙ ap (λ (t : List (Entry _)). next_key_of c.args.from true (listed t c.self.inside.blocks.parts)) c.as_slice-items.ensures.value
    ∙ ap (λ (s : Contents _). next_key_of c.args.from true s.entries) c.self.view_is
    ∙ ap (λ b. next_key_of c.args.from b c.args.self.now.entries) (sym c.if-past.true)

pub returns-else-past : goal.returns-else-past
returns-else-past g c =
    c.key_from.ensures
    ∙ ap (λ (t : List (Entry _)). next_key_of c.args.from false (listed t c.self.inside.blocks.parts)) c.as_slice-items.ensures.value
    ∙ ap (λ (s : Contents _). next_key_of c.args.from false s.entries) c.self.view_is
    ∙ ap (λ b. next_key_of c.args.from b c.args.self.now.entries) (sym c.if-past.false)
