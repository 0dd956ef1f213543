use Rattle.std.proofs.Common.{◌≡◌, ℕ, ◌+◌, true, List, [], ◌∷◌, ◌++◌, length, take, reverse, rules, sym, ap, ◌∙◌}
use Rattle.std.specs.Prelude.{Bool}
use Rattle.ov_event.specs.declared.entry.Entry.{Entry}
use Rattle.ov_journal.specs.Journal.{followed, journal_of}
use Rattle.ov_journal.specs.Read.{added_entry, entry_of}
use Rattle.ov_journal.proofs.LinesBehind.{next_taken, kept_front}
use Rattle.ov_journal.proofs.backwards.take_lines.Goals as goal

pub loop-front-preserved : goal.loop-front-preserved
loop-front-preserved c =
    let front = c.in-Some.front.now in
    let line = c.in-Some.line.now in
    let old : c.loop-front.text.items ≡ front ++ 10 ∷ line ++ 10 ∷ [] = search rules in
    let added : ◌≡◌ {A = Bool × List Entry} (true, c.add_line.new.entries) (added_entry c.loop-front.entries (entry_of line)) = search rules in
    let left : c.give_back.new.text.items ≡ front ++ 10 ∷ [] =
    c.give_back.ensures ∙ c.truncate.ensures.items ∙ ap (take (length front + 1)) old ∙ kept_front front line in
    let was : journal_of c.args.text.now.items ≡ followed (journal_of (front ++ 10 ∷ line ++ 10 ∷ [])) (reverse c.loop-front.entries) =
    c.loop-front.invariant ∙ ap (λ (t : List ℕ). followed (journal_of t) (reverse c.loop-front.entries)) old in
    next_taken c.args.text.now.items front line c.loop-front.entries c.add_line.new.entries was added
    ∙ ap (λ (t : List ℕ). followed (journal_of t) (reverse c.add_line.new.entries)) (sym left)
