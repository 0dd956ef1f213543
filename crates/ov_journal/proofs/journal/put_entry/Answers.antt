use Rattle.std.proofs.Common.{◌≡◌, ℕ, List, [], ◌∷◌, ◌++◌, OnErr, subst, rules}
use Rattle.ov_io.specs.Causes.{WroteFront}
use Rattle.ov_journal.specs.Line.{entry_text}
use Rattle.ov_journal.proofs.journal.put_entry.Goals as goal

pub returns-in-Ok-clause-err : goal.returns-in-Ok-clause-err
returns-in-Ok-clause-err g c =
    let line : c.as_slice.result.now ≡ entry_text c.args.entry.now ++ 10 ∷ [] = search rules in
    subst (λ (t : List ℕ). OnErr c.put_text.result (WroteFront (g.K.Sink.written c.args.out.now) (g.K.Sink.written c.put_text.new.out) t)) line c.put_text.ensures.err
