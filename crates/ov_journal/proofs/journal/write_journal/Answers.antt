use Rattle.std.proofs.Common.{codes}
use Rattle.ov_base.specs.Lines.{lines_text}
use Rattle.ov_journal.specs.Line.{entry_text}
use Rattle.ov_journal.proofs.Journals.{journal_again}
use Rattle.ov_journal.proofs.Writing.{front_before, front_behind, put_behind}
use Rattle.ov_journal.proofs.journal.write_journal.Goals as goal

pub returns-in-Ok-clause-ok : goal.returns-in-Ok-clause-ok
returns-in-Ok-clause-ok g c =
    put_behind c.put_entries.result (g.K.Sink.written c.args.out.now) (g.K.Sink.written c.put_text.new.out) (g.K.Sink.written c.put_entries.new.out)
    (codes "oceanvista journal 1\n") (lines_text entry_text c.args.entries.now) c.in-Ok.ensures.ok c.put_entries.ensures.ok

pub returns-in-Ok-clause-err : goal.returns-in-Ok-clause-err
returns-in-Ok-clause-err g c =
    front_behind c.put_entries.result (g.K.Sink.written c.args.out.now) (g.K.Sink.written c.put_text.new.out) (g.K.Sink.written c.put_entries.new.out)
    (codes "oceanvista journal 1\n") (lines_text entry_text c.args.entries.now) c.in-Ok.ensures.ok c.put_entries.ensures.err

pub returns-in-Ok-clause-again : goal.returns-in-Ok-clause-again
returns-in-Ok-clause-again g c = journal_again c.args.entries.now c.requires

pub returns-in-Err-clause-err : goal.returns-in-Err-clause-err
returns-in-Err-clause-err g c =
    front_before (g.K.Sink.written c.args.out.now) (g.K.Sink.written c.put_text.new.out) (codes "oceanvista journal 1\n") (lines_text entry_text c.args.entries.now) c.in-Err.ensures.err

pub returns-in-Err-clause-again : goal.returns-in-Err-clause-again
returns-in-Err-clause-again g c = journal_again c.args.entries.now c.requires
