use Rattle.std.proofs.Common.{Option, subst, sym}
use Rattle.std.proofs.lemmas.Result.{IfOk-weaker}
use Rattle.ov_base.specs.Word.{Reads}
use Rattle.ov_base.proofs.Readers.{reads_by_laws}
use Rattle.ov_event.specs.declared.entry.Entry.{Entry}
use Rattle.ov_journal.specs.Line.{HasLine, entry_text}
use Rattle.ov_journal.specs.Read.{entry_of}
use Rattle.ov_journal.proofs.LineAgain.{entry_again}
use Rattle.ov_journal.proofs.LineTakes.{entry_takes}
use Rattle.ov_journal.proofs.line.parse_entry.Goals as goal

pub returns-clause-reads : goal.returns-clause-reads
returns-clause-reads c =
    IfOk-weaker c.entry_read.result _ _
    (λ o e. subst (λ (r : Option Entry). Reads entry_text HasLine c.args.text.now r) (sym e) (reads_by_laws entry_of entry_text HasLine entry_again entry_takes c.args.text.now))
    c.entry_read.ensures
