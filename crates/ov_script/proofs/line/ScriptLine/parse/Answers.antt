use Rattle.std.proofs.Common.{Option, subst, sym}
use Rattle.std.proofs.lemmas.Result.{IfOk-weaker}
use Rattle.ov_base.specs.Word.{Reads}
use Rattle.ov_script.specs.declared.line.ScriptLine.{ScriptLine}
use Rattle.ov_script.specs.Line.{IsLine, line_text}
use Rattle.ov_script.proofs.LineWordsAgain.{line_reads}
use Rattle.ov_script.proofs.line.ScriptLine.parse.Goals as goal

pub returns-clause-reads : goal.returns-clause-reads
returns-clause-reads c =
    IfOk-weaker c.line_read.result _ _ (λ o e. subst (λ (t : Option ScriptLine). Reads line_text IsLine c.args.text.now t) (sym e) (line_reads c.args.text.now)) c.line_read.ensures
