use Rattle.std.proofs.Common.{List, Option, subst, sym}
use Rattle.std.proofs.lemmas.Result.{IfOk-weaker}
use Rattle.ov_base.specs.Word.{Reads}
use Rattle.ov_functor.specs.declared.part.Part.{Part}
use Rattle.ov_functor.specs.Words.{parts_text, IsParts}
use Rattle.ov_functor.proofs.PartWordsAgain.{parts_reads}
use Rattle.ov_functor.proofs.words.parse_parts.Goals as goal

pub returns-clause-reads : goal.returns-clause-reads
returns-clause-reads c =
    IfOk-weaker c.parts_read.result _ _ (λ o e. subst (λ (t : Option (List Part)). Reads parts_text IsParts c.args.text.now t) (sym e) (parts_reads c.args.text.now)) c.parts_read.ensures
