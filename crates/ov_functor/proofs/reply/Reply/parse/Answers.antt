use Rattle.std.proofs.Common.{Option, subst, sym}
use Rattle.std.proofs.lemmas.Result.{IfOk-weaker}
use Rattle.ov_base.specs.Word.{Reads}
use Rattle.ov_functor.specs.declared.reply.Reply.{Reply}
use Rattle.ov_functor.specs.Reply.{reply_text}
use Rattle.ov_functor.specs.ReplyWords.{IsReply}
use Rattle.ov_functor.proofs.ReplyWords.{reply_reads}
use Rattle.ov_functor.proofs.reply.Reply.parse.Goals as goal

pub returns-clause-reads : goal.returns-clause-reads
returns-clause-reads c =
    IfOk-weaker c.reply_read.result _ _ (λ o e. subst (λ (t : Option Reply). Reads reply_text IsReply c.args.text.now t) (sym e) (reply_reads c.args.text.now)) c.reply_read.ensures
