use Rattle.std.proofs.Common.{reverse, take}
use Rattle.ov_report.specs.Replies.{AreReplies}
use Rattle.ov_report.proofs.replies.replies_of.Given as goal

abbrev pub invariant-loop-entry : goal.invariant-loop-entry
invariant-loop-entry l = AreReplies (reverse (take l.entry-index l.entries)) l.replies
