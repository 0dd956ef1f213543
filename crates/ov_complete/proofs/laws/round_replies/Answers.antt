use Rattle.ov_complete.proofs.Chain.{round_replies}
use Rattle.ov_complete.proofs.laws.round_replies.Goals as goal

pub returns : goal.returns
returns c = round_replies
