use Rattle.ov_gate.proofs.Admits.{reply_iff}
use Rattle.ov_gate.proofs.gate.GateCore.admits_kind.Goals as goal

pub returns-in-Replied : goal.returns-in-Replied
returns-in-Replied c = rw c.in-Replied.is (λ t h actor roster is there.
    reply_iff t h actor c.args.self.now c.in-Replied.place c.in-Replied.session c.in-Replied.seq c.in-Replied.reply _ c.may_reply.result is there c.may_reply.ensures)
