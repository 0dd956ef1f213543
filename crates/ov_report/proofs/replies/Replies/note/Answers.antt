use Rattle.ov_report.proofs.Kept.{more_kept}
use Rattle.ov_report.proofs.replies.Replies.note.Goals as goal

pub returns-in_ok-insert : goal.returns-in_ok-insert
returns-in_ok-insert c =
    more_kept c.args.entry.now c.in-Replied.place (record { session = c.in-Replied.session; seq = c.in-Replied.seq }) _ c.args.self.now.known.entries c.insert.new.self.entries
    c.in-Replied.is c.in_ok-insert.ensures.updates.0
