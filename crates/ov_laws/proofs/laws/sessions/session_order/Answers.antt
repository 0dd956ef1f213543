use Rattle.ov_laws.proofs.Sessions.Order.{begins_rise, replies_rise, reply_after_begin, begin_after_reply, floor_after_reply, snap_after_reply}
use Rattle.ov_laws.proofs.laws.sessions.session_order.Goals as goal

pub returns-clause-begins : goal.returns-clause-begins
returns-clause-begins c = λ t h i j s c d lawful less one other. begins_rise t h i j one.gate other.gate s c d one.start other.start lawful less one.there other.there

pub returns-clause-replies : goal.returns-clause-replies
returns-clause-replies c = λ t h i j s c d lawful less one other.
    replies_rise t h i j one.gate other.gate s c d one.place other.place one.reply other.reply lawful less one.there other.there

pub returns-clause-replied : goal.returns-clause-replied
returns-clause-replied c = λ t h i j s c d lawful less began replied.
    reply_after_begin t h i j began.gate replied.gate s c d began.start replied.place replied.reply lawful less began.there replied.there

pub returns-clause-begun : goal.returns-clause-begun
returns-clause-begun c = λ t h i j s c d lawful less replied began.
    begin_after_reply t h i j replied.gate began.gate s c d replied.place replied.reply began.start lawful less replied.there began.there

pub returns-clause-floors : goal.returns-clause-floors
returns-clause-floors c = λ t h s floor reply lawful looks.
    let old = looks.replied in
    floor_after_reply t h looks.earlier looks.later old.gate looks.gate s old.seq looks.seq floor old.place reply looks.keys lawful looks.less old.there looks.begun

pub returns-clause-snaps : goal.returns-clause-snaps
returns-clause-snaps c = λ t h s n reply run snaps.
    let old = snaps.replied in
    let new = snaps.shown in
    snap_after_reply t run.0 h snaps.earlier snaps.later old.gate new.gate s old.seq new.seq n old.place new.place reply snaps.list run.1 snaps.less old.there new.there
