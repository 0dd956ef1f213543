use Rattle.std.proofs.Common.{◌≡◌, Some, ap, sym, ◌∙◌}
use Rattle.std.specs.Option.{option_map}
use Rattle.ov_event.specs.declared.letter.Letter.{Letter}
use Rattle.ov_event.specs.declared.letter.Letter.TheVariants.{Want}
use Rattle.ov_settler.proofs.Replies.{reply_iff}
use Rattle.ov_settler.proofs.settler.SettlerCore.may_reply.Goals as goal

pub returns-in-Some : goal.returns-in-Some
returns-in-Some c =
    let whole : c.in-Some-Want.field-0.now ≡ Want c.in-Some-Want.of c.in-Some-Want.number c.in-Some-Want.sender c.in-Some-Want.start = rw c.in-Some-Want.is at c.in-Some-Want.field-0-is in
    let sent : c.in-Some-Want.field-0.now ≡ Want c.args.session c.args.seq c.args.gate c.in-Some-Want.start = whole ∙ (λ i. Want (c.if-of-session.false i) (c.if-number-seq.false i) (c.if-sender-gate.false i) c.in-Some-Want.start) in
    λ t h actor place is there.
    reply_iff t h actor c.args.self.now place c.args.session c.args.seq c.args.gate c.in-Some-Want.start c.args.reply.now c.in-Some.own _ c.same.result is there
    (ap (option_map (λ one. one.now)) c.in-Some-Want.is ∙ ap (λ (l : Letter). Some l) sent) (sym c.serves.ensures ∙ c.if-not-serves.false) (sym c.in_ok-reply_to.ensures ∙ c.in-Some.is) c.same.ensures
