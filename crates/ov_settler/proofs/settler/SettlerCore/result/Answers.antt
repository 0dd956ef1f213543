use Rattle.std.proofs.Common.{◌≡◌, false, ap, sym, ◌∙◌}
use Rattle.ov_settler.specs.Settler.{SettlerState}
use Rattle.ov_settler.proofs.Replies.{result_steps}
use Rattle.ov_settler.proofs.settler.SettlerCore.result.Goals as goal

pub returns-clause-steps : goal.returns-clause-steps
returns-clause-steps c =
    let running : c.args.self.now.stopped ≡ false = ap (λ (s : SettlerState). s.stopped) (sym c.self.view_is) ∙ c.if-self.false in
    rw (c.in-Want.is, c.entry.ensures) (λ t h actor is there.
    result_steps t h actor c.args.self.now c.args.place c.in-Want.session c.in-Want.seq c.in-Want.gate c.in-Want.start c.in-Some.reply is running there (sym c.serves.ensures ∙ c.if-not-serves.false) (sym c.in_ok-reply.ensures ∙ c.in-Some.is))
