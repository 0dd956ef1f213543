use Rattle.std.proofs.Common.{◌≡◌, false, ap, sym, ◌∙◌}
use Rattle.ov_settler.specs.Settler.{SettlerState}
use Rattle.ov_settler.proofs.Takes.{take_steps}
use Rattle.ov_settler.proofs.settler.SettlerCore.take_items.Goals as goal

pub returns-clause-steps : goal.returns-clause-steps
returns-clause-steps c =
    let running : c.args.self.now.stopped ≡ false = ap (λ (s : SettlerState). s.stopped) (sym c.self.view_is) ∙ c.if-self.false in
    let said = rw (c.in_ok-gather.ensures.ok) at c.entry.ensures in
    rw (said, c.in_ok-gather.ensures.ok) (λ t h actor is there sound.
    take_steps t h actor c.args.self.now c.args.place c.args.settler c.args.round c.args.centre c.args.part c.args.items is there sound running (c.awaits.ensures.0 c.if-not-awaits.false))
