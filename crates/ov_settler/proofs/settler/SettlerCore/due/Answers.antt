use Rattle.std.proofs.Common.{◌≡◌, ap, subst, sym, ◌∙◌}
use Rattle.std.proofs.lemmas.Option.{same_Some}
use Rattle.ov_window.specs.Harvest.{IsWhole}
use Rattle.ov_window.specs.declared.round.Round.{Round}
use Rattle.ov_settler.proofs.settler.SettlerCore.due.Goals as goal
use Rattle.ov_settler.proofs.settler.SettlerCore.due.Goals.{then-self-via-then-self, then-self-via-else-self+then-not-whole}

pub returns-then-self : goal.returns-then-self
returns-then-self c = rw (← c.self.view_is) (λ below closes.
    let same : closes.harvest ≡ c.in-Some.harvest = same_Some closes.harvest c.in-Some.harvest (sym closes.open_is ∙ c.in-Some.is) in
    elim c.then-self.branch [
      | then-self-via-then-self w ↦ let a = w.if-self.true in let b = closes.running in absurd cc
      | then-self-via-else-self+then-not-whole w ↦ let a = rw w.if-not-whole.true at (w.whole.ensures.1 (subst IsWhole same closes.whole)) in absurd cc
    ])

pub returns : goal.returns
returns c = rw (← c.self.view_is) (record {
  harvest = c.in-Some.harvest;
  open_is = c.in-Some.is;
  running = c.if-self.false;
  whole = c.whole.ensures.0 c.if-not-whole.false;
  below_is = ap (λ (round : Round). round.below) c.round.ensures;
})
