use Rattle.std.proofs.Common.{arith, sym, ◌∙◌}
use Rattle.std.proofs.lemmas.Bool.{lt-ltb, ltb-true}
use Rattle.ov_settler.proofs.Admits.{may_next, next_may}
use Rattle.ov_settler.proofs.settler.SettlerCore.may_ask.Goals as goal
use Rattle.ov_settler.proofs.settler.SettlerCore.may_ask.Goals.{then-from-self-via-then-from-self, then-from-self-via-else-from-self+then-below-upper}

pub returns-then-from-self : goal.returns-then-from-self
returns-then-from-self c = rw (← c.self.view_is) (λ t h actor is. (
  λ no_. absurd cc,
  λ may.
      let next = may_next t h actor _ c.args.round c.args.mode c.args.from c.args.below is may in
      elim c.then-from-self.branch [
        | then-from-self-via-then-from-self w ↦ absurd (w.if-from-self.true next.from_is)
        | then-from-self-via-else-from-self+then-below-upper w ↦ absurd (w.if-below-upper.true (next.below_is ∙ sym (rw (← c.self.view_is) at w.upper.ensures)))
      ],
))

pub returns : goal.returns
returns c = rw (← c.self.view_is) (λ t h actor is. (
  λ passes. next_may t h actor _ c.args.round c.args.mode c.args.from c.args.below is (record {
    next = c.if-round-self.false;
    held = omega (arith, c.ranges.round.fits);
    from_is = c.if-from-self.false;
    below_is = c.if-below-upper.false ∙ (rw (← c.self.view_is) at c.upper.ensures);
    some = ltb-true c.args.from c.args.below passes;
  }),
  λ may. lt-ltb c.args.from c.args.below may.some,
))
