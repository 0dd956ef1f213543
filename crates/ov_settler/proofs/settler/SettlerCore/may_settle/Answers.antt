use Rattle.std.proofs.Common.{subst, sym, ◌∙◌}
use Rattle.std.proofs.lemmas.Option.{same_Some}
use Rattle.ov_window.specs.Harvest.{IsWhole}
use Rattle.ov_settler.proofs.Admits.{open_whole, settle_iff}
use Rattle.ov_settler.proofs.settler.SettlerCore.may_settle.Goals as goal

pub returns-then-not-whole : goal.returns-then-not-whole
returns-then-not-whole c = rw (← c.self.view_is) (λ t h actor is. (
  λ no_. absurd cc,
  λ may.
      let whole = open_whole t h actor _ c.args.values.now is may in
      let same = same_Some whole.0 c.in-Some.harvest (sym whole.1 ∙ c.in-Some.is) in
      let a = rw c.if-not-whole.true at (c.whole.ensures.1 (subst IsWhole same whole.2)) in absurd cc,
))

pub returns : goal.returns
returns c = rw (← c.self.view_is) (λ t h actor is.
    settle_iff t h actor _ c.in-Some.harvest c.in_ok-plan.plan c.as_slice.result.now c.args.values.now c.same.result is c.in-Some.is (c.whole.ensures.0 c.if-not-whole.false)
    (rw (← c.self.view_is) at c.in_ok-plan.ensures) (c.as_slice.ensures.value ∙ c.in_ok-computed.ensures) (rw (c.in_ok-own.ensures, c.tasks.ensures.tasks) at c.same.ensures))
