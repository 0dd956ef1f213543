use Rattle.std.proofs.Common.{◌++◌, ◌∷◌, ◌∙◌, [], map, length, length-append, ap, sym, subst, arith}
use Rattle.ov_chronicle.specs.Seats.{AreOf, kept_of}
use Rattle.ov_chronicle.proofs.Closings.{before_last, kept_snoc}
use Rattle.ov_chronicle.proofs.book.Chronicle.gather.Goals as goal

pub take_in-requires-clause-own : goal.take_in-requires-clause-own
take_in-requires-clause-own g c κs within =
    let inv = c.loop-other.invariant in
    (inv.0, (before_last c.args.self.now c.pop.new.self.items c.in-Some.other (subst (AreOf c.args.self.now) c.in-Some.ensures.items inv.8)).1)

pub loop-other-preserved : goal.loop-other-preserved
loop-other-preserved g c =
    let inv = c.loop-other.invariant in let own = c.take_in.ensures.own in let e = c.take_in.ensures.first in let was = c.in-Some.ensures.items in
    let long = ap length was ∙ length-append c.pop.new.self.items (c.in-Some.other ∷ []) in let alive = e.2 in let before = inv.5 in (
      own.0 ∙ inv.0,
      own.1 ∙ inv.1,
      own.2 ∙ inv.2,
      e.0,
      e.1,
      omega (arith, long, alive, before),
      e.3 ∙ inv.6,
      ap (λ j. map kept_of c.pop.new.self.items ++ j) e.4 ∙ (kept_snoc c.pop.new.self.items c.in-Some.other c.loop-other.first.me.0.joined ∙ (ap (λ l. map kept_of l ++ c.loop-other.first.me.0.joined) (sym was) ∙ inv.7)),
      (before_last c.args.self.now c.pop.new.self.items c.in-Some.other (subst (AreOf c.args.self.now) was inv.8)).0,
    )
