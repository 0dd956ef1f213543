use Rattle.std.proofs.Common.{rules, ◌≤◌, ◌∙◌, length, ap, sym, subst, arith}
use Rattle.std.specs.Vec.{vec_capacity}
use Rattle.ov_chronicle.specs.Rules.{IsNext, lawful_in, may_in}
use Rattle.ov_chronicle.proofs.Keeps.{out_is, one_out, serves, goes_on_in}
use Rattle.ov_chronicle.proofs.book.Chronicle.leave.Goals as goal

pub exchange-requires : goal.exchange-requires
exchange-requires g c = let t = c.requires.own.1 in (search rules, (t.0, out_is _ _ t.1))

pub fetch_add-requires : goal.fetch_add-requires
fetch_add-requires g c =
    let w = c.self.invariant in let one = c.requires.own.1 in let m = c.exchange.ensures.3 in
    let v = ap (λ x. x.0) m in (
      search rules,
      omega arith,
      serves (λ w. w.items) vec_capacity g.S.Saga.actor_of (lawful_in g.S.Saga.lawful) (may_in g.S.Saga.may_follow) (goes_on_in g.S.Saga.actor_of g.S.Saga.lawful g.S.Saga.may_follow g.met.S.Saga.goes_on) _ _ _ c.args.list (omega arith)
          (ap (λ x. x.live) v ∙ c.requires.turn.0) (ap (λ x. x.has) v ∙ c.requires.turn.1) (ap (λ x. x.1) m ∙ one_out _ one.0 _ one.1)
          (subst (λ x. x.limit ≤ vec_capacity c.args.list) (sym v) c.requires.list.0) (subst (λ x. length c.args.list.items ≤ x.limit) (sym v) c.requires.list.1)
          (subst (λ x. IsNext g.S.Saga.actor_of (may_in g.S.Saga.may_follow) x c.args.list.items) (sym v) c.requires.list.2),
    )
