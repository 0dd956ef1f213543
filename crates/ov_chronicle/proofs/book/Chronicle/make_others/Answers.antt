use Rattle.std.proofs.Common.{rules, ◌≡◌, ◌+◌, ◌∙◌, Some, length, ap, sym, arith}
use Rattle.std.specs.Vec.{vec_capacity}
use Rattle.ov_chronicle.specs.Rules.{lawful_in}
use Rattle.ov_chronicle.proofs.Keeps.{makes}
use Rattle.ov_chronicle.proofs.Starts.{one_later, founder_on}
use Rattle.ov_chronicle.proofs.book.Chronicle.make_others.Goals as goal

pub split_seat-requires : goal.split_seat-requires
split_seat-requires g c =
    let w = c.self.invariant.0 in let f = c.loop.invariant.1 in let i = f.0 in let m = f.2 in
    (search rules, omega arith, makes (λ w. w.items) vec_capacity g.S.Saga.actor_of (lawful_in g.S.Saga.lawful) _ c.loop.first.me.0 f.1 i.1 i.3 (let a = c.requires.actors.1 in let b = c.loop-test.true in omega arith))

pub loop-preserved : goal.loop-preserved
loop-preserved g c =
    let inv = c.loop.invariant in let f = inv.1 in let e = c.split_seat.ensures in let n = inv.2 in
    let own = c.loop.others.ok in let pushed = c.push_reserved.ensures.len in
    let count = f.2 in let setting = f.4 in let limit = f.5 in
    let actor : c.split_seat.result.me.0.actor ≡ 1 + length c.loop.others.items = ap (λ m. m.0.actor) e.4 ∙ omega (arith, count, n, own.0) in (
      search rules,
      founder_on _ _ _ _ _ _ e.2 f,
      omega (arith, n, pushed),
      one_later c.args.self.now (Some c.args.setting.now) 1 c.loop.others.items c.push_reserved.new.self.items _ c.push_reserved.ensures.items inv.3
          ((e.3 ∙ (inv.0 ∙ c.requires.own), ap (λ m. m.0.limit) e.4 ∙ limit, ap (λ m. m.0.actors) e.4 ∙ (f.10 ∙ sym c.requires.actors.2)), actor, ap (λ m. m.0.setting) e.4 ∙ setting, ap (λ m. m.0.seen) e.4, ap (λ m. m.0.turn) e.4),
      search rules,
    )
