use Rattle.std.proofs.Common.{◌++◌, ◌∷◌, ◌∙◌, [], Some, map, length, ap, sym, subst, refl, arith}
use Rattle.std.specs.Prelude.{Option as Opt}
use mathlib.Core.Option.{some}
use Rattle.std.specs.Vec.{vec_capacity}
use Rattle.ov_chronicle.specs.Rules.{IsKept, founder, lawful_in}
use Rattle.ov_chronicle.proofs.Keeps.{opens}
use Rattle.ov_chronicle.specs.Seats.{Book, Holder, AreSeats}
use Rattle.ov_chronicle.proofs.Starts.{one_before}
use Rattle.ov_chronicle.proofs.book.Chronicle.start.Goals as goal

pub new-requires : goal.new-requires
new-requires g c =
    let homes = ap (λ l. map some l) (c.push_reserved.ensures.items ∙ ap (λ l. l ++ c.in_ok-list.list ∷ []) c.in_ok-slots.ensures.items) in
    let room = c.in_ok-list.ensures.exact in
    subst (λ hs. IsKept (λ w. w.items) vec_capacity g.S.Saga.actor_of (lawful_in g.S.Saga.lawful) (0 ∷ 0 ∷ []) hs (founder (Some c.of.result.value) c.args.limit c.args.actors ∷ [])) (sym homes)
    (opens (λ w. w.items) vec_capacity g.S.Saga.actor_of (lawful_in g.S.Saga.lawful) (0 ∷ 0 ∷ []) c.in_ok-list.list (Some c.of.result.value) c.args.limit c.args.actors refl c.in_ok-list.ensures.items (omega arith) (λ s _. g.met.S.Saga.begins s))

pub returns : goal.returns
returns g c =
    let o = c.in_ok-others.ensures.seats in let f = c.in_ok-others.ensures.first in let i = f.0 in
    let v = c.make_others.new.first.me.0 in
    let h : Holder g.row.S-Entry.Denot (Opt g.row.S-Setting.Denot) = record { table = c.make_others.new.first.table_id; limit = v.limit; actors = v.actors; actor = v.actor; setting = v.setting; seen = v.seen; turn = v.turn } in
    let all = c.in_ok-append.ensures.items ∙ ap (λ l. l ++ c.in_ok-others.others.items) (c.push_reserved-2.ensures.items ∙ ap (λ l. l ++ h ∷ []) c.in_ok-seats.ensures.items) in
    let long = ap length all in let own = c.in_ok-others.others.ok in let n = o.0 in
    let bk : Book = record { table = c.in-Ok.table.shared.table_id; limit = c.args.limit; actors = c.args.actors } in (
      refl,
      refl,
      omega (arith, long, own.0, n),
      subst (λ l. AreSeats 0 bk (Some c.args.setting.now) l) (sym all)
          (one_before bk (Some c.args.setting.now) c.in_ok-others.others.items h ((c.in_ok-others.ensures.own ∙ c.in-Ok.ensures.ok.2, f.5, f.10), f.3, f.4, f.6, f.7) o.1),
    )
