use Rattle.std.proofs.Common.{rules, ◌≡◌, ◌++◌, ◌∷◌, ◌∙◌, [], List, length, ap, sym, subst, arith}
use Rattle.std.specs.Prelude.{Option as Opt}
use mathlib.Core.List.{IsPrefix}
use Rattle.ov_chronicle.proofs.Prefixes.{prefix_more}
use Rattle.std.specs.Vec.{vec_capacity}
use Rattle.ov_chronicle.specs.Rules.{lawful_in, may_in}
use Rattle.ov_chronicle.specs.Lists.{entries_by}
use Rattle.ov_chronicle.specs.Seats.{mine}
use Rattle.ov_chronicle.proofs.Keeps.{adds, adds_lawfully, goes_on_in, one_more, stays_in}
use Rattle.ov_chronicle.proofs.book.Chronicle.append.Goals as goal

pub leave-requires-clause-own : goal.leave-requires-clause-own
leave-requires-clause-own g c κs within = let t = c.enter-list.ensures.turn in (search rules, (t.2, ap (λ m. m.1) t.3))

pub leave-requires-2-clause-own : goal.leave-requires-2-clause-own
leave-requires-2-clause-own g c κs within = let t = c.enter-list.ensures.turn in (search rules, (t.2, ap (λ m. m.1) t.3))

pub leave-requires-2-clause-list : goal.leave-requires-2-clause-list
leave-requires-2-clause-list g c κs within =
    let v = c.seat.view_is in
    let may = subst (λ s. may_in g.S.Saga.may_follow s.setting s.seen c.args.entry) (sym v) c.requires.entry.1 in
    let by = c.requires.entry.0 ∙ ap (λ s. s.actor) (sym v) in
    let limit = ap (λ s. s.limit) v ∙ (c.requires.own.1 ∙ ap (λ b. b.limit) (sym c.self.view_is)) in
    let lim : c.seat.inside.seat.me.0.limit ≡ c.self.inside.limit = limit in
    let len = c.len.ensures in let not = c.if-len-self.false in let ok = c.enter-list.result.ok in
    adds (λ w. w.items) vec_capacity g.S.Saga.actor_of (lawful_in g.S.Saga.lawful) (may_in g.S.Saga.may_follow) (stays_in g.S.Saga.actor_of g.S.Saga.lawful g.S.Saga.may_follow g.met.S.Saga.stays) c.seat.inside.seat.me.0 c.enter-list.new.seat.me c.enter-list.result c.push_reserved.new.self c.args.entry
    c.enter-list.ensures.turn may by c.push_reserved.ensures.items c.push_reserved.ensures.capacity (omega (arith, lim, len, not, ok.0))

pub returns-clause-ok : goal.returns-clause-ok
returns-clause-ok g c =
    let actor_of = g.S.Saga.actor_of in let v = c.seat.inside.seat.me.0 in
    let t = c.enter-list.ensures.turn in let lv = c.leave-2.ensures.turn in
    let by = c.requires.entry.0 ∙ ap (λ s. s.actor) (sym c.seat.view_is) in
    let seen : c.leave-2.new.seat.me.0.seen ≡ c.push_reserved.new.self.items = ap (λ m. m.0.seen) lv in
    let actor : c.leave-2.new.seat.me.0.actor ≡ v.actor = ap (λ m. m.0.actor) lv ∙ ap (λ m. m.0.actor) t.3 in
    let all : entries_by actor_of v.actor c.push_reserved.new.self.items ≡ entries_by actor_of v.actor v.seen ++ c.args.entry ∷ []
    = one_more (λ w. w.items) vec_capacity actor_of (lawful_in g.S.Saga.lawful) v c.enter-list.new.seat.me c.enter-list.result c.push_reserved.new.self c.args.entry t by c.push_reserved.ensures.items in
    let number = c.len-number.ensures in let own = c.push_reserved.new.self.ok in let pushed = c.push_reserved.ensures.len in let len = c.len.ensures in let not = c.if-len-self.false in
    let limit : c.self.inside.limit ≡ c.args.self.now.limit = ap (λ b. b.limit) c.self.view_is in
    let long : length c.leave-2.new.seat.me.0.seen ≡ length c.push_reserved.new.self.items = ap length seen in (
      (c.enter-list.result.items, seen ∙ c.push_reserved.ensures.items),
      omega (arith, number, own.0, long),
      omega (arith, number, pushed, len, not, limit),
      (λ k. entries_by actor_of (actor k) (seen k)) ∙ (all ∙ ap (λ s. mine actor_of s ++ c.args.entry ∷ []) c.seat.view_is),
    )

pub returns-clause-lawful : goal.returns-clause-lawful
returns-clause-lawful g c =
    let v = c.seat.inside.seat.me.0 in let t = c.enter-list.ensures.turn in let lv = c.leave-2.ensures.turn in
    let law = lawful_in g.S.Saga.lawful in let may_follow = may_in g.S.Saga.may_follow in
    let may = subst (λ s. may_follow s.setting s.seen c.args.entry) (sym c.seat.view_is) c.requires.entry.1 in
    let by = c.requires.entry.0 ∙ ap (λ s. s.actor) (sym c.seat.view_is) in
    let seen : c.leave-2.new.seat.me.0.seen ≡ c.enter-list.result.items ++ c.args.entry ∷ [] = ap (λ m. m.0.seen) lv ∙ c.push_reserved.ensures.items in
    let setting : c.leave-2.new.seat.me.0.setting ≡ v.setting = ap (λ m. m.0.setting) lv ∙ ap (λ m. m.0.setting) t.3 in
    subst (λ (z : Opt g.row.S-Setting.Denot × List g.row.S-Entry.Denot). law z.0 z.1) (λ k. (sym setting k, sym seen k))
    (adds_lawfully (λ w. w.items) vec_capacity g.S.Saga.actor_of law may_follow (goes_on_in g.S.Saga.actor_of g.S.Saga.lawful g.S.Saga.may_follow g.met.S.Saga.goes_on) (stays_in g.S.Saga.actor_of g.S.Saga.lawful g.S.Saga.may_follow g.met.S.Saga.stays)
    v c.enter-list.new.seat.me c.enter-list.result c.args.entry t may by)

pub returns-clause-seen : goal.returns-clause-seen
returns-clause-seen g c =
    let t = c.enter-list.ensures.turn in let lv = c.leave-2.ensures.turn in
    let seen : c.leave-2.new.seat.me.0.seen ≡ c.enter-list.result.items ++ c.args.entry ∷ [] = ap (λ m. m.0.seen) lv ∙ c.push_reserved.ensures.items in
    subst (λ l. IsPrefix c.args.seat.now.seen l) (sym seen) (subst (λ s. IsPrefix s.seen (c.enter-list.result.items ++ c.args.entry ∷ [])) c.seat.view_is (prefix_more c.seat.inside.seat.me.0.seen c.enter-list.result.items (c.args.entry ∷ []) t.4.3))
