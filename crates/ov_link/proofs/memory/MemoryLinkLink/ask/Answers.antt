use Rattle.std.proofs.Common.{◌≡◌, List, ◌++◌, ◌∷◌, [], true, false, ap, sym, subst, ◌∙◌}
use Rattle.ov_functor.specs.Windows.{Among}
use Rattle.ov_functor.specs.declared.item.Item.{Item}
use Rattle.ov_link.specs.Calls.{call_of}
use Rattle.ov_link.specs.Links.{AreAlike, AreAmong, AreInside, in_window}
use Rattle.ov_link.specs.Nodes.{LinkState, all_items, book_of, held_by}
use Rattle.ov_link.specs.declared.link.Call.{Call}
use Rattle.ov_link.specs.declared.nodes.Held.{Held}
use Rattle.ov_link.proofs.Books.{window_booked, window_inside}
use Rattle.ov_link.proofs.Counts.{failures_grow, failures_rise}
use Rattle.ov_link.proofs.memory.MemoryLinkLink.ask.Goals as goal

pub returns-then-contains-clause-failed : goal.returns-then-contains-clause-failed
returns-then-contains-clause-failed c = λ failed. rw c.in_ok-count.ensures.ok (failures_rise c.args.centre c.args.part c.args.self.now.calls)

pub returns-then-contains-clause-later : goal.returns-then-contains-clause-later
returns-then-contains-clause-later c = λ centre part. rw c.in_ok-count.ensures.ok (failures_grow centre part c.args.self.now.calls (call_of c.args.centre c.args.part false))

pub returns-clause-inside : goal.returns-clause-inside
returns-clause-inside c = subst (AreInside c.args.round.now) (sym c.in-Ok.ensures) (window_inside c.args.round.now (held_by c.as_slice.result.now c.args.centre c.args.part))

pub returns-clause-booked : goal.returns-clause-booked
returns-clause-booked c =
    let alike : AreAlike (all_items c.as_slice.result.now) = subst (λ (nodes : List Held). AreAlike (all_items nodes)) (sym c.as_slice.ensures.value) c.self.invariant in
    let nodes : c.as_slice.result.now ≡ c.count-2.new.self.nodes = c.as_slice.ensures.value ∙ (ap (λ (s : LinkState). s.nodes) c.self.view_is ∙ ap (λ (s : LinkState). s.nodes) (sym c.in_ok-count-2.ensures.ok)) in
    λ item among. subst (λ (list : List Held). Among item (book_of list)) nodes
    (window_booked c.as_slice.result.now c.args.centre c.args.part c.args.round.now alike item (subst (λ (items : List Item). Among item items) c.in-Ok.ensures among))

pub returns-clause-later : goal.returns-clause-later
returns-clause-later c = λ centre part. rw c.in_ok-count-2.ensures.ok (failures_grow centre part c.args.self.now.calls (call_of c.args.centre c.args.part true))
