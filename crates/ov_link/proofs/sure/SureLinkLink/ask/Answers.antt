use Rattle.std.proofs.Common.{◌≡◌, List, ap, sym, subst, ◌∙◌}
use Rattle.ov_functor.specs.Windows.{Among}
use Rattle.ov_functor.specs.declared.item.Item.{Item}
use Rattle.ov_link.specs.Links.{AreAlike, AreAmong, AreInside}
use Rattle.ov_link.specs.Nodes.{all_items, book_of, held_by}
use Rattle.ov_link.specs.declared.nodes.Held.{Held}
use Rattle.ov_link.proofs.Books.{window_booked, window_inside}
use Rattle.ov_link.proofs.sure.SureLinkLink.ask.Goals as goal
use Rattle.ov_link.proofs.sure.SureLinkLink.ask.Goals.{in-Ok, in-Err}

pub returns-clause-inside : goal.returns-clause-inside
returns-clause-inside c = elim c.match-window_of.branch [
  | in-Ok w ↦ rw w.result-is (subst (AreInside c.args.round.now) (sym w.in-Ok.ensures) (window_inside c.args.round.now (held_by c.as_slice.result.now c.args.centre c.args.part)))
  | in-Err w ↦ rw w.result-is tt
]

pub returns-clause-booked : goal.returns-clause-booked
returns-clause-booked c =
    let alike : AreAlike (all_items c.as_slice.result.now) = subst (λ (nodes : List Held). AreAlike (all_items nodes)) (sym c.as_slice.ensures.value) c.self.invariant in
    let nodes : c.as_slice.result.now ≡ c.args.self.now = c.as_slice.ensures.value ∙ c.self.view_is in
    elim c.match-window_of.branch [
      | in-Ok w ↦ rw w.result-is (λ item among. subst (λ (list : List Held). Among item (book_of list)) nodes
          (window_booked c.as_slice.result.now c.args.centre c.args.part c.args.round.now alike item (subst (λ (items : List Item). Among item items) w.in-Ok.ensures among)))
      | in-Err w ↦ rw w.result-is tt
    ]
