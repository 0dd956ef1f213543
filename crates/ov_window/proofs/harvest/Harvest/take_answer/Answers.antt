use Rattle.std.proofs.Common.{List, true, arith, ap, subst, sym, ◌∙◌}
use Rattle.std.specs.Prelude.{slice_set}
use Rattle.std.specs.Vec.{with_item}
use Rattle.ov_functor.specs.declared.item.Item.{Item}
use Rattle.ov_window.specs.Harvest.{Gathered, IsMarked, joined, with_answer}
use Rattle.ov_window.proofs.Gathering.{joined_more}
use Rattle.ov_window.proofs.Marks.{row_count, row_length, row_marked, answer_is, lists_of, marked_more}
use Rattle.ov_window.proofs.harvest.Harvest.take_answer.Goals as goal

pub index_mut-requires-2 : goal.index_mut-requires-2
index_mut-requires-2 c =
    let partitions = ap (λ (g : Gathered). g.topology.partitions) c.self.view_is in
    let centres = ap (λ (g : Gathered). g.topology.centres) c.self.view_is in
    let long = row_length c.self.inside.topology c.self.inside.answered.items c.args.part c.index_mut.result.now c.self.invariant (omega (arith, partitions, c.requires.part)) c.index_mut.ensures.value in
    omega (arith, c.index_mut.result.now.ok.0, long, centres, c.requires.centre)

pub invariant_of-self-2 : goal.invariant_of-self-2
invariant_of-self-2 c =
    let partitions = ap (λ (g : Gathered). g.topology.partitions) c.self.view_is in
    let less = row_count c.self.inside.topology c.self.inside.answered.items c.self.invariant in
    subst (IsMarked c.self.inside.topology)
    (sym (row_marked c.self.inside.answered.items c.args.part c.args.centre c.index_mut.result.now (omega (arith, less, partitions, c.requires.part)) c.index_mut.ensures.value))
    (marked_more c.self.inside.topology _ c.args.part c.args.centre c.self.invariant (omega (arith, partitions, c.requires.part)))

pub returns-clause-ok : goal.returns-clause-ok
returns-clause-ok c =
    let partitions = ap (λ (g : Gathered). g.topology.partitions) c.self.view_is in
    let less = row_count c.self.inside.topology c.self.inside.answered.items c.self.invariant in
    ap (λ (more : List Item). record { topology = c.self.inside.topology; round = c.self.inside.round; answered = lists_of (slice_set c.self.inside.answered.items c.args.part (with_item c.index_mut.result.now c.args.centre true)); items = more })
    (ap joined c.in_ok-push.ensures.items ∙ joined_more c.self.inside.answers.items c.args.items)
    ∙ answer_is c.self.inside.topology c.self.inside.round c.self.inside.answered.items (joined c.self.inside.answers.items) c.args.items c.args.part c.args.centre c.index_mut.result.now (omega (arith, less, partitions, c.requires.part)) c.index_mut.ensures.value
    ∙ ap (λ (g : Gathered). with_answer g c.args.centre c.args.part c.args.items) c.self.view_is
