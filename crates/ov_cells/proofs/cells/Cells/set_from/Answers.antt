use Rattle.std.proofs.Common.{◌+◌, ◌++◌, ◌∷◌, [], ◌∙◌, length, ap, subst, arith}
use Rattle.std.proofs.lemmas.List.{length_push}
use Rattle.ov_cells.specs.Paths.{IsPath}
use Rattle.ov_cells.proofs.Paths.{falls_done, falls_more, longer, path_few, path_next, shorter, unknown_fewer, unknown_less}
use Rattle.ov_cells.proofs.Seen.{steps, within}
use Rattle.ov_cells.proofs.cells.Cells.set_from.Goals as goal
use Rattle.ov_cells.proofs.cells.Cells.set_from.Goals.{In-Err, In-Some}

-- the stack with the next place on top
path_is : (c : In-Some) → IsPath c.loop-next.seat.known c.args.place (c.pop.new.self.items ++ c.in-Some.next ∷ [])
path_is c = subst (IsPath c.loop-next.seat.known c.args.place) c.in-Some.ensures.items c.loop-next.invariant.1

-- the stack after a turn that found an input unset
more_is : (c : In-Err) → IsPath c.loop-next.seat.known c.args.place (c.pop.new.self.items ++ c.in-Some.next ∷ [])
    → IsPath c.try_set.new.seat.known c.args.place ((c.pop.new.self.items ++ c.in-Some.next ∷ []) ++ c.in-Err.needed ∷ [])
more_is c path =
    longer c.loop-next.seat c.try_set.new.seat c.args.place c.pop.new.self.items c.in-Some.next c.in-Err.needed c.in-Err.ensures.learnt path c.in-Err.ensures.err

pub try_set-requires-clause-place : goal.try_set-requires-clause-place
try_set-requires-clause-place c =
    let path = path_is (goal.at.try_set-requires-clause-place c).In-Some in
    let next = path_next c.loop-next.seat.known c.args.place c.pop.new.self.items c.in-Some.next path in
    let le = next.0 in omega (arith, c.requires.place)

pub push_within-requires-in-Err-2 : goal.push_within-requires-in-Err-2
push_within-requires-in-Err-2 c =
    let path = path_is (goal.at.push_within-requires-in-Err-2 c).In-Some in
    let more = more_is (goal.at.push_within-requires-in-Err-2 c).In-Err path in
    let few = path_few c.try_set.new.seat.known c.args.place _ more in
    let long = length_push (c.pop.new.self.items ++ c.in-Some.next ∷ []) c.in-Err.needed in
    let items = ap (λ l. length l) c.push_within-in-Err.ensures.items in
    omega (arith, c.push_within-in-Err.new.items.ok.0, c.push_within-in-Err.ensures.capacity, c.pop.ensures.capacity, c.loop-next.invariant.2, c.requires.room, c.requires.place)

pub loop-next-smaller-in-Err : goal.loop-next-smaller-in-Err
loop-next-smaller-in-Err c =
    let path = path_is (goal.at.loop-next-smaller-in-Err c).In-Some in
    let more = more_is (goal.at.loop-next-smaller-in-Err c).In-Err path in
    let few = path_few c.try_set.new.seat.known c.args.place _ more in
    falls_more _ _ _ _ _ (unknown_less c.loop-next.seat.known c.try_set.new.seat.known c.in-Err.ensures.learnt.more (c.args.place + 1))
    (omega (arith, c.push_within-in-Err-2.ensures.len, c.push_within-in-Err.ensures.len, c.in-Some.ensures.cases))
    (let items = ap (λ l. length l) (c.push_within-in-Err-2.ensures.items ∙ ap (λ l. l ++ c.in-Err.needed ∷ []) c.push_within-in-Err.ensures.items) in omega (arith, c.push_within-in-Err-2.new.items.ok.0))

pub loop-next-preserved-in-Err : goal.loop-next-preserved-in-Err
loop-next-preserved-in-Err c =
    let path = path_is (goal.at.loop-next-preserved-in-Err c).In-Some in
    let next = path_next c.loop-next.seat.known c.args.place c.pop.new.self.items c.in-Some.next path in
    let le = next.0 in
    let more = more_is (goal.at.loop-next-preserved-in-Err c).In-Err path in
    let learnt = within (c.in-Some.next + 1) (c.args.place + 1) c.loop-next.seat c.try_set.new.seat (omega arith) c.in-Err.ensures.learnt in (
      steps (c.args.place + 1) c.args.seat.now c.loop-next.seat c.try_set.new.seat c.loop-next.invariant.0 learnt,
      rw (c.push_within-in-Err-2.ensures.items, c.push_within-in-Err.ensures.items) more,
      omega (arith, c.loop-next.invariant.2, c.pop.ensures.capacity, c.push_within-in-Err.ensures.capacity, c.push_within-in-Err-2.ensures.capacity),
      c.in-Err.ensures.inputs,
    )

pub loop-next-smaller : goal.loop-next-smaller
loop-next-smaller c =
    let path = path_is (goal.at.loop-next-smaller c).In-Some in
    let next = path_next c.loop-next.seat.known c.args.place c.pop.new.self.items c.in-Some.next path in
    let le = next.0 in
    let few = path_few c.loop-next.seat.known c.args.place _ c.loop-next.invariant.1 in
    falls_done _ _ _ _ _
    (unknown_fewer c.loop-next.seat.known c.try_set.new.seat.known c.in_default-try_set.ensures.learnt.more (c.args.place + 1) c.in-Some.next (omega arith) next.1 c.in_default-try_set.ensures.ok.1)
    (omega (arith, c.in-Some.ensures.cases))
    (omega (arith, c.loop-next.waiting.ok.0))

pub loop-next-preserved : goal.loop-next-preserved
loop-next-preserved c =
    let path = path_is (goal.at.loop-next-preserved c).In-Some in
    let next = path_next c.loop-next.seat.known c.args.place c.pop.new.self.items c.in-Some.next path in
    let le = next.0 in
    let learnt = within (c.in-Some.next + 1) (c.args.place + 1) c.loop-next.seat c.try_set.new.seat (omega arith) c.in_default-try_set.ensures.learnt in (
      steps (c.args.place + 1) c.args.seat.now c.loop-next.seat c.try_set.new.seat c.loop-next.invariant.0 learnt,
      shorter c.loop-next.seat c.try_set.new.seat c.args.place c.pop.new.self.items c.in-Some.next c.in_default-try_set.ensures.learnt path c.in_default-try_set.ensures.ok.1,
      omega (arith, c.loop-next.invariant.2, c.pop.ensures.capacity),
      c.in_default-try_set.ensures.inputs,
    )
