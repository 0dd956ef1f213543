use Rattle.std.proofs.Common.{rules, ◌≡◌, ◌∙◌, ap, arith}
use Rattle.ov_cells.specs.Rules.{has, merge}
use Rattle.ov_cells.proofs.Known.{has_merge, merge_left, merge_right}
use Rattle.ov_cells.proofs.Steps.{joins, counts}
use Rattle.ov_cells.proofs.cells.Cells.join.Goals as goal
use Rattle.ov_cells.proofs.cells.Cells.join.Goals.{After-load}

pub join_seat-requires : goal.join_seat-requires
join_seat-requires c =
    let w = c.self.invariant.1 in
    (search rules, search rules, search rules, omega arith, joins _ _ _ _ _ (search rules))

pub load-requires : goal.load-requires
load-requires c =
    let w = c.self.invariant.1 in
    (search rules, omega arith, counts _ _ _ _ _)

-- what the seat knows at the end
known_is : (c : After-load) → c.load.new.seat.me.0.known ≡ merge c.args.seat.now.known c.args.other.known
known_is c =
    ap (λ me. me.0.known) c.load.ensures.2.0
    ∙ ap (λ me. me.0.known) c.join_seat.ensures.2
    ∙ (λ i. merge (c.seat.view_is i).known (c.other.view_is i).known)

pub returns-clause-known : goal.returns-clause-known
returns-clause-known c = λ place. ap (λ known. has known place) (known_is (goal.at.returns-clause-known c).After-load) ∙ has_merge c.args.seat.now.known c.args.other.known place

pub returns-clause-kept : goal.returns-clause-kept
returns-clause-kept c = λ place h. ap (λ known. has known place) (known_is (goal.at.returns-clause-kept c).After-load) ∙ merge_left c.args.seat.now.known c.args.other.known place h

pub returns-clause-taken : goal.returns-clause-taken
returns-clause-taken c = λ place h. ap (λ known. has known place) (known_is (goal.at.returns-clause-taken c).After-load) ∙ merge_right c.args.seat.now.known c.args.other.known place h
