-- Tests of planned commands hold of equal things alone, in the form that `grind` applies by itself.
use Rattle.std.specs.Prelude.{◌≡◌, false, ◌⊎◌, List}
use Rattle.ov_base.specs.Exact.{lists_same}
use Rattle.ov_base.specs.Lemmas.{lists_same-cases}
use Rattle.ov_session.specs.declared.planned.Planned.{Planned}
use Rattle.ov_session.specs.contracts.planned.PlannedPartialEq.TheImpl.{ghosts}
use Rattle.ov_session.specs.contracts.planned.PlannedPlain.TheImpl.Laws.{exact-law}

pub planneds-cases : (xs ys : List Planned) → (lists_same ghosts.eq xs ys ≡ false) ⊎ (xs ≡ ys)
planneds-cases xs ys = lists_same-cases ghosts.eq exact-law xs ys
