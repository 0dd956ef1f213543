-- Tests of waits hold of equal things alone, in the form that `grind` applies by itself.
use Rattle.std.specs.Prelude.{◌≡◌, false, ◌⊎◌, List}
use Rattle.ov_base.specs.Exact.{lists_same}
use Rattle.ov_base.specs.Lemmas.{lists_same-cases}
use Rattle.ov_session.specs.declared.after.After.{After}
use Rattle.ov_session.specs.contracts.after.AfterPartialEq.TheImpl.{ghosts}
use Rattle.ov_session.specs.contracts.after.AfterPlain.TheImpl.Laws.{exact-law}

pub afters-cases : (xs ys : List After) → (lists_same ghosts.eq xs ys ≡ false) ⊎ (xs ≡ ys)
afters-cases xs ys = lists_same-cases ghosts.eq exact-law xs ys
