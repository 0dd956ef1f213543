-- Tests of parts and moves hold of equal things alone, in the form that `grind` applies by itself.
use Rattle.std.specs.Prelude.{◌≡◌, false, ◌⊎◌, List}
use Rattle.ov_base.specs.Exact.{lists_same}
use Rattle.ov_base.specs.Lemmas.{lists_same-cases}
use Rattle.ov_functor.specs.declared.part.Part.{Part}
use Rattle.ov_functor.specs.declared.part.Move.{Move}
use Rattle.ov_functor.specs.contracts.part.PartPartialEq.TheImpl as part_impl
use Rattle.ov_functor.specs.contracts.part.PartPlain.TheImpl.Laws as part_laws
use Rattle.ov_functor.specs.contracts.part.MovePartialEq.TheImpl as move_impl
use Rattle.ov_functor.specs.contracts.part.MovePlain.TheImpl.Laws as move_laws

pub parts-cases : (xs ys : List Part) → (lists_same part_impl.ghosts.eq xs ys ≡ false) ⊎ (xs ≡ ys)
parts-cases xs ys = lists_same-cases part_impl.ghosts.eq part_laws.exact-law xs ys

pub moves-cases : (xs ys : List Move) → (lists_same move_impl.ghosts.eq xs ys ≡ false) ⊎ (xs ≡ ys)
moves-cases xs ys = lists_same-cases move_impl.ghosts.eq move_laws.exact-law xs ys
