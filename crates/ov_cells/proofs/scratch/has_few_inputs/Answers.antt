use Rattle.std.proofs.Common.{◌≤◌, inl, inr, length, arith}
use Rattle.std.proofs.lemmas.Bool.{cases_Bool}
use Rattle.ov_functor.specs.Functor.{reads, reads_own}
use Rattle.ov_functor.specs.Placeholder.{Placeholder}
use Rattle.ov_functor.proofs.FunctorCode.{move_keys_length}
use Rattle.ov_cells.proofs.scratch.has_few_inputs.Goals as goal

few : (functor : Placeholder) → length functor.moves ≤ 8 → length (reads functor) ≤ 17
few functor le = let long = move_keys_length functor.moves in elim (cases_Bool (reads_own functor.effect functor.moves)) [
  | inl own ↦ rw own (omega arith)
  | inr other ↦ rw other (omega arith)
]

pub returns : goal.returns
returns c = few c.args.functor.now c.moves.ensures.few
