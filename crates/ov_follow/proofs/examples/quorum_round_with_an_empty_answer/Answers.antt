use Rattle.std.proofs.Common.{refl}
use Rattle.std.specs.Prelude.{[], ◌∷◌, codes, pos}
use Rattle.std.proofs.Common.{inl, arith}
use Rattle.ov_functor.specs.declared.part.Part.TheVariants.{Put}
use Rattle.ov_base.specs.Key.{key_eq}
use Rattle.ov_functor.specs.Execution.{changed, covers}
use Rattle.ov_follow.proofs.examples.quorum_round_with_an_empty_answer.Goals as goal

pub returns-clause-lines : goal.returns-clause-lines
unfolding key_eq changed covers
returns-clause-lines c = refl

pub returns-clause-marks : goal.returns-clause-marks
unfolding key_eq changed covers
returns-clause-marks c = refl

pub returns-clause-asks : goal.returns-clause-asks
unfolding key_eq changed covers
returns-clause-asks c = refl

pub returns-clause-empty : goal.returns-clause-empty
unfolding key_eq changed covers
returns-clause-empty c = refl

pub returns-clause-harvest : goal.returns-clause-harvest
unfolding key_eq changed covers
returns-clause-harvest c = refl

pub returns-clause-window : goal.returns-clause-window
unfolding key_eq changed covers
returns-clause-window c = record { transaction = Put (codes "x") (pos 1) ∷ []; begun = refl; within = inl refl; low = omega arith; high = omega arith }

pub returns-clause-settles : goal.returns-clause-settles
unfolding key_eq changed covers
returns-clause-settles c = refl

pub returns-clause-calm : goal.returns-clause-calm
unfolding key_eq changed covers
returns-clause-calm c = refl

pub returns-clause-replies : goal.returns-clause-replies
unfolding key_eq changed covers
returns-clause-replies c = refl
