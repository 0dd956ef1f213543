use Rattle.std.proofs.Common.{refl}
use Rattle.std.specs.Prelude.{[], ◌∷◌, codes, pos}
use Rattle.ov_functor.specs.declared.command.Command.TheVariants as commands
use Rattle.ov_functor.specs.declared.part.Part.TheVariants.{Put, Move}
use Rattle.ov_follow.specs.Schedules.{get_a_b_y}
use Rattle.ov_base.specs.Key.{key_eq}
use Rattle.ov_functor.specs.Execution.{changed, covers}
use Rattle.ov_follow.proofs.examples.move_that_does_not_hold.Goals as goal

pub returns-clause-replies : goal.returns-clause-replies
unfolding key_eq changed covers
returns-clause-replies c = refl

pub returns-clause-aborted : goal.returns-clause-aborted
unfolding key_eq changed covers
returns-clause-aborted c = record {
  command = commands.Transact (Move (codes "a") (codes "b") (pos 11) ∷ Put (codes "y") (pos 1) ∷ []);
  is = record { plan = _; session = refl; number = 1; number_is = refl; planned = _; planned_is = refl; command_is = refl };
  shows = (refl, refl);
}

pub returns-clause-shown : goal.returns-clause-shown
unfolding key_eq changed covers
returns-clause-shown c = record {
  command = commands.Transact get_a_b_y;
  is = record { plan = _; session = refl; number = 2; number_is = refl; planned = _; planned_is = refl; command_is = refl };
  shows = (refl, refl);
}
