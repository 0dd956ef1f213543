use Rattle.std.proofs.Common.{refl}
use Rattle.std.specs.Prelude.{[], ◌∷◌, codes}
use Rattle.ov_functor.specs.declared.command.Command.TheVariants as commands
use Rattle.ov_base.specs.Key.{key_eq}
use Rattle.ov_functor.specs.Execution.{changed, covers}
use Rattle.ov_follow.proofs.examples.snapshots_of_one_session.Goals as goal

pub returns-clause-replies : goal.returns-clause-replies
unfolding key_eq changed covers
returns-clause-replies c = refl

pub returns-clause-first : goal.returns-clause-first
unfolding key_eq changed covers
returns-clause-first c = record {
  command = commands.Snap (codes "x" ∷ []);
  is = record { plan = _; session = refl; number = 0; number_is = refl; planned = _; planned_is = refl; command_is = refl };
  shows = refl;
}

pub returns-clause-last : goal.returns-clause-last
unfolding key_eq changed covers
returns-clause-last c = record {
  command = commands.Snap (codes "x" ∷ codes "y" ∷ []);
  is = record { plan = _; session = refl; number = 2; number_is = refl; planned = _; planned_is = refl; command_is = refl };
  shows = refl;
}
