-- What is seen of a functor.
use Rattle.std.specs.Prelude.{ℕ, List}
use Rattle.ov_functor.specs.declared.effect.Effect.{Effect}
use Rattle.ov_functor.specs.declared.part.Move.{Move}

-- A functor: its key, what becomes of the key's previous value, and the moves on which it hangs.
pub record Placeholder : Type 0 where
  pub key : List ℕ
  pub effect : Effect
  pub moves : List Move
