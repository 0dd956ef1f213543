-- What one entry more changes of what is kept of a history.
use Rattle.std.specs.Prelude.{ℕ, Some, None}
use Rattle.ov_event.specs.declared.kind.Kind.{Kind}
use Rattle.ov_event.specs.declared.kind.Kind.TheVariants.{Asked, Settled}
use Rattle.ov_step.specs.declared.rounds.SettlerRounds.{SettlerRounds}

-- the rounds of a settler, after its entry of this number
abbrev pub rounds_next : ℕ → Kind → SettlerRounds → SettlerRounds
rounds_next number (Asked round mode from below) rounds = record { asked = number; «open» = Some (record { number = round; mode = mode }) }
rounds_next number (Settled values) rounds = record { asked = rounds.asked; «open» = None }
rounds_next number other rounds = rounds
