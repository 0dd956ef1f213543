-- What calm rounds keep of the rounds of settlers, and of what gateways published.
use Rattle.std.specs.Prelude.{◌≡◌, ℕ, Some, List, length, slice_get}
use Rattle.std.specs.Option.{option_map}
use Rattle.ov_history.specs.Past.{History}
use Rattle.ov_history.specs.Settlers.{Round, open_round}
use Rattle.ov_follow.specs.Passes.{last_asked, last_published}
use Rattle.ov_step.specs.declared.rounds.OpenRound.{OpenRound}
use Rattle.ov_step.specs.declared.rounds.SettlerRounds.{SettlerRounds}

-- a round as calm rounds keep it
abbrev pub kept_round : Round → OpenRound
kept_round round = record { number = round.number; mode = round.mode }

-- these are the rounds of so many settlers: of each the number of its last `Asked` entry, 0 where there is none, and its open round
pub record AreRounds (h : History) (count : ℕ) (settlers : List SettlerRounds) : Type 0 where
  pub all : length settlers ≡ count
  pub each : (s : ℕ) (rounds : SettlerRounds) → slice_get settlers s ≡ Some rounds → (rounds.asked ≡ last_asked s h) × (rounds.open ≡ option_map kept_round (open_round s h))

-- these are the numbers of the last `Published` entries of so many gateways, 0 where there is none
pub record AreLast (h : History) (count : ℕ) (numbers : List ℕ) : Type 0 where
  pub all : length numbers ≡ count
  pub each : (g number : ℕ) → slice_get numbers g ≡ Some number → number ≡ last_published g h
