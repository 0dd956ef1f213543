-- What an event tells of its own session.
use Rattle.std.proofs.Common.{◌≡◌, ℕ, arith}
use Rattle.std.proofs.lemmas.Grind.{common_steps}
use Rattle.ov_session.specs.Events.{of_session}

-- the number of a session counts for the session itself
pub of_itself : (s n : ℕ) → of_session s s n ≡ n
of_itself s n = grind (arith, common_steps)
