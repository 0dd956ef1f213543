-- What the reply to a command of the script must show.
use Rattle.std.specs.Prelude.{◌≡◌, ℕ, ◌+◌, Some, slice_get}
use Rattle.ov_functor.specs.Execution.{Map, reply_of}
use Rattle.ov_functor.specs.Serial.{folded}
use Rattle.ov_functor.specs.declared.command.Command.{Command}
use Rattle.ov_functor.specs.declared.command.Command.TheVariants as commands
use Rattle.ov_functor.specs.declared.reply.Reply.{Reply}
use Rattle.ov_functor.specs.declared.reply.Reply.TheVariants.{Done, Aborted, Snap}
use Rattle.ov_session.specs.declared.plan.SessionPlan.{SessionPlan}
use Rattle.ov_session.specs.declared.planned.Planned.{Planned}
use Rattle.ov_session.specs.declared.roster.Roster.{Roster}
use Rattle.ov_history.specs.Past.{History}
use Rattle.ov_history.specs.Settlers.{shown}
use Rattle.ov_history.specs.Serial.{begun_at, begins}

-- the version of a transaction's reply, or the watermark of a snapshot's
abbrev pub reached : Reply → ℕ
reached (Done version gets) = version
reached (Aborted version gets) = version
reached (Snap watermark list) = watermark

-- Command c of session s of the roster.
pub record IsCommand (roster : Roster) (s c : ℕ) (command : Command) : Type 0 where
  pub plan : SessionPlan
  pub session : slice_get roster.sessions s ≡ Some plan
  pub number : ℕ
  pub number_is : c ≡ number + 1
  pub planned : Planned
  pub planned_is : slice_get plan.planned number ≡ Some planned
  pub command_is : planned.command ≡ command

-- the serial map just below n, as a fold that can be computed: what executing, one at a time in the order of their versions, the list of
-- all begun transactions with versions below n gives
abbrev pub serial_before : History → ℕ → Map
serial_before h n = folded (begins h) n

-- what a command shows at a number n: a transaction what executing it on the serial map just below n gives, where it was begun at n;
-- a snapshot its keys in that map
abbrev pub ShowsAt : History → Command → ℕ → Reply → Type 0
ShowsAt h (commands.Transact transaction) n reply = (begun_at h n ≡ Some transaction) × (reply ≡ reply_of (serial_before h n) n transaction)
ShowsAt h (commands.Snap keys) n reply = reply ≡ Snap n (shown (serial_before h n) keys)

-- The reply to command c of session s is the expected one: it shows the script's command at the version or watermark that it names.
pub record IsExpected (roster : Roster) (h : History) (s c : ℕ) (reply : Reply) : Type 0 where
  pub command : Command
  pub is : IsCommand roster s c command
  pub shows : ShowsAt h command (reached reply) reply
