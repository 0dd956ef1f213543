-- What the private calls of a gateway core compute.
use Rattle.std.specs.Prelude.{◌≡◌, ◌≢◌, ℕ, ◌-◌, Option, Some, None, List, ◌∷◌, map, get_or, slice_get}
use Rattle.std.specs.Option.{option_map}
use Rattle.ov_base.specs.Version.{number}
use Rattle.ov_base.specs.Word.{◌>>=◌}
use Rattle.ov_functor.specs.declared.command.Command.{Command}
use Rattle.ov_functor.specs.declared.reply.Reply.{Reply}
use Rattle.ov_gossip.specs.declared.marks.Marks.{Marks}
use Rattle.ov_session.specs.Events.{Event, Replied}
use Rattle.ov_session.specs.Standing.{StandsFor}
use Rattle.ov_session.specs.declared.planned.Planned.{Planned}
use Rattle.ov_session.specs.declared.roster.Roster.{Roster}
use Rattle.ov_event.specs.declared.letter.Letter.{Letter}
use Rattle.ov_event.specs.declared.letter.Letter.TheVariants as letters
use Rattle.ov_gate.specs.Gate.{GateState}
use Rattle.ov_gate.specs.Tracked.{with_reply}
use Rattle.ov_gate.specs.Tracker.{Rises, least_held, at_version}
use Rattle.ov_gate.specs.declared.tracked.Mark.TheVariants.{Low, Full, Done}
use Rattle.ov_gate.specs.declared.tracked.Tracked.{Tracked}

-- the command of a session
abbrev pub command_at : Roster → ℕ → ℕ → Option Command
command_at roster session seq = slice_get roster.sessions session >>= λ plan. option_map (λ (planned : Planned). planned.command) (slice_get plan.planned (seq - 1))

-- the marks of a gateway at a time, from what it keeps of the versions that it drew
abbrev pub own_kept : ℕ → ℕ → List Tracked → Marks
own_kept gate time tracked = record {
  low = least_held Low (number time gate) tracked;
  full = least_held Full (number time gate) tracked;
  done = least_held Done (number time gate) tracked;
}

-- what is kept of the drawn versions, with the reply to a command, where its session drew a version last
abbrev pub tracked_replied : Option ℕ → ℕ → ℕ → List Tracked → List Tracked
tracked_replied None session seq tracked = tracked
tracked_replied (Some version) session seq tracked = map (at_version version (with_reply session seq)) tracked

-- What noting a reply does: the sessions stand with it, and what is kept of the drawn versions has it. All else stays.
pub record Replies (old : GateState) (session seq : ℕ) (reply : Reply) (new : GateState) : Type 0 where
  pub rest : new ≡ record old { sessions = new.sessions; tracked = new.tracked }
  pub sessions_are : (roster : Roster) (gate : ℕ) (events : List Event) → StandsFor roster gate events old.sessions → StandsFor roster gate (Replied session seq reply ∷ events) new.sessions
  pub tracked_are : Rises old.tracked → new.tracked ≡ tracked_replied (get_or old.latest session None) session seq old.tracked

-- A letter is a gossip of another gateway, with this vector.
pub record IsGossip (gate : ℕ) (letter : Option Letter) (vector : List Marks) : Type 0 where
  pub sender : ℕ
  pub sent : letter ≡ Some (letters.Gossip sender vector)
  pub other : sender ≢ gate

-- A letter of another gateway tells of this command.
pub record IsWord (gate : ℕ) (letter : Option Letter) (session seq : ℕ) : Type 0 where
  pub sender : ℕ
  pub sent : letter ≡ Some (letters.Told session seq sender)
  pub other : sender ≢ gate
