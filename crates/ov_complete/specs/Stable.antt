-- What lines that add entries of some kinds leave as it was.
use Rattle.std.specs.Prelude.{◌≡◌, Bool, true, false, Some, List, [], ◌∷◌}
use Rattle.ov_event.specs.declared.entry.Entry.{Entry}
use Rattle.ov_event.specs.declared.kind.Kind.{Kind}
use Rattle.ov_event.specs.declared.kind.Kind.TheVariants.{Began, Published, Asked, Settled, Stopped}
use Rattle.ov_history.specs.Past.{History}
use Rattle.ov_history.specs.May.{Setting, May}
use Rattle.ov_history.specs.Gives.{gives}
use Rattle.ov_follow.specs.Lines.{Line}
use Rattle.ov_laws.specs.Runs.{IsRun}

-- ---- tests of kinds

-- whether a kind is that of an entry by which a letter is taken
abbrev pub is_taking : Kind → Bool
is_taking (Began session seq start) = false
is_taking (Published time vector) = false
is_taking (Asked round mode from below) = false
is_taking (Settled values) = false
is_taking Stopped = false
is_taking other = true

-- whether it is that of an entry by which a command begins
abbrev pub is_beginning : Kind → Bool
is_beginning (Began session seq start) = true
is_beginning other = false

-- whether it is that of an entry by which a gateway publishes
abbrev pub is_publishing : Kind → Bool
is_publishing (Published time vector) = true
is_publishing other = false

-- whether it is that of an entry by which a round is opened
abbrev pub is_asking : Kind → Bool
is_asking (Asked round mode from below) = true
is_asking other = false

-- whether it is that of an entry by which a round is settled
abbrev pub is_settling : Kind → Bool
is_settling (Settled values) = true
is_settling other = false

-- ---- facts that stay

-- A fact of lawful histories stays, whatever entry that passes the test follows.
pub record Stable (t : Setting) (test : Entry → Bool) (P : History → Type 0) : Type 0 where
  pub keep : (h : History) (e : Entry) → IsRun t h → May t h e → test e ≡ true → P h → P (e ∷ h)

-- whatever entry one of the lines gives, after whatever history, passes the test
abbrev pub GiveOnly : Setting → (Entry → Bool) → List Line → Type 0
GiveOnly t test [] = Unit {0}
GiveOnly t test (line ∷ lines) = ((h : History) (e : Entry) → gives t h line.actor line.act ≡ Some e → test e ≡ true) × GiveOnly t test lines
