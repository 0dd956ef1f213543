-- What a gateway's own entries say of the client sessions.
use Rattle.std.specs.Prelude.{ℕ, List, [], ◌∷◌, ◌++◌, if◌then◌else◌}
use Rattle.ov_session.specs.Events.{Event}
use Rattle.ov_session.specs.Events as events
use Rattle.ov_event.specs.declared.entry.Entry.{Entry}
use Rattle.ov_event.specs.declared.kind.Kind.{Kind}
use Rattle.ov_event.specs.declared.kind.Kind.TheVariants.{Began, Replied, Told}
use Rattle.ov_event.specs.Letters.{is_gate}
use Rattle.ov_history.specs.Past.{History}

-- what an entry says of a session
abbrev pub events_in : Kind → List Event
events_in (Began session seq start) = events.Begun session seq ∷ []
events_in (Replied place session seq reply) = events.Replied session seq reply ∷ []
events_in (Told place session seq) = events.Told session seq ∷ []
events_in other = []

abbrev pub events_by : ℕ → Entry → List Event
events_by g e = if is_gate g e.actor then events_in e.kind else []

-- the session events of the gateway, the newest first
abbrev pub events_of : ℕ → History → List Event
events_of g [] = []
events_of g (e ∷ h) = events_by g e ++ events_of g h
