-- The report of a story: a line for each command of its script, in the order of the script's lines.
use Rattle.std.specs.Prelude.{◌≡◌, ℕ, Bool, ◌==◌, ◌&&◌, List, [], ◌∷◌, ◌++◌, codes, is_some, map, reverse, slice_get, Option, Some, None, if◌then◌else◌}
use Rattle.std.specs.Fmt.{decimal}
use Rattle.std.specs.List.{flat_map}
use Rattle.std.specs.Option.{option_map_or}
use Rattle.ov_functor.specs.Reply.{reply_text}
use Rattle.ov_functor.specs.declared.reply.Reply.{Reply}
use Rattle.ov_topology.specs.declared.actor.Actor.{Actor}
use Rattle.ov_topology.specs.declared.place.Place.{Place}
use Rattle.ov_session.specs.declared.roster.Roster.{Roster}
use Rattle.ov_script.specs.Script.{Content}
use Rattle.ov_script.specs.Sessions.{roster_of, order_of}
use Rattle.ov_script.specs.declared.order.CommandAt.{CommandAt}
use Rattle.ov_event.specs.declared.entry.Entry.{Entry}
use Rattle.ov_event.specs.declared.kind.Kind.{Kind}
use Rattle.ov_event.specs.declared.kind.Kind.TheVariants.{Replied}
use Rattle.ov_history.specs.Past.{History, at}

-- A line of a report: the name of a command's session, the command's number, and its reply, where it has one.
pub record Line : Type 0 where
  pub session : List ℕ
  pub seq : ℕ
  pub reply : Option Reply

-- ---- replies

-- the reply to command c of session s in an entry of this kind
abbrev pub reply_in : ℕ → ℕ → Kind → Option Reply
reply_in s c (Replied place session seq reply) = if (s == session) && (c == seq) then Some reply else None
reply_in s c other = None

-- the first, or else the second
abbrev pub or_else : Option Reply → Option Reply → Option Reply
or_else None second = second
or_else (Some reply) second = Some reply

-- the reply to command c of session s, where it has one: the last one, and a lawful history has no other
abbrev pub reply_to : ℕ → ℕ → History → Option Reply
reply_to s c [] = None
reply_to s c (e ∷ h) = or_else (reply_in s c e.kind) (reply_to s c h)

-- Some actor gave this reply to command c of session s.
pub record IsShown (h : History) (s c : ℕ) (reply : Reply) : Type 0 where
  pub number : ℕ
  pub actor : Actor
  pub place : Place
  pub there : at h number ≡ Some (record { actor = actor; kind = Replied place s c reply })

-- ---- lines

-- the name of a session
abbrev pub name_of : Roster → ℕ → List ℕ
name_of roster s = option_map_or (λ plan. plan.name) (slice_get roster.sessions s) []

-- the line of a command
abbrev pub line_of : Roster → History → CommandAt → Line
line_of roster h at = record { session = name_of roster at.session; seq = at.seq; reply = reply_to at.session at.seq h }

-- the lines of the report of a script with this history
abbrev pub report_lines : Content → History → List Line
report_lines script h = map (line_of (roster_of script.lines) h) (order_of script.lines)

-- the lines of the report of a story, whose entries are the oldest first; without a script there are none
abbrev pub story_lines : Option Content → List Entry → List Line
story_lines None entries = []
story_lines (Some script) entries = report_lines script (reverse entries)

-- ---- text

-- a reply, or `waiting`
abbrev pub reply_or_waiting : Option Reply → List ℕ
reply_or_waiting None = codes "waiting"
reply_or_waiting (Some reply) = reply_text reply

-- the session's name, the command's number and its reply
abbrev pub line_text : Line → List ℕ
line_text line = line.session ++ 32 ∷ decimal line.seq ++ 32 ∷ reply_or_waiting line.reply ++ 10 ∷ []

-- the text of these lines
abbrev pub lines_text : List Line → List ℕ
lines_text lines = flat_map line_text lines

-- the text of the report of a script with this history
abbrev pub report_text : Content → History → List ℕ
report_text script h = lines_text (report_lines script h)

-- whether the command of a line is replied
abbrev pub is_answered : Line → Bool
is_answered line = is_some line.reply
