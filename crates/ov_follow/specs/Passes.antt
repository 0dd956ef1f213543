-- The passes of a calm round: each lists lines from the history before it. Stopped actors are skipped in every role: they do nothing,
-- what they published last is not heard again, and their open rounds are not served. Entries are taken in the order of the history,
-- actors in their order, and sessions in the order of their numbers.
use Rattle.std.proofs.Common.{zero, suc}
use Rattle.std.specs.Prelude.{ℕ, ◌+◌, Bool, true, false, not, ◌&&◌, ◌||◌, ◌==◌, nat_lt, Option, Some, None, is_some, List, [], ◌∷◌, ◌++◌, length, get_or, if◌then◌else◌}
use Rattle.ov_base.specs.Version.{gate_of}
use Rattle.ov_topology.specs.Shape.{gates}
use Rattle.ov_topology.specs.declared.actor.Actor.{Actor}
use Rattle.ov_topology.specs.declared.actor.Actor.TheVariants.{Gate, Node, Settler}
use Rattle.ov_topology.specs.declared.mode.Mode.TheVariants.{Quorum}
use Rattle.ov_topology.specs.declared.place.Place.{Place}
use Rattle.ov_event.specs.Letters.{letters_of, is_asked, is_gate, is_settler}
use Rattle.ov_event.specs.declared.entry.Entry.{Entry}
use Rattle.ov_event.specs.declared.kind.Kind.{Kind}
use Rattle.ov_event.specs.declared.kind.Kind.TheVariants as kinds
use Rattle.ov_event.specs.declared.letter.Letter.{Letter}
use Rattle.ov_event.specs.declared.letter.Letter.TheVariants as letters
use Rattle.ov_history.specs.Past.{History, some, same_actor, stopped}
use Rattle.ov_history.specs.Placement.{acked}
use Rattle.ov_history.specs.Marks.{replies, visible}
use Rattle.ov_history.specs.Settlers.{Round, open_round, settled, asks}
use Rattle.ov_history.specs.May.{Setting}
use Rattle.ov_history.specs.Gives.{gives, settles}
use Rattle.ov_history.specs.Gives as acts
use Rattle.ov_follow.specs.Lines.{Line, begin_of}

-- ---- lists of lines

-- the lines for each entry, the oldest first, with its number
abbrev pub gather : (ℕ → Entry → List Line) → History → List Line
gather f [] = []
gather f (e ∷ h) = gather f h ++ f (length h + 1) e

-- the lines for each number below, upwards
abbrev pub each : (ℕ → List Line) → ℕ → List Line
each f zero = []
each f (suc n) = each f n ++ f n

-- the lines for each of an entry's letters, with their numbers
abbrev pub over : (ℕ → Letter → List Line) → ℕ → List Letter → List Line
over f number [] = []
over f number (letter ∷ others) = f number letter ++ over f (number + 1) others

-- the line, where the test passes
abbrev pub only : Bool → Line → List Line
only false line = []
only true line = line ∷ []

-- the line of taking a letter
abbrev pub take : Actor → ℕ → ℕ → Line
take actor number letter = record { actor = actor; act = acts.Take (record { entry = number; letter = letter }) }

-- the line, where its actor has not stopped
abbrev pub running : History → Line → List Line
running h line = only (not (stopped line.actor h)) line

-- ---- 1: what was replied is told

-- whether an entry tells that the command is replied
abbrev pub tells : ℕ → ℕ → Kind → Bool
tells s c (kinds.Told place session seq) = (session == s) && (seq == c)
tells s c other = false

-- whether the gateway was told that the command is replied
abbrev pub told : ℕ → ℕ → ℕ → History → Bool
told g s c h = some (λ e. if is_gate g e.actor then tells s c e.kind else false) h

-- the lines for an entry: a reply is told to each other gateway that was not told of that command
abbrev pub told_lines : Setting → History → ℕ → Actor → Kind → List Line
told_lines t h number (Gate g) (kinds.Replied place s c reply) = each (λ k. if not (k == g) && not (told k s c h) then running h (take (Gate k) number 1) else []) (gates t.topology)
told_lines t h number actor other = []

-- each `Replied` entry is told to each other gateway that was not told of that command
abbrev pub tolds : Setting → History → List Line
tolds t h = gather (λ number e. told_lines t h number e.actor e.kind) h

-- ---- 2: commands begin

-- the line, where there is one and it gives an entry
abbrev pub can : Setting → History → Option Line → List Line
can t h None = []
can t h (Some line) = only (is_some (gives t h line.actor line.act)) line

-- each session whose next command may begin begins it, at clock 0
abbrev pub begins : Setting → History → List Line
begins t h = each (λ s. can t h (begin_of t.roster 0 s)) (length t.roster.sessions)

-- ---- 3: writes are stored

-- whether two places are one
abbrev pub same_letter : Place → Place → Bool
same_letter a b = (a.entry == b.entry) && (a.letter == b.letter)

-- whether an entry stores the letter at the place
abbrev pub stores_from : Place → Kind → Bool
stores_from place (kinds.Stored from version items) = same_letter from place
stores_from place other = false

-- whether the node has stored the letter at the place
abbrev pub stored_from : Actor → Place → History → Bool
stored_from node place h = some (λ e. if same_actor node e.actor then stores_from place e.kind else false) h

-- the lines for a letter: a write is taken by each node of its partition that has not stored it from there
abbrev pub write_lines : Setting → History → ℕ → ℕ → Letter → List Line
write_lines t h number place (letters.Write version p items) =
    each (λ c. if stored_from (Node c p) (record { entry = number; letter = place }) h then [] else running h (take (Node c p) number place)) t.topology.centres
write_lines t h number place other = []

-- each `Write` letter is taken by each node of its partition that has not stored it
abbrev pub writes : Setting → History → List Line
writes t h = gather (λ number e. over (write_lines t h number) 1 (letters_of t.topology e)) h

-- ---- 4: stores are acknowledged

-- the lines for an entry: an acknowledgement is taken by its gateway, where it has none of that version by that node
abbrev pub ack_lines : Setting → History → ℕ → Actor → Kind → List Line
ack_lines t h number (Node c p) (kinds.Stored place version items) = if acked (gate_of version) version c p h then [] else running h (take (Gate (gate_of version)) number 1)
ack_lines t h number actor other = []

-- each acknowledgement is taken by its gateway, where it has none of that version by that node
abbrev pub acks : Setting → History → List Line
acks t h = gather (λ number e. ack_lines t h number e.actor e.kind) h

-- ---- 5 and 7: gateways publish; 6 and 8: what they published last is heard

-- each gateway publishes, at clock 0
abbrev pub publishes : Setting → History → List Line
publishes t h = each (λ g. running h (record { actor = Gate g; act = acts.Publish 0 })) (gates t.topology)

-- the number of the newest entry that passes, and 0 where there is none
abbrev pub newest : (Entry → Bool) → History → ℕ
newest f [] = 0
newest f (e ∷ h) = if f e then length h + 1 else newest f h

-- whether an entry publishes
abbrev pub is_published : Kind → Bool
is_published (kinds.Published time vector) = true
is_published other = false

-- the number of the last `Published` entry of a gateway, and 0 where there is none
abbrev pub last_published : ℕ → History → ℕ
last_published g h = newest (λ e. if is_gate g e.actor then is_published e.kind else false) h

-- an entry's gossip is heard by each other gateway, and then by each settler
abbrev pub hear_lines : Setting → History → ℕ → ℕ → List Line
hear_lines t h g number =
    each (λ k. if k == g then [] else running h (take (Gate k) number 1)) (gates t.topology) ++ each (λ s. running h (take (Settler s) number 1)) t.topology.centres

-- the last `Published` entry of each gateway is heard, where it has published and has not stopped
abbrev pub hears : Setting → History → List Line
hears t h = each (λ g. if stopped (Gate g) h || (last_published g h == 0) then [] else hear_lines t h g (last_published g h)) (gates t.topology)

-- ---- 9 to 12: rounds

-- each settler asks for a quorum round where its visibility watermark is above what it has settled
abbrev pub questions : Setting → History → List Line
questions t h = each (λ s. if nat_lt (settled s h) (visible t.topology (Settler s) h) then running h (record { actor = Settler s; act = acts.Ask Quorum }) else []) t.topology.centres

-- whether the settler has an open round, and has not stopped
abbrev pub is_waiting : History → ℕ → Bool
is_waiting h s = is_some (open_round s h) && not (stopped (Settler s) h)

-- the number of the last `Asked` entry of a settler, and 0 where there is none
abbrev pub last_asked : ℕ → History → ℕ
last_asked s h = newest (λ e. if is_settler s e.actor then asks e.kind else false) h

-- whether the settler's open round asks the nodes of a centre
abbrev pub mode_asks : ℕ → Option Round → ℕ → Bool
mode_asks s None c = false
mode_asks s (Some round) c = is_asked s round.mode (Node c 0)

-- the nodes that a settler's open round asks, by centre and then partition, answer it
abbrev pub answer_lines : Setting → History → ℕ → List Line
answer_lines t h s = each (λ c. if mode_asks s (open_round s h) c then each (λ p. running h (take (Node c p) (last_asked s h) 1)) t.topology.partitions else []) t.topology.centres

-- each open round of a settler that has not stopped is answered by each node that is asked
abbrev pub answers : Setting → History → List Line
answers t h = each (λ s. if is_waiting h s then answer_lines t h s else []) t.topology.centres

-- whether an entry answers the settler's open round
abbrev pub is_to : ℕ → Option Round → Kind → Bool
is_to s None kind = false
is_to s (Some round) (kinds.Answered place settler number items) = (settler == s) && (number == round.number)
is_to s (Some round) other = false

-- each answer to an open round is taken by its settler, where that has not stopped
abbrev pub takes : Setting → History → List Line
takes t h = each (λ s. if is_waiting h s then gather (λ number e. only (is_to s (open_round s h) e.kind) (take (Settler s) number 1)) h else []) t.topology.centres

-- each settler settles whose open round has answers enough
abbrev pub settlements : Setting → History → List Line
settlements t h = each (λ s. if is_some (settles t.topology h s) then running h (record { actor = Settler s; act = acts.Settle }) else []) t.topology.centres

-- ---- 13 and 14: commands are replied

-- whether the command is replied
abbrev pub is_replied : ℕ → ℕ → History → Bool
is_replied s c h = some (λ e. replies s c e.kind) h

-- the lines for a letter: a wanted reply is computed, where the command is not replied and the settler can
abbrev pub want_lines : Setting → History → ℕ → ℕ → Letter → List Line
want_lines t h number place (letters.Want s c g start) =
    if is_replied s c h then [] else can t h (Some (take (Settler (get_or t.topology.gateways g 0)) number place))
want_lines t h number place other = []

-- for each entry that begins a command that is not replied, the settler takes what wants the reply, where it can compute it
abbrev pub results : Setting → History → List Line
results t h = gather (λ number e. over (want_lines t h number) 1 (letters_of t.topology e)) h

-- the lines for an entry: a result is taken by its gateway, where the command is not replied
abbrev pub reply_lines : History → ℕ → Kind → List Line
reply_lines h number (kinds.Resulted place s c g reply) = if is_replied s c h then [] else running h (take (Gate g) number 1)
reply_lines h number other = []

-- each result of a command that is not replied is taken by its gateway
abbrev pub replies_of : Setting → History → List Line
replies_of t h = gather (λ number e. reply_lines h number e.kind) h
