-- What may follow is given by its actor, for the act to which it belongs.
use Rattle.std.proofs.Common.{◌≡◌, ℕ, ◌+◌, ◌≤◌, ◌<◌, ◌^◌, min, max, Bool, true, inl, inr, ◌⊎◌, Some, List, [], ◌∷◌, refl, sym, ap, subst, arith, zero, suc}
use Rattle.std.specs.List.{AllByRecursion, list_all}
use Rattle.std.proofs.lemmas.Bool.{lt-ltb, le-leb, eq-eqb}
use Rattle.std.proofs.lemmas.Bool.Decides.{eqb_tells}
use Rattle.ov_base.specs.Version.{number, time_of, gate_of}
use Rattle.ov_functor.specs.declared.command.Command.{Command}
use Rattle.ov_functor.specs.declared.command.Command.TheVariants as commands
use Rattle.ov_functor.specs.declared.item.Item.{Item}
use Rattle.ov_functor.specs.declared.item.Valued.{Valued}
use Rattle.ov_functor.specs.declared.reply.Reply.{Reply}
use Rattle.ov_gossip.specs.declared.marks.Marks.{Marks}
use Rattle.ov_topology.specs.Shape.{Shape, gates}
use Rattle.ov_topology.specs.declared.actor.Actor.{Actor}
use Rattle.ov_topology.specs.declared.actor.Actor.TheVariants.{Gate, Node, Settler}
use Rattle.ov_topology.specs.declared.mode.Mode.{Mode}
use Rattle.ov_topology.specs.declared.mode.Mode.TheVariants.{Quorum, One}
use Rattle.ov_topology.specs.declared.place.Place.{Place}
use Rattle.ov_session.specs.Events.{begun, replied, known}
use Rattle.ov_session.specs.Standing.{MayBegin}
use Rattle.ov_session.specs.declared.after.After.{After}
use Rattle.ov_event.specs.declared.entry.Entry.{Entry}
use Rattle.ov_event.specs.declared.kind.Kind.{Kind}
use Rattle.ov_event.specs.declared.kind.Kind.TheVariants as kinds
use Rattle.ov_event.specs.declared.letter.Letter.{Letter}
use Rattle.ov_event.specs.declared.letter.Letter.TheVariants as letters
use Rattle.ov_event.specs.declared.start.Start.{Start}
use Rattle.ov_event.specs.declared.start.Start.TheVariants.{Draw, Look}
use Rattle.ov_history.specs.Past.{History}
use Rattle.ov_history.specs.Letters.{Takes}
use Rattle.ov_history.specs.Counts.{all_below, weight}
use Rattle.ov_history.specs.Draws.{last}
use Rattle.ov_history.specs.Marks.{top_time}
use Rattle.ov_history.specs.Sessions.{events_of}
use Rattle.ov_history.specs.Settlers.{Round, open_round, rounds, settled, took, IsEnough, known_below, Shows}
use Rattle.ov_history.specs.May.{Setting, IsTime, StartsAs, MayStart, MayPublish, MayReply, upper, MayAsk, MayTake, MaySettle, Guard, May}
use Rattle.ov_history.specs.Gives.{clock_end, timed, time_at, is_known, ready, start_of, begins, vector_to, publishes, is_open, asks, is_enough, settles, is_current, reply_to, takes_as, takes, acts, gives, clock_of, act_of}
use Rattle.ov_history.proofs.Given.{vector_made}

-- ---- clocks

-- a reading of the time itself gives it, where it is the least that is allowed or within the range of clocks
time_back_at : (time end least : ℕ) → least ≤ time → (time ≡ least) ⊎ (time ≤ end) → max (min time end) least ≡ time
time_back_at time end least later (inl same) = omega (arith, same)
time_back_at time end least later (inr early) = omega (arith, later, early)

-- an allowed time is given by a reading of itself
pub time_again : (least time : ℕ) → IsTime least time → timed (time_at time least) ≡ Some time
time_again least time at =
    let same : time_at time least ≡ time = time_back_at time clock_end least at.later at.clock in
    rw (same, lt-ltb time (2 ^ 47) at.held) refl

-- ---- what gateways begin

-- what is known passes the test of what is waited for
known_waited : (g : ℕ) (h : History) (waited : List After) → AllByRecursion (λ after. after.seq ≤ known after.session (events_of g h)) waited → list_all (is_known g h) waited ≡ true
known_waited g h [] all = refl
known_waited g h (after ∷ waited) all = rw (le-leb after.seq (known after.session (events_of g h)) all.0) (known_waited g h waited all.1)

-- a command that may begin is ready
pub may_ready : (t : Setting) (h : History) (g s c : ℕ) (m : MayBegin t.roster g (events_of g h) s c) → ready t h g s ≡ Some m.planned
may_ready t h g s c m =
    rw (m.session, eq-eqb m.plan.gate g m.own, eq-eqb (begun s (events_of g h)) (replied s (events_of g h)) m.idle, m.further, known_waited g h m.planned.after m.waited) refl

-- a version is made of its time and its gateway
version_back : (version g : ℕ) → gate_of version ≡ g → number (time_of version) g ≡ version
version_back version g own = omega (arith, own)

-- a start of a command is given for it
pub starts_start : (h : History) (g s : ℕ) (command : Command) (start : Start) → StartsAs h g s command start → start_of h g s (clock_of start) command ≡ Some start
starts_start h g s (commands.Transact parts) (Draw version transaction) starts =
    let same : transaction ≡ parts = starts.0 in
    let back : number (time_of version) g ≡ version = version_back version g starts.1.own in
    rw (time_again (last g h + 1) (time_of version) starts.1.time) (rw (back, same) refl)
starts_start h g s (commands.Transact parts) (Look least keys) starts = absurd starts
starts_start h g s (commands.Snap keys) (Draw version transaction) starts = absurd starts
starts_start h g s (commands.Snap keys) (Look least others) starts = rw (starts.0, starts.1) refl

-- what a gateway may begin it begins
pub may_begins : (t : Setting) (h : History) (g s c : ℕ) (start : Start) → MayStart t h g s c start → begins t h g s (clock_of start) ≡ Some (kinds.Began s c start)
may_begins t h g s c start may =
    rw (may_ready t h g s c may.ready, starts_start h g s may.ready.planned.command start may.starts)
    (ap (λ n. Some (kinds.Began s n start)) (sym may.ready.next))

-- ---- what gateways publish

-- a vector that may be published is the one that the gateway gives
pub vector_back : (t : Shape) (h : History) (g time : ℕ) (vector : List Marks) → MayPublish t h g time vector → vector_to t g time h (gates t) ≡ vector
vector_back t h g time vector may = sym (vector_made t g time h vector may.width λ k less. elim (eqb_tells k g) [
  | inl same ↦ rw (same.1, eq-eqb g g refl) may.own
  | inr other ↦ rw other.0 (may.others k less other.1)
])

-- what a gateway may publish it publishes
pub may_publishes : (t : Shape) (h : History) (g time : ℕ) (vector : List Marks) → MayPublish t h g time vector → publishes t h g time ≡ Some (kinds.Published time vector)
may_publishes t h g time vector may = rw (time_again (max (last g h + 1) (top_time (Gate g) (gates t) h)) time may.at) (ap (λ v. Some (kinds.Published time v)) (vector_back t h g time vector may))

-- ---- letters

-- what an actor gives for a letter that it takes
take_again : (t : Setting) (h : History) (actor : Actor) (place : Place) (sent : Letter) (kind : Kind) → Takes t.topology h place actor sent → takes_as t h actor place sent ≡ Some kind → takes t h actor place ≡ Some kind
take_again t h actor place sent kind took is = rw (took.there, took.addressed) is

-- a command that may be replied is open
may_open : (t : Setting) (h : History) (g s c : ℕ) (place : Place) (reply : Reply) → MayReply t h place g s c reply → is_open t h g s c ≡ true
may_open t h g s c place reply may =
    rw (may.session, eq-eqb may.plan.gate g may.own, eq-eqb (begun s (events_of g h)) c (sym may.begun_is), eq-eqb (replied s (events_of g h) + 1) c (sym may.next)) refl

-- ---- what settlers do

-- a round that the settler may open is the one that it asks for
pub may_asks : (t : Shape) (h : History) (s round : ℕ) (mode : Mode) (from below : ℕ) → MayAsk t h s round mode from below → asks t h s mode ≡ Some (kinds.Asked round mode from below)
may_asks t h s round mode from below may =
    let held : rounds s h + 1 < 2 ^ 64 = subst (λ n. n < 2 ^ 64) may.next may.held in
    let above : settled s h < upper t s h mode = subst (λ n. settled s h < n) may.below_is (subst (λ n. n < below) may.from_is may.some) in
    rw (lt-ltb (rounds s h + 1) (2 ^ 64) held, lt-ltb (settled s h) (upper t s h mode) above)
    (rw (may.next, may.from_is, may.below_is) refl)

-- answers enough pass the test
pub is_enough_where : (t : Shape) (s : ℕ) (round : Round) (h : History) (mode : Mode) (p : ℕ) → IsEnough t s round p h mode → is_enough t s round h mode p ≡ true
is_enough_where t s round h Quorum p enough = le-leb t.read (weight t (λ c. took s round.number c p h)) enough
is_enough_where t s round h One p enough = enough

-- where each number below passes, all do
pub all_below_where : (f : ℕ → Bool) (n : ℕ) → ((p : ℕ) → p < n → f p ≡ true) → all_below f n ≡ true
all_below_where f zero each = refl
all_below_where f (suc n) each = rw (each n (omega arith), all_below_where f n (λ p less. each p (omega (arith, less)))) refl

-- what a settler may settle it settles
pub may_settles : (t : Shape) (h : History) (s : ℕ) (values : List Valued) → MaySettle t h s values → settles t h s ≡ Some (kinds.Settled values)
may_settles t h s values may =
    let all : all_below (is_enough t s may.current h may.current.mode) t.partitions ≡ true =
    all_below_where (is_enough t s may.current h may.current.mode) t.partitions (λ p less. is_enough_where t s may.current h may.current.mode p (may.enough p less)) in
    rw (may.current_is, all) (ap (λ v. Some (kinds.Settled v)) (sym may.values_are))

-- an answer that the settler may take is one of its open round
may_current : (t : Shape) (h : History) (place : Place) (s round c p : ℕ) (items : List Item) → MayTake t h place s round c p items → is_current (open_round s h) round ≡ true
may_current t h place s round c p items may = rw may.current_is (eq-eqb may.current.number round (sym may.same))

-- a reply that shows the settler's values is the one that it computes
shows_reply : (h : History) (s : ℕ) (start : Start) (reply : Reply) → Shows (known_below s h) (settled s h) start reply → reply_to h s start ≡ Some reply
shows_reply h s (Draw version transaction) reply shows = rw (lt-ltb version (settled s h) shows.0) (ap (λ r. Some r) (sym shows.1))
shows_reply h s (Look least keys) reply shows = rw (le-leb least (settled s h) shows.0) (ap (λ r. Some r) (sym shows.1))

-- ---- all actors

-- The actor gives the kind for its act.
abbrev IsGiven : Setting → History → Actor → Kind → Type 0
IsGiven t h actor kind = acts t h actor (act_of kind) ≡ Some kind

-- what a gateway may do it does for its act
gate_given : (t : Setting) (h : History) (g : ℕ) (kind : Kind) → Guard t h (Gate g) kind → IsGiven t h (Gate g) kind
gate_given t h g (kinds.Began s c start) may = may_begins t h g s c start may
gate_given t h g (kinds.Acked place version c p) may = take_again t h (Gate g) place (letters.Ack version c p) _ may refl
gate_given t h g (kinds.Published time vector) may = may_publishes t.topology h g time vector may
gate_given t h g (kinds.Heard place vector) may = take_again t h (Gate g) place (letters.Gossip may.sender vector) _ may.sent refl
gate_given t h g (kinds.Replied place s c reply) may = take_again t h (Gate g) place (letters.Result s c g reply) _ may.sent (rw (may_open t h g s c place reply may) refl)
gate_given t h g (kinds.Told place s c) may = take_again t h (Gate g) place (letters.Told s c may.sender) _ may.sent refl
gate_given t h g kinds.Stopped may = refl
gate_given t h g (kinds.Stored place version items) may = absurd may
gate_given t h g (kinds.Asked round mode from below) may = absurd may
gate_given t h g (kinds.Answered place settler round items) may = absurd may
gate_given t h g (kinds.Taken place round c p items) may = absurd may
gate_given t h g (kinds.Settled values) may = absurd may
gate_given t h g (kinds.Resulted place s c gate reply) may = absurd may

-- what a node may do it does for its act
node_given : (t : Setting) (h : History) (c p : ℕ) (kind : Kind) → Guard t h (Node c p) kind → IsGiven t h (Node c p) kind
node_given t h c p (kinds.Stored place version items) may = take_again t h (Node c p) place (letters.Write version p items) _ may refl
node_given t h c p (kinds.Answered place settler round items) may =
    take_again t h (Node c p) place (letters.Ask settler round may.mode may.from may.below) _ may.sent (ap (λ x. Some (kinds.Answered place settler round x)) (sym may.all))
node_given t h c p kinds.Stopped may = refl
node_given t h c p (kinds.Began s seq start) may = absurd may
node_given t h c p (kinds.Acked place version centre part) may = absurd may
node_given t h c p (kinds.Published time vector) may = absurd may
node_given t h c p (kinds.Heard place vector) may = absurd may
node_given t h c p (kinds.Asked round mode from below) may = absurd may
node_given t h c p (kinds.Taken place round centre part items) may = absurd may
node_given t h c p (kinds.Settled values) may = absurd may
node_given t h c p (kinds.Resulted place s seq gate reply) may = absurd may
node_given t h c p (kinds.Replied place s seq reply) may = absurd may
node_given t h c p (kinds.Told place s seq) may = absurd may

-- what a settler may do it does for its act
settler_given : (t : Setting) (h : History) (s : ℕ) (kind : Kind) → Guard t h (Settler s) kind → IsGiven t h (Settler s) kind
settler_given t h s (kinds.Heard place vector) may = take_again t h (Settler s) place (letters.Gossip may.sender vector) _ may.sent refl
settler_given t h s (kinds.Asked round mode from below) may = may_asks t.topology h s round mode from below may
settler_given t h s (kinds.Taken place round c p items) may =
    take_again t h (Settler s) place (letters.Answer s round c p items) _ may.sent (rw (may_current t.topology h place s round c p items may) refl)
settler_given t h s (kinds.Settled values) may = may_settles t.topology h s values may
settler_given t h s (kinds.Resulted place session seq gate reply) may =
    take_again t h (Settler s) place (letters.Want session seq gate may.start) _ may.sent (rw (shows_reply h s may.start reply may.shows) refl)
settler_given t h s kinds.Stopped may = refl
settler_given t h s (kinds.Began session seq start) may = absurd may
settler_given t h s (kinds.Stored place version items) may = absurd may
settler_given t h s (kinds.Acked place version centre part) may = absurd may
settler_given t h s (kinds.Published time vector) may = absurd may
settler_given t h s (kinds.Answered place settler round items) may = absurd may
settler_given t h s (kinds.Replied place session seq reply) may = absurd may
settler_given t h s (kinds.Told place session seq) may = absurd may

-- what an actor may do it does for its act
guard_given : (t : Setting) (h : History) (actor : Actor) (kind : Kind) → Guard t h actor kind → IsGiven t h actor kind
guard_given t h (Gate g) kind may = gate_given t h g kind may
guard_given t h (Node c p) kind may = node_given t h c p kind may
guard_given t h (Settler s) kind may = settler_given t h s kind may

-- what may follow is given by its actor for its act
pub may_given : (t : Setting) (h : History) (e : Entry) → May t h e → gives t h e.actor (act_of e.kind) ≡ Some e
may_given t h e may = rw (may.known, may.running, guard_given t h e.actor e.kind may.guard) refl
