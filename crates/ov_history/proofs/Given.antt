-- What an actor gives for an act may follow.
use Rattle.std.proofs.Common.{◌≡◌, ◌≢◌, ◌==◌, ℕ, ◌+◌, ◌≤◌, ◌<◌, ◌^◌, min, max, Bool, true, false, not, ◌&&◌, inl, inr, ◌⊎◌, Option, Some, None, List, [], ◌∷◌, length, length-append, refl, sym, subst, ◌∙◌, arith, zero, suc}
use Rattle.std.specs.Prelude.{if◌then◌else◌, nat_le, nat_lt, slice_get}
use Rattle.std.specs.List.{AllByRecursion, list_all}
use Rattle.std.specs.Option.{option_map}
use Rattle.std.proofs.lemmas.Bool.{leb-true, ltb-true, eqb-true, and_parts, not-true}
use Rattle.std.proofs.lemmas.Bool.Decides.{eqb_tells}
use Rattle.std.proofs.lemmas.Grind.{common_steps}
use Rattle.std.proofs.lemmas.List.{get_or_push, get_or_append_left, get_or_default, same_lists}
use Rattle.ov_base.specs.Lemmas.{time_back, gate_back}
use Rattle.ov_base.specs.Version.{number}
use Rattle.ov_base.proofs.Readers.{bind_some, chosen}
use Rattle.ov_functor.specs.Execution.{reply_of}
use Rattle.ov_functor.specs.declared.command.Command.{Command}
use Rattle.ov_functor.specs.declared.command.Command.TheVariants as commands
use Rattle.ov_functor.specs.declared.reply.Reply.{Reply}
use Rattle.ov_functor.specs.declared.reply.Reply.TheVariants.{Snap}
use Rattle.ov_gossip.specs.Marks.{mark_at, no_marks}
use Rattle.ov_gossip.specs.declared.marks.Marks.{Marks}
use Rattle.ov_topology.specs.Shape.{Shape, IsShape, gates}
use Rattle.ov_topology.specs.declared.actor.Actor.{Actor}
use Rattle.ov_topology.specs.declared.actor.Actor.TheVariants.{Gate, Node, Settler}
use Rattle.ov_topology.specs.declared.mode.Mode.{Mode}
use Rattle.ov_topology.specs.declared.mode.Mode.TheVariants.{Quorum, One}
use Rattle.ov_topology.specs.declared.place.Place.{Place}
use Rattle.ov_session.specs.Events.{begun, replied, known, floor}
use Rattle.ov_session.specs.Standing.{MayBegin}
use Rattle.ov_session.specs.declared.after.After.{After}
use Rattle.ov_session.specs.declared.planned.Planned.{Planned}
use Rattle.ov_session.specs.declared.plan.SessionPlan.{SessionPlan}
use Rattle.ov_event.specs.Letters.{is_in, is_for}
use Rattle.ov_event.specs.declared.entry.Entry.{Entry}
use Rattle.ov_event.specs.declared.kind.Kind.{Kind}
use Rattle.ov_event.specs.declared.kind.Kind.TheVariants as kinds
use Rattle.ov_event.specs.declared.letter.Letter.{Letter}
use Rattle.ov_event.specs.declared.letter.Letter.TheVariants as letters
use Rattle.ov_event.specs.declared.start.Start.{Start}
use Rattle.ov_event.specs.declared.start.Start.TheVariants.{Draw, Look}
use Rattle.ov_history.specs.Past.{History, stopped}
use Rattle.ov_history.specs.Letters.{letter, Takes}
use Rattle.ov_history.specs.Counts.{all_below, weight}
use Rattle.ov_history.specs.Draws.{last}
use Rattle.ov_history.specs.Marks.{marks, top_time, own_marks}
use Rattle.ov_history.specs.Sessions.{events_of}
use Rattle.ov_history.specs.Nodes.{answer}
use Rattle.ov_history.specs.Settlers.{Round, open_round, rounds, settled, took, IsEnough, plan_values, known_below, shown, Shows}
use Rattle.ov_history.specs.May.{Setting, IsTime, MayDraw, StartsAs, MayReply, upper, Guard, MayBy}
use Rattle.ov_history.specs.Gives.{Act, clock_end, timed, time_at, is_known, ready, start_of, begins, vector_to, publishes, is_own, is_open, gate_takes, node_takes, asks, is_enough, settles, is_current, reply_to, settler_takes, takes_as, takes, acts, gives}
use Rattle.ov_history.specs.Gives as given

-- ---- clocks

-- the time of a reading is not below the least that is allowed, and it is that one or within the range of clocks
time_within : (clock end least : ℕ) → (least ≤ max (min clock end) least) × ((max (min clock end) least ≡ least) ⊎ (max (min clock end) least ≤ end))
time_within clock end least = (omega arith, grind (arith, common_steps))

-- a time that a reading gives is allowed
pub time_allowed : (clock least time : ℕ) → timed (time_at clock least) ≡ Some time → IsTime least time
time_allowed clock least time is =
    let q = chosen (nat_lt (time_at clock least) (2 ^ 47)) (Some (time_at clock least)) time is in
    let same : time_at clock least ≡ time = cc in
    let within = time_within clock clock_end least in
    subst (λ n. IsTime least n) same (record { later = within.0; held = ltb-true (time_at clock least) (2 ^ 47) q.0; clock = within.1 })

-- ---- lists and counts

-- where all numbers below pass, each does
pub all_below_at : (f : ℕ → Bool) (n : ℕ) → all_below f n ≡ true → (p : ℕ) → p < n → f p ≡ true
all_below_at f zero all p less = absurd (omega (arith, less))
all_below_at f (suc n) all p less =
    let parts = and_parts (f n) (all_below f n) all in
    elim (eqb_tells p n) [
      | inl same ↦ rw same.1 parts.0
      | inr other ↦ all_below_at f n parts.1 p (omega (arith, less, other.1))
    ]

-- what is waited for is known
waited_known : (g : ℕ) (h : History) (waited : List After) → list_all (is_known g h) waited ≡ true → AllByRecursion (λ after. after.seq ≤ known after.session (events_of g h)) waited
waited_known g h [] all = tt
waited_known g h (after ∷ waited) all =
    let parts = and_parts (is_known g h after) (list_all (is_known g h) waited) all in
    (leb-true after.seq (known after.session (events_of g h)) parts.0, waited_known g h waited parts.1)

-- ---- what gateways begin

-- a command that is ready may begin
pub ready_may : (t : Setting) (h : History) (g s : ℕ) (planned : Planned) → ready t h g s ≡ Some planned
    → (m : MayBegin t.roster g (events_of g h) s (begun s (events_of g h) + 1)) × (m.planned ≡ planned)
ready_may t h g s planned is =
    bind_some (slice_get t.roster.sessions s) _ planned is λ plan here rest.
    bind_some (if (plan.gate == g) && (begun s (events_of g h) == replied s (events_of g h)) then slice_get plan.planned (begun s (events_of g h)) else None) _ planned rest λ one there test.
    let q = chosen ((plan.gate == g) && (begun s (events_of g h) == replied s (events_of g h))) (slice_get plan.planned (begun s (events_of g h))) one there in
    let tests = and_parts (plan.gate == g) (begun s (events_of g h) == replied s (events_of g h)) q.0 in
    let r = chosen (list_all (is_known g h) one.after) (Some one) planned test in
    let same : one ≡ planned = cc in (
      record {
        plan = plan;
        session = here;
        own = eqb-true plan.gate g tests.0;
        idle = eqb-true (begun s (events_of g h)) (replied s (events_of g h)) tests.1;
        next = refl;
        planned = one;
        further = q.1;
        waited = waited_known g h one.after r.0;
      },
      same,
    )

-- a drawn version is the gateway's and later than its last time
draw_may : (h : History) (g time : ℕ) → g < 65536 → IsTime (last g h + 1) time → MayDraw h g (number time g)
draw_may h g time small at = record {
  own = gate_back time g (record { early = at.held; small = small });
  time = subst (λ n. IsTime (last g h + 1) n) (sym (time_back time g (record { early = at.held; small = small }))) at;
}

-- a start that is given is one of its command
pub start_starts : (h : History) (g s clock : ℕ) (command : Command) (start : Start) → g < 65536 → start_of h g s clock command ≡ Some start → StartsAs h g s command start
start_starts h g s clock (commands.Transact parts) start small is =
    bind_some (timed (time_at clock (last g h + 1))) _ start is λ time at rest.
    let same : Draw (number time g) parts ≡ start = cc in
    subst (λ x. StartsAs h g s (commands.Transact parts) x) same (refl, draw_may h g time small (time_allowed clock (last g h + 1) time at))
start_starts h g s clock (commands.Snap keys) start small is =
    let same : Look (floor s (events_of g h)) keys ≡ start = cc in
    subst (λ x. StartsAs h g s (commands.Snap keys) x) same (refl, refl)

-- what a gateway begins it may begin
pub begins_may : (t : Setting) (h : History) (g s clock : ℕ) (kind : Kind) → g < 65536 → begins t h g s clock ≡ Some kind → Guard t h (Gate g) kind
begins_may t h g s clock kind small is =
    bind_some (ready t h g s) _ kind is λ planned ready_is rest.
    bind_some (start_of h g s clock planned.command) _ kind rest λ start start_is end.
    let m = ready_may t h g s planned ready_is in
    let same : kinds.Began s (begun s (events_of g h) + 1) start ≡ kind = cc in
    let starts : StartsAs h g s planned.command start = start_starts h g s clock planned.command start small start_is in
    subst (λ k. Guard t h (Gate g) k) same (record { ready = m.0; starts = subst (λ (one : Planned). StartsAs h g s one.command start) (sym m.1) starts })

-- ---- what gateways publish

-- how long the first marks of a vector are
pub vector_length : (t : Shape) (g time : ℕ) (h : History) (n : ℕ) → length (vector_to t g time h n) ≡ n
vector_length t g time h zero = refl
vector_length t g time h (suc n) = let rest = vector_length t g time h n in simp length-append (omega (arith, rest))

-- the marks at a place of a vector
pub vector_at : (t : Shape) (g time : ℕ) (h : History) (n k : ℕ) → k < n → mark_at (vector_to t g time h n) k ≡ (if k == g then own_marks t g time h else marks (Gate g) k h)
vector_at t g time h zero k less = absurd (omega (arith, less))
vector_at t g time h (suc n) k less =
    let long = vector_length t g time h n in
    elim (eqb_tells k n) [
      | inl same ↦ rw same.1 (get_or_push (vector_to t g time h n) (if n == g then own_marks t g time h else marks (Gate g) n h) no_marks n long)
      | inr other ↦ get_or_append_left (vector_to t g time h n) _ no_marks k (omega (arith, less, other.1, long)) ∙ vector_at t g time h n k (omega (arith, less, other.1))
    ]

-- a vector with the marks at each place is the one that the gateway publishes
pub vector_made : (t : Shape) (g time : ℕ) (h : History) (vector : List Marks) → length vector ≡ gates t
    → ((k : ℕ) → k < gates t → mark_at vector k ≡ (if k == g then own_marks t g time h else marks (Gate g) k h)) → vector ≡ vector_to t g time h (gates t)
vector_made t g time h vector width each =
    let long : length (vector_to t g time h (gates t)) ≡ gates t = vector_length t g time h (gates t) in
    same_lists vector (vector_to t g time h (gates t)) (width ∙ sym long) λ k d less.
    let inside : k < gates t = omega (arith, less, width) in
    let here : k < length (vector_to t g time h (gates t)) = omega (arith, inside, long) in
    get_or_default vector k d no_marks less ∙ (each k inside ∙ sym (vector_at t g time h (gates t) k inside)) ∙ get_or_default (vector_to t g time h (gates t)) k no_marks d here

-- the marks of another gateway at its place
vector_other : (t : Shape) (g time : ℕ) (h : History) (n k : ℕ) → k < n → k ≢ g → mark_at (vector_to t g time h n) k ≡ marks (Gate g) k h
vector_other t g time h n k less other = vector_at t g time h n k less ∙ by (k == g) (eqb-true k g)
  where
    by : (b : Bool) → (b ≡ true → k ≡ g) → (if b then own_marks t g time h else marks (Gate g) k h) ≡ marks (Gate g) k h
    by true same = absurd (other (same refl))
    by false same = refl

-- the gateway's own marks at its place
vector_own : (t : Shape) (g time : ℕ) (h : History) (n : ℕ) → g < n → mark_at (vector_to t g time h n) g ≡ own_marks t g time h
vector_own t g time h n less = vector_at t g time h n g less ∙ grind (arith, common_steps)

-- what a gateway publishes it may publish
pub publishes_may : (t : Setting) (h : History) (g clock : ℕ) (kind : Kind) → g < gates t.topology → publishes t.topology h g clock ≡ Some kind → Guard t h (Gate g) kind
publishes_may t h g clock kind known is =
    bind_some (timed (time_at clock (max (last g h + 1) (top_time (Gate g) (gates t.topology) h)))) _ kind is λ time at rest.
    let same : kinds.Published time (vector_to t.topology g time h (gates t.topology)) ≡ kind = cc in
    subst (λ k. Guard t h (Gate g) k) same (record {
      at = time_allowed clock _ time at;
      width = vector_length t.topology g time h (gates t.topology);
      others = λ k less other. vector_other t.topology g time h (gates t.topology) k less other;
      own = vector_own t.topology g time h (gates t.topology) known;
    })

-- ---- what gateways take

-- a session that is the gateway's own is in the roster
pub owned : (g : ℕ) (o : Option SessionPlan) → is_own g o ≡ true → (plan : SessionPlan) × (o ≡ Some plan) × (plan.gate ≡ g)
owned g None own = absurd cc
owned g (Some plan) own = (plan, refl, eqb-true plan.gate g own)

-- a gateway may reply to a command that is open
reply_may : (t : Setting) (h : History) (g : ℕ) (place : Place) (s c : ℕ) (reply : Reply) → Takes t.topology h place (Gate g) (letters.Result s c g reply)
    → is_open t h g s c ≡ true → MayReply t h place g s c reply
reply_may t h g place s c reply sent test =
    let parts = and_parts (is_own g (slice_get t.roster.sessions s)) ((begun s (events_of g h) == c) && (replied s (events_of g h) + 1 == c)) test in
    let tests = and_parts (begun s (events_of g h) == c) (replied s (events_of g h) + 1 == c) parts.1 in
    let plan = owned g (slice_get t.roster.sessions s) parts.0 in
    record {
      sent = sent;
      plan = plan.0;
      session = plan.1;
      own = plan.2;
      begun_is = sym (eqb-true (begun s (events_of g h)) c tests.0);
      next = sym (eqb-true (replied s (events_of g h) + 1) c tests.1);
    }

-- what a gateway takes it may take
pub gate_takes_may : (t : Setting) (h : History) (g : ℕ) (place : Place) (sent : Letter) (kind : Kind) → Takes t.topology h place (Gate g) sent → gate_takes t h g place sent ≡ Some kind → Guard t h (Gate g) kind
gate_takes_may t h g place (letters.Ack version c p) kind took is =
    let same : kinds.Acked place version c p ≡ kind = cc in subst (λ k. Guard t h (Gate g) k) same took
gate_takes_may t h g place (letters.Gossip sender vector) kind took is =
    let same : kinds.Heard place vector ≡ kind = cc in subst (λ k. Guard t h (Gate g) k) same (record { sender = sender; sent = took })
gate_takes_may t h g place (letters.Result s c gate reply) kind took is =
    let q = chosen (is_open t h g s c) (Some (kinds.Replied place s c reply)) kind is in
    let same : kinds.Replied place s c reply ≡ kind = cc in
    let own : g ≡ gate = eqb-true g gate took.addressed in
    subst (λ k. Guard t h (Gate g) k) same (reply_may t h g place s c reply (subst (λ n. Takes t.topology h place (Gate g) (letters.Result s c n reply)) (sym own) took) q.0)
gate_takes_may t h g place (letters.Told s c sender) kind took is =
    let same : kinds.Told place s c ≡ kind = cc in subst (λ k. Guard t h (Gate g) k) same (record { sender = sender; sent = took })
gate_takes_may t h g place (letters.Write version part items) kind took is = absurd cc
gate_takes_may t h g place (letters.Want session seq gate start) kind took is = absurd cc
gate_takes_may t h g place (letters.Ask settler round mode from below) kind took is = absurd cc
gate_takes_may t h g place (letters.Answer settler round c p items) kind took is = absurd cc

-- ---- what nodes take

-- what a node takes it may take
pub node_takes_may : (t : Setting) (h : History) (c p : ℕ) (place : Place) (sent : Letter) (kind : Kind) → Takes t.topology h place (Node c p) sent → node_takes h c p place sent ≡ Some kind → Guard t h (Node c p) kind
node_takes_may t h c p place (letters.Write version part items) kind took is =
    let same : kinds.Stored place version items ≡ kind = cc in
    let own : p ≡ part = eqb-true p part took.addressed in
    subst (λ k. Guard t h (Node c p) k) same (subst (λ n. Takes t.topology h place (Node c p) (letters.Write version n items)) (sym own) took)
node_takes_may t h c p place (letters.Ask settler round mode from below) kind took is =
    let same : kinds.Answered place settler round (answer c p from below h) ≡ kind = cc in
    subst (λ k. Guard t h (Node c p) k) same (record { mode = mode; from = from; below = below; sent = took; all = refl })
node_takes_may t h c p place (letters.Ack version centre part) kind took is = absurd cc
node_takes_may t h c p place (letters.Gossip sender vector) kind took is = absurd cc
node_takes_may t h c p place (letters.Result s seq gate reply) kind took is = absurd cc
node_takes_may t h c p place (letters.Told s seq sender) kind took is = absurd cc
node_takes_may t h c p place (letters.Want session seq gate start) kind took is = absurd cc
node_takes_may t h c p place (letters.Answer settler round centre part items) kind took is = absurd cc

-- ---- what settlers do

-- a settler may open the round that it asks for
pub asks_may : (t : Setting) (h : History) (s : ℕ) (mode : Mode) (kind : Kind) → asks t.topology h s mode ≡ Some kind → Guard t h (Settler s) kind
asks_may t h s mode kind is =
    let q = chosen (nat_lt (rounds s h + 1) (2 ^ 64) && nat_lt (settled s h) (upper t.topology s h mode)) (Some (kinds.Asked (rounds s h + 1) mode (settled s h) (upper t.topology s h mode))) kind is in
    let tests = and_parts (nat_lt (rounds s h + 1) (2 ^ 64)) (nat_lt (settled s h) (upper t.topology s h mode)) q.0 in
    let same : kinds.Asked (rounds s h + 1) mode (settled s h) (upper t.topology s h mode) ≡ kind = cc in
    subst (λ k. Guard t h (Settler s) k) same (record {
      next = refl;
      held = ltb-true (rounds s h + 1) (2 ^ 64) tests.0;
      from_is = refl;
      below_is = refl;
      some = ltb-true (settled s h) (upper t.topology s h mode) tests.1;
    })

-- what the test of answers enough tells
pub enough_is : (t : Shape) (s : ℕ) (round : Round) (h : History) (mode : Mode) (p : ℕ) → is_enough t s round h mode p ≡ true → IsEnough t s round p h mode
enough_is t s round h Quorum p enough = leb-true t.read (weight t (λ c. took s round.number c p h)) enough
enough_is t s round h One p enough = enough

-- a settler may settle what it settles
pub settles_may : (t : Setting) (h : History) (s : ℕ) (kind : Kind) → settles t.topology h s ≡ Some kind → Guard t h (Settler s) kind
settles_may t h s kind is =
    bind_some (open_round s h) _ kind is λ round current rest.
    let q = chosen (all_below (is_enough t.topology s round h round.mode) t.topology.partitions) (Some (kinds.Settled (plan_values s round h))) kind rest in
    let same : kinds.Settled (plan_values s round h) ≡ kind = cc in
    subst (λ k. Guard t h (Settler s) k) same (record {
      current = round;
      current_is = current;
      enough = λ p less. enough_is t.topology s round h round.mode p (all_below_at (is_enough t.topology s round h round.mode) t.topology.partitions q.0 p less);
      values_are = refl;
    })

-- the open round of a number
current_round : (o : Option Round) (round : ℕ) → is_current o round ≡ true → (current : Round) × (o ≡ Some current) × (round ≡ current.number)
current_round None round is = absurd cc
current_round (Some current) round is = (current, refl, sym (eqb-true current.number round is))

-- a reply that the settler can compute shows its values
reply_shows : (h : History) (s : ℕ) (start : Start) (reply : Reply) → reply_to h s start ≡ Some reply → Shows (known_below s h) (settled s h) start reply
reply_shows h s (Draw version transaction) reply is =
    let q = chosen (nat_lt version (settled s h)) (Some (reply_of (known_below s h version) version transaction)) reply is in
    let same : reply_of (known_below s h version) version transaction ≡ reply = cc in
    (ltb-true version (settled s h) q.0, sym same)
reply_shows h s (Look least keys) reply is =
    let q = chosen (nat_le least (settled s h)) (Some (Snap (settled s h) (shown (known_below s h (settled s h)) keys))) reply is in
    let same : Snap (settled s h) (shown (known_below s h (settled s h)) keys) ≡ reply = cc in
    (leb-true least (settled s h) q.0, sym same)

-- what a settler takes it may take
pub settler_takes_may : (t : Setting) (h : History) (s : ℕ) (place : Place) (sent : Letter) (kind : Kind) → Takes t.topology h place (Settler s) sent → settler_takes h s place sent ≡ Some kind → Guard t h (Settler s) kind
settler_takes_may t h s place (letters.Gossip sender vector) kind took is =
    let same : kinds.Heard place vector ≡ kind = cc in subst (λ k. Guard t h (Settler s) k) same (record { sender = sender; sent = took })
settler_takes_may t h s place (letters.Answer settler round c p items) kind took is =
    let q = chosen (is_current (open_round s h) round) (Some (kinds.Taken place round c p items)) kind is in
    let same : kinds.Taken place round c p items ≡ kind = cc in
    let own : s ≡ settler = eqb-true s settler took.addressed in
    let round_is = current_round (open_round s h) round q.0 in
    subst (λ k. Guard t h (Settler s) k) same (record {
      sent = subst (λ n. Takes t.topology h place (Settler s) (letters.Answer n round c p items)) (sym own) took;
      current = round_is.0;
      current_is = round_is.1;
      same = round_is.2;
    })
settler_takes_may t h s place (letters.Want session seq gate start) kind took is =
    bind_some (reply_to h s start) _ kind is λ reply reply_is rest.
    let same : kinds.Resulted place session seq gate reply ≡ kind = cc in
    subst (λ k. Guard t h (Settler s) k) same (record { start = start; sent = took; shows = reply_shows h s start reply reply_is })
settler_takes_may t h s place (letters.Write version part items) kind took is = absurd cc
settler_takes_may t h s place (letters.Ask settler round mode from below) kind took is = absurd cc
settler_takes_may t h s place (letters.Ack version centre part) kind took is = absurd cc
settler_takes_may t h s place (letters.Result session seq gate reply) kind took is = absurd cc
settler_takes_may t h s place (letters.Told session seq sender) kind took is = absurd cc

-- ---- all actors

-- what an actor takes it may take
takes_as_may : (t : Setting) (h : History) (actor : Actor) (place : Place) (sent : Letter) (kind : Kind) → Takes t.topology h place actor sent → takes_as t h actor place sent ≡ Some kind → Guard t h actor kind
takes_as_may t h (Gate g) place sent kind took is = gate_takes_may t h g place sent kind took is
takes_as_may t h (Node c p) place sent kind took is = node_takes_may t h c p place sent kind took is
takes_as_may t h (Settler s) place sent kind took is = settler_takes_may t h s place sent kind took is

-- what an actor takes at a place it may take
takes_may : (t : Setting) (h : History) (actor : Actor) (place : Place) (kind : Kind) → takes t h actor place ≡ Some kind → Guard t h actor kind
takes_may t h actor place kind is =
    bind_some (letter t.topology h place) _ kind is λ sent there rest.
    let q = chosen (is_for t.topology sent actor) (takes_as t h actor place sent) kind rest in
    takes_as_may t h actor place sent kind (record { there = there; addressed = q.0 }) q.1

-- a gateway of the topology is one of its gateways
pub gate_known : (t : Shape) (g : ℕ) → is_in t (Gate g) ≡ true → g < gates t
gate_known t g known = grind (arith, common_steps)

-- a settler of the topology is below the number of centres
pub settler_known : (t : Shape) (s : ℕ) → is_in t (Settler s) ≡ true → s < t.centres
settler_known t s known = grind (arith, common_steps)

-- a node of the topology has its centre and its partition there
pub node_known : (t : Shape) (c p : ℕ) → is_in t (Node c p) ≡ true → (c < t.centres) × (p < t.partitions)
node_known t c p known = (grind (arith, common_steps), grind (arith, common_steps))

-- what an actor does it may do
acts_may : (t : Setting) (h : History) (actor : Actor) (act : Act) (kind : Kind) → IsShape t.topology → is_in t.topology actor ≡ true → acts t h actor act ≡ Some kind → Guard t h actor kind
acts_may t h actor (given.Take place) kind shape known is = takes_may t h actor place kind is
acts_may t h (Gate g) given.Stop kind shape known is = let same : kinds.Stopped ≡ kind = cc in subst (λ k. Guard t h (Gate g) k) same tt
acts_may t h (Gate g) (given.Begin s clock) kind shape known is =
    let small = gate_known t.topology g known in begins_may t h g s clock kind (omega (arith, small, shape.few_gateways)) is
acts_may t h (Gate g) (given.Publish clock) kind shape known is = publishes_may t h g clock kind (gate_known t.topology g known) is
acts_may t h (Gate g) (given.Ask mode) kind shape known is = absurd cc
acts_may t h (Gate g) given.Settle kind shape known is = absurd cc
acts_may t h (Node c p) given.Stop kind shape known is = let same : kinds.Stopped ≡ kind = cc in subst (λ k. Guard t h (Node c p) k) same tt
acts_may t h (Node c p) (given.Begin s clock) kind shape known is = absurd cc
acts_may t h (Node c p) (given.Publish clock) kind shape known is = absurd cc
acts_may t h (Node c p) (given.Ask mode) kind shape known is = absurd cc
acts_may t h (Node c p) given.Settle kind shape known is = absurd cc
acts_may t h (Settler s) given.Stop kind shape known is = let same : kinds.Stopped ≡ kind = cc in subst (λ k. Guard t h (Settler s) k) same tt
acts_may t h (Settler s) (given.Begin session clock) kind shape known is = absurd cc
acts_may t h (Settler s) (given.Publish clock) kind shape known is = absurd cc
acts_may t h (Settler s) (given.Ask mode) kind shape known is = asks_may t h s mode kind is
acts_may t h (Settler s) given.Settle kind shape known is = settles_may t h s kind is

-- an entry that is made of a kind
made_of : (actor : Actor) (o : Option Kind) (e : Entry) → option_map (λ (kind : Kind). record { actor = actor; kind = kind }) o ≡ Some e → (kind : Kind) × (o ≡ Some kind) × (e ≡ record { actor = actor; kind = kind })
made_of actor None e is = absurd cc
made_of actor (Some kind) e is = (kind, refl, cc)

-- what an actor gives may follow, and it is the actor's own
pub given_follows : (t : Setting) (h : History) (actor : Actor) (act : Act) (e : Entry) → IsShape t.topology → gives t h actor act ≡ Some e → MayBy t h actor e
given_follows t h actor act e shape is =
    let q = chosen (is_in t.topology actor && not (stopped actor h)) (option_map (λ kind. record { actor = actor; kind = kind }) (acts t h actor act)) e is in
    let tests = and_parts (is_in t.topology actor) (not (stopped actor h)) q.0 in
    let made = made_of actor (acts t h actor act) e q.1 in
    rw made.2 (record { known = tests.0; running = not-true (stopped actor h) tests.1; guard = acts_may t h actor act made.0 shape tests.0 made.1 }, refl)
