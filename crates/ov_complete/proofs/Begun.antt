-- The first two passes of a calm round begin the command that comes first of those that are not replied: what it waits for is told to its
-- gateway, and then it begins, unless it has begun already.
use Rattle.std.proofs.Common.{◌≡◌, ℕ, zero, suc, ◌+◌, ◌^◌, ◌≤◌, ◌<◌, ◌==◌, Bool, true, false, not, ◌&&◌, Some, List, [], ◌∷◌, ◌++◌, length, length-append, refl, sym, ap, subst, ◌∙◌, arith, inl, inr, ◌⊎◌}
use Rattle.std.specs.Prelude.{slice_get, if◌then◌else◌}
use Rattle.std.proofs.lemmas.Bool.{cases_Bool, eqb-true, eq-eqb, lt-ltb, and_parts}
use Rattle.std.proofs.lemmas.Bool.Decides.{eqb_tells}
use Rattle.std.proofs.lemmas.Grind.{common_steps}
use Rattle.std.proofs.lemmas.Option.{slice_get_within}
use Rattle.ov_base.specs.Version.{number}
use Rattle.ov_functor.specs.Windows.{Among}
use Rattle.ov_functor.specs.declared.command.Command.{Command}
use Rattle.ov_functor.specs.declared.command.Command.TheVariants as commands
use Rattle.ov_functor.specs.declared.reply.Reply.{Reply}
use Rattle.ov_topology.specs.Shape.{gates}
use Rattle.ov_topology.specs.declared.actor.Actor.{Actor}
use Rattle.ov_topology.specs.declared.actor.Actor.TheVariants.{Gate, Node, Settler}
use Rattle.ov_topology.specs.declared.place.Place.{Place}
use Rattle.ov_session.specs.Events.{Event, greatest, of_session, known_in, begun_in, replied_in, begun, replied, known, floor}
use Rattle.ov_session.specs.Events as events
use Rattle.ov_session.specs.Standing.{MayBegin}
use Rattle.ov_session.specs.declared.after.After.{After}
use Rattle.ov_session.specs.declared.planned.Planned.{Planned}
use Rattle.ov_session.specs.declared.plan.SessionPlan.{SessionPlan}
use Rattle.ov_script.specs.declared.order.CommandAt.{CommandAt}
use Rattle.ov_event.specs.Letters.{is_gate}
use Rattle.ov_event.specs.declared.entry.Entry.{Entry}
use Rattle.ov_event.specs.declared.kind.Kind.{Kind}
use Rattle.ov_event.specs.declared.kind.Kind.TheVariants as kinds
use Rattle.ov_event.specs.declared.start.Start.{Start}
use Rattle.ov_event.specs.declared.start.Start.TheVariants.{Draw, Look}
use Rattle.ov_history.specs.Past.{History, at, tally, stops, stopped}
use Rattle.ov_history.specs.Draws.{last}
use Rattle.ov_history.specs.Sessions.{events_in, events_by, events_of}
use Rattle.ov_history.specs.May.{Setting, May, MayStart, MayReply, Guard, GateGuard}
use Rattle.ov_history.specs.Gives.{Begin, gives, start_of, time_at}
use Rattle.ov_history.proofs.Giving.{may_ready}
use Rattle.ov_history.proofs.Past.{at_older}
use Rattle.ov_history.proofs.Sessions.{of_itself}
use Rattle.ov_laws.proofs.History.Gathered.{greatest_grows}
use Rattle.ov_laws.proofs.Times.Bounds.{last_bounded}
use Rattle.ov_laws.specs.Draws.{moves_clock}
use Rattle.ov_laws.specs.Entries.{RepliedAt, began_by, replied_by}
use Rattle.ov_laws.specs.Runs.{IsRun}
use Rattle.ov_follow.specs.Lines.{Line, begin_of, begin_line, followed, followed_all}
use Rattle.ov_follow.specs.Passes.{each, running, take, can, told, tells, told_lines, tolds, begins, is_replied}
use Rattle.ov_follow.specs.Calm.{passed}
use Rattle.ov_complete.specs.Facts.{Runs, HasBegun}
use Rattle.ov_complete.specs.Order.{command_at, Comes, IsOrder, AllAnswered}
use Rattle.ov_complete.specs.Stable.{Stable, GiveOnly, is_beginning}
use Rattle.ov_complete.proofs.Finding.{some_found, all_among, among_split, give_parts}
use Rattle.ov_follow.proofs.Following.{followed_behind}
use Rattle.ov_complete.proofs.General.{tally_lines, stable_runs, taking_stops, taking_moves}
use Rattle.ov_complete.proofs.Gives.{give_tolds, give_begins, begins_command}
use Rattle.ov_complete.proofs.Keeping.{run_next, run_all, keeps_line, keeps, makes}
use Rattle.ov_complete.proofs.Listed.{takes_letter, in_gather, in_each, in_running, in_can}
use Rattle.ov_follow.proofs.Replies.{of_another}
use Rattle.ov_laws.proofs.Sessions.Order.{event_under}
use Rattle.ov_complete.proofs.Sessions.{begun_older, begun_newest, stands, found_reply, replied_there}
use Rattle.ov_complete.proofs.Few.{begins_few}

-- ---- what stays

-- a command that has begun has begun, whatever follows
begun_stays : (t : Setting) (test : Entry → Bool) (s c : ℕ) → Stable t test (λ h. HasBegun h s c)
begun_stays t test s c = record { keep = λ h e run may passes has. begun_older h e s c has }

-- what a gateway knows as replied does not fall
known_grows : (g s : ℕ) (h : History) (e : Entry) → known s (events_of g h) ≤ known s (events_of g (e ∷ h))
known_grows g s h e = greatest_grows (known_in s) (events_by g e) (events_of g h)

-- what is known as replied stays known, whatever follows
known_stays : (t : Setting) (test : Entry → Bool) (g s c : ℕ) → Stable t test (λ h. c ≤ known s (events_of g h))
known_stays t test g s c = record { keep = λ h e run may passes is. let more = known_grows g s h e in omega (arith, is, more) }

-- ---- what is told

-- the entry that the gateway makes of a reply that is told to it
abbrev told_by : ℕ → ℕ → ℕ → ℕ → Entry
told_by g k s c = record { actor = Gate g; kind = kinds.Told (record { entry = k; letter = 1 }) s c }

-- a gateway knows a command that it replied to
known_replied : (h : History) (k g s c : ℕ) (place : Place) (reply : Reply) → at h k ≡ Some (replied_by g s c place reply) → c ≤ known s (events_of g h)
known_replied h k g s c place reply there =
    let under : known_in s (events.Replied s c reply) ≤ known s (events_of g h) = event_under (known_in s) g h k (kinds.Replied place s c reply) (events.Replied s c reply) there refl in
    let own : of_session s s c ≡ c = of_itself s c in
    omega (arith, under, own)

-- a gateway knows a command of which it was told
known_told : (g s c : ℕ) (h : History) → told g s c h ≡ true → c ≤ known s (events_of g h)
known_told g s c h is =
    let found = some_found (λ e. if is_gate g e.actor then tells s c e.kind else false) h is in
    by found.number found.entry.actor found.entry.kind found.there found.passes
  where
    there : (k : ℕ) (a : ℕ) (place : Place) (session seq : ℕ) → a ≡ g → session ≡ s → seq ≡ c → at h k ≡ Some (record { actor = Gate a; kind = kinds.Told place session seq }) → c ≤ known s (events_of g h)
    there k a place session seq mine its same here =
        let stands : at h k ≡ Some (record { actor = Gate g; kind = kinds.Told place s c }) = here ∙ rw (mine, its, same) refl in
        let under : known_in s (events.Told s c) ≤ known s (events_of g h) = event_under (known_in s) g h k (kinds.Told place s c) (events.Told s c) stands refl in
        let own : of_session s s c ≡ c = of_itself s c in
        omega (arith, under, own)

    mine : (k a : ℕ) (kind : Kind) (b : Bool) → (a == g) ≡ b → at h k ≡ Some (record { actor = Gate a; kind = kind }) → (if b then tells s c kind else false) ≡ true → c ≤ known s (events_of g h)
    mine k a (kinds.Told place session seq) true own here passes =
        let tests = and_parts (session == s) (seq == c) passes in
        there k a place session seq (eqb-true a g own) (eqb-true session s tests.0) (eqb-true seq c tests.1) here
    mine k a kind b own here passes = absurd (grind (arith, common_steps))

    by : (k : ℕ) (a : Actor) (kind : Kind) → at h k ≡ Some (record { actor = a; kind = kind }) → (if is_gate g a then tells s c kind else false) ≡ true → c ≤ known s (events_of g h)
    by k (Gate a) kind here passes = mine k a kind (a == g) refl here passes
    by k a kind here passes = absurd cc

-- what a gateway gives where it takes that a command is replied elsewhere
gives_told : (t : Setting) (h : History) (g f k s c : ℕ) (place : Place) (reply : Reply) → at h k ≡ Some (replied_by f s c place reply) → (g == f) ≡ false → g < gates t.topology
    → stopped (Gate g) h ≡ false → gives t h (Gate g) (take (Gate g) k 1).act ≡ Some (told_by g k s c)
gives_told t h g f k s c place reply there apart inside runs = rw (lt-ltb g (gates t.topology) inside, runs, there, apart) refl

-- nor does one that begins a command
begin_goes_on : (e : Entry) → begins_command e ≡ true → stops e.kind ≡ false
begin_goes_on e passes = by e.kind passes
  where
    by : (kind : Kind) → is_beginning kind ≡ true → stops kind ≡ false
    by kinds.Stopped passes = absurd cc
    by kind passes = refl

-- entries that take letters leave the number of those that move clocks
tally_stays : (t : Setting) (n : ℕ) → Stable t takes_letter (λ h. tally moves_clock h < n)
tally_stays t n = record { keep = λ h e run may passes less. rw (taking_moves e passes) (omega (arith, less)) }

-- The entry stands at the number, and the gateway runs.
record IsHeard (h : History) (k : ℕ) (e : Entry) (g : ℕ) : Type 0 where
  there : at h k ≡ Some e
  runs : stopped (Gate g) h ≡ false

-- it stays so after entries that take letters
heard_stays : (t : Setting) (k : ℕ) (e : Entry) (g : ℕ) → Stable t takes_letter (λ h. IsHeard h k e g)
heard_stays t k e g = record {
  keep = λ h new run may passes is. record {
    there = at_older h k e new is.there;
    runs = (stable_runs t takes_letter (Gate g) taking_stops).keep h new run may passes is.runs;
  };
}

-- the line by which a gateway is told of another's reply is listed in pass 1
listed : (t : Setting) (h : History) (g f k s c : ℕ) (place : Place) (reply : Reply) → at h k ≡ Some (replied_by f s c place reply) → (g == f) ≡ false → told g s c h ≡ false → g < gates t.topology
    → stopped (Gate g) h ≡ false → Among (take (Gate g) k 1) (tolds t h)
listed t h g f k s c place reply there apart not_yet inside runs =
    in_gather (λ number e. told_lines t h number e.actor e.kind) h k (replied_by f s c place reply) (take (Gate g) k 1) there
    (in_each (λ other. if not (other == f) && not (told other s c h) then running h (take (Gate other) k 1) else []) (gates t.topology) g (take (Gate g) k 1) inside
    (rw (apart, not_yet) (in_running h (take (Gate g) k 1) runs)))

-- after that line the gateway knows the command
told_known : (t : Setting) (h : History) (g f k s c : ℕ) (place : Place) (reply : Reply) → (g == f) ≡ false → g < gates t.topology → IsHeard h k (replied_by f s c place reply) g
    → c ≤ known s (events_of g (followed t h (take (Gate g) k 1)))
told_known t h g f k s c place reply apart inside heard =
    let gives_it : gives t h (Gate g) (take (Gate g) k 1).act ≡ Some (told_by g k s c) = gives_told t h g f k s c place reply heard.there apart inside heard.runs in
    rw (gives_it, eq-eqb g g refl, eq-eqb s s refl) (omega arith)

-- after pass 1 each gateway knows each command that was replied before it
known_after : (t : Setting) (h : History) (g s c : ℕ) → Runs t h → g < gates t.topology → is_replied s c h ≡ true → c ≤ known s (events_of g (followed_all t h (tolds t h)))
known_after t h g s c runs inside is = let found = found_reply t h s c runs.run.1 is in by found.0 found.1
  where
    stays : c ≤ known s (events_of g h) → c ≤ known s (events_of g (followed_all t h (tolds t h)))
    stays old = keeps (known_stays t takes_letter g s c) h (tolds t h) runs.run (give_tolds t h) old

    by : (k : ℕ) → RepliedAt h k s c → c ≤ known s (events_of g (followed_all t h (tolds t h)))
    by k reply =
        elim (cases_Bool (g == reply.gate)) [
          | inl same ↦
              let its : reply.gate ≡ g = sym (eqb-true g reply.gate same) in
              stays (known_replied h k g s c reply.place reply.reply (reply.there ∙ ap (λ n. Some (replied_by n s c reply.place reply.reply)) its))
          | inr apart ↦ elim (cases_Bool (told g s c h)) [
            | inl was ↦ stays (known_told g s c h was)
            | inr not_yet ↦
                makes (heard_stays t k (replied_by reply.gate s c reply.place reply.reply) g) (known_stays t takes_letter g s c) h (tolds t h) (take (Gate g) k 1) runs.run (give_tolds t h)
                (listed t h g reply.gate k s c reply.place reply.reply reply.there apart not_yet inside (runs.whole.gateways g inside))
                (λ x run heard. told_known t x g reply.gate k s c reply.place reply.reply apart inside heard)
                (record { there = reply.there; runs = runs.whole.gateways g inside })
          ]
        ]

-- ---- a command that is next

-- These events of its gateway leave the session with this many commands that are begun, and all of them are replied.
record IsIdle (events : List Event) (s k : ℕ) : Type 0 where
  begun_is : begun s events ≡ k
  replied_is : replied s events ≡ k

-- the command after so many of a session has begun, or may be the next
abbrev IsNext : List Event → History → ℕ → ℕ → Type 0
IsNext events h s k = HasBegun h s (k + 1) ⊎ IsIdle events s k

-- an event that tells nothing of the session leaves it idle
other_idle : (past : List Event) (event : Event) (s k : ℕ) → replied_in s event ≡ 0 → begun_in s event ≡ 0 → IsIdle past s k → IsIdle (event ∷ past) s k
other_idle past event s k no_reply no_begin idle = record { begun_is = omega (arith, no_begin, idle.begun_is); replied_is = omega (arith, no_reply, idle.replied_is) }

-- One more entry after which an idle session is idle, or its next command has begun.
module _ (t : Setting) (h : History) (s k : ℕ) (plan : SessionPlan) (idle : IsIdle (events_of plan.gate h) s k) where
  -- after an entry of a gateway that begins a command
  next_began : (g other c : ℕ) (start : Start) → MayStart t h g other c start → (own mine : Bool) → (g == plan.gate) ≡ own → (other == s) ≡ mine
      → IsNext ((if own then events.Begun other c ∷ [] else []) ++ events_of plan.gate h) (began_by g other c start ∷ h) s k
  next_began g other c start may false mine is same = inr idle
  next_began g other c start may true false is same = inr (other_idle (events_of plan.gate h) (events.Begun other c) s k refl (of_another s other c same) idle)
  next_began g other c start may true true is same =
      let gate : g ≡ plan.gate = eqb-true g plan.gate is in
      let its : other ≡ s = eqb-true other s same in
      let next : c ≡ begun s (events_of plan.gate h) + 1 = rw (sym gate, sym its) may.ready.next in
      let one : c ≡ k + 1 = omega (arith, next, idle.begun_is) in
      inl (rw (its, one) (begun_newest h g s (k + 1) start))

  -- after an entry of a gateway that replies
  next_replied : (g other c : ℕ) (place : Place) (reply : Reply) → MayReply t h place g other c reply → (own mine : Bool) → (g == plan.gate) ≡ own → (other == s) ≡ mine
      → IsNext ((if own then events.Replied other c reply ∷ [] else []) ++ events_of plan.gate h) (replied_by g other c place reply ∷ h) s k
  next_replied g other c place reply may false mine is same = inr idle
  next_replied g other c place reply may true false is same = inr (other_idle (events_of plan.gate h) (events.Replied other c reply) s k (of_another s other c same) refl idle)
  next_replied g other c place reply may true true is same =
      let gate : g ≡ plan.gate = eqb-true g plan.gate is in
      let its : other ≡ s = eqb-true other s same in
      let was : c ≡ begun s (events_of plan.gate h) = rw (sym gate, sym its) may.begun_is in
      let next : c ≡ replied s (events_of plan.gate h) + 1 = rw (sym gate, sym its) may.next in
      absurd (omega (arith, was, next, idle.begun_is, idle.replied_is))

  -- after an entry of a gateway
  next_gate : (g : ℕ) (kind : Kind) → GateGuard t h g kind → IsNext ((if g == plan.gate then events_in kind else []) ++ events_of plan.gate h) (record { actor = Gate g; kind = kind } ∷ h) s k
  next_gate g (kinds.Began other c start) may = next_began g other c start may (g == plan.gate) (other == s) refl refl
  next_gate g (kinds.Replied place other c reply) may = next_replied g other c place reply may (g == plan.gate) (other == s) refl refl
  next_gate g (kinds.Told place other c) may = inr (by (g == plan.gate))
    where
      by : (own : Bool) → IsIdle ((if own then events.Told other c ∷ [] else []) ++ events_of plan.gate h) s k
      by false = idle
      by true = other_idle (events_of plan.gate h) (events.Told other c) s k refl refl idle
  next_gate g kind may = inr (by (g == plan.gate))
    where
      by : (own : Bool) → IsIdle ((if own then [] else []) ++ events_of plan.gate h) s k
      by false = idle
      by true = idle

  -- after an entry
  next_entry : (a : Actor) (kind : Kind) → Guard t h a kind → IsNext (events_of plan.gate (record { actor = a; kind = kind } ∷ h)) (record { actor = a; kind = kind } ∷ h) s k
  next_entry (Gate g) kind may = next_gate g kind may
  next_entry (Node c p) kind may = inr idle
  next_entry (Settler c) kind may = inr idle

-- the next command of a session has begun or may be the next, whatever follows
next_stays : (t : Setting) (test : Entry → Bool) (s k : ℕ) (plan : SessionPlan) → Stable t test (λ h. IsNext (events_of plan.gate h) h s k)
next_stays t test s k plan = record { keep = λ h e run may passes next. by h e may next }
  where
    by : (h : History) (e : Entry) → May t h e → IsNext (events_of plan.gate h) h s k → IsNext (events_of plan.gate (e ∷ h)) (e ∷ h) s k
    by h e may (inl has) = inl (begun_older h e s (k + 1) has)
    by h e may (inr idle) = next_entry t h s k plan idle e.actor e.kind may.guard

-- ---- how many lines

-- what stands before an element is no longer than the list
front_few : {X : Type 0} (front back : List X) (x : X) (xs : List X) → xs ≡ front ++ x ∷ back → length front ≤ length xs
front_few front back x xs split = let sum = length-append front (x ∷ back) in rw split (omega (arith, sum))

-- ---- what lets it begin

-- what a command waits for is known to the gateway
abbrev AllKnown : List After → ℕ → History → Type 0
AllKnown waited g h = (after : After) → Among after waited → after.seq ≤ known after.session (events_of g h)

-- a command has a start, where a time is left
has_start : (h : History) (g s : ℕ) (command : Command) → last g h + 1 < 2 ^ 47 → (start : Start) × (start_of h g s 0 command ≡ Some start)
has_start h g s (commands.Transact parts) less =
    let same : time_at 0 (last g h + 1) ≡ last g h + 1 = omega arith in
    (Draw (number (last g h + 1) g) parts, rw (same, lt-ltb (last g h + 1) (2 ^ 47) less) refl)
has_start h g s (commands.Snap keys) less = (Look (floor s (events_of g h)) keys, refl)

-- Command k + 1 of a session, at place k of its plan.
module _ (t : Setting) (s k : ℕ) (plan : SessionPlan) (planned : Planned) (session : slice_get t.roster.sessions s ≡ Some plan) (there : slice_get plan.planned k ≡ Some planned)
    (inside : plan.gate < gates t.topology) where
  -- the gateway of an idle session begins it
  gives_begin : (h : History) → stopped (Gate plan.gate) h ≡ false → IsIdle (events_of plan.gate h) s k → AllKnown planned.after plan.gate h → last plan.gate h + 1 < 2 ^ 47
      → (start : Start) × (gives t h (Gate plan.gate) (Begin s 0) ≡ Some (began_by plan.gate s (k + 1) start))
  gives_begin h runs idle all less =
      let start = has_start h plan.gate s planned.command less in
      let may : MayBegin t.roster plan.gate (events_of plan.gate h) s (k + 1) = record {
        plan = plan;
        session = session;
        own = refl;
        idle = idle.begun_is ∙ sym idle.replied_is;
        next = ap (λ n. n + 1) (sym idle.begun_is);
        planned = planned;
        further = rw idle.begun_is there;
        waited = all_among (λ after. after.seq ≤ known after.session (events_of plan.gate h)) planned.after all;
      } in
      (start.0, rw (lt-ltb plan.gate (gates t.topology) inside, runs, may_ready t h plan.gate s (k + 1) may, start.1, idle.begun_is) refl)

  -- after the session's line its command has begun
  begun_followed : (h : History) → IsRun t h → stopped (Gate plan.gate) h ≡ false → IsNext (events_of plan.gate h) h s k → AllKnown planned.after plan.gate h → last plan.gate h + 1 < 2 ^ 47
      → HasBegun (followed t h (begin_line s 0 plan)) s (k + 1)
  begun_followed h run runs (inl has) all less =
      keeps_line (begun_stays t (λ e. true) s (k + 1)) h (begin_line s 0 plan) run (λ x e is. refl) has
  begun_followed h run runs (inr idle) all less =
      let begin = gives_begin h runs idle all less in
      rw begin.1 (begun_newest h plan.gate s (k + 1) begin.0)

  -- after lines that begin commands, with the session's line among them, and which are few, its command has begun
  begun_among : (h : History) (front back : List Line) → GiveOnly t begins_command (front ++ begin_line s 0 plan ∷ back) → length front ≤ 64 → IsRun t h → tally moves_clock h < 2 ^ 45
      → stopped (Gate plan.gate) h ≡ false → IsNext (events_of plan.gate h) h s k → AllKnown planned.after plan.gate h → HasBegun (followed_all t h (front ++ begin_line s 0 plan ∷ back)) s (k + 1)
  begun_among h front back gives_all few run early runs next all =
      let parts = give_parts t begins_command front (begin_line s 0 plan ∷ back) gives_all in
      let run_here : IsRun t (followed_all t h front) = run_all t h front run in
      let counted : tally moves_clock (followed_all t h front) ≤ tally moves_clock h + length front = tally_lines moves_clock t h front in
      let clock : last plan.gate (followed_all t h front) ≤ 2 ^ 46 + tally moves_clock (followed_all t h front) = last_bounded t (followed_all t h front) plan.gate run_here.0 run_here.1 in
      let has : HasBegun (followed t (followed_all t h front) (begin_line s 0 plan)) s (k + 1) =
      begun_followed (followed_all t h front) run_here (keeps (stable_runs t begins_command (Gate plan.gate) begin_goes_on) h front run parts.0 runs)
      (keeps (next_stays t begins_command s k plan) h front run parts.0 next)
      (λ after among. keeps (known_stays t begins_command plan.gate after.session after.seq) h front run parts.0 (all after among))
      (omega (arith, few, early, counted, clock)) in
      let rest : HasBegun (followed_all t (followed_all t h front) (begin_line s 0 plan ∷ back)) s (k + 1) =
      keeps (begun_stays t begins_command s (k + 1)) (followed t (followed_all t h front) (begin_line s 0 plan)) back (run_next t (followed_all t h front) (begin_line s 0 plan) run_here) parts.1.1 has in
      subst (λ (x : History). HasBegun x s (k + 1)) (sym (followed_behind t h front (begin_line s 0 plan ∷ back))) rest

  -- after few lines that begin commands, with the session's line among them, its command has begun
  begun_lines : (h : History) (lines : List Line) → GiveOnly t begins_command lines → length lines ≤ 64 → Among (begin_line s 0 plan) lines → IsRun t h → tally moves_clock h < 2 ^ 45
      → stopped (Gate plan.gate) h ≡ false → IsNext (events_of plan.gate h) h s k → AllKnown planned.after plan.gate h → HasBegun (followed_all t h lines) s (k + 1)
  begun_lines h lines gives_all few among run early runs next all =
      let parts = among_split (begin_line s 0 plan) lines among in
      let fewer : length parts.front ≤ length lines = front_few parts.front parts.back (begin_line s 0 plan) lines parts.split in
      subst (λ (all : List Line). HasBegun (followed_all t h all) s (k + 1)) (sym parts.split)
      (begun_among h parts.front parts.back (subst (λ (all : List Line). GiveOnly t begins_command all) parts.split gives_all) (omega (arith, few, fewer)) run early runs next all)

  -- the line of an idle session is listed in pass 2
  begin_listed : (h : History) → IsRun t h → tally moves_clock h < 2 ^ 45 → stopped (Gate plan.gate) h ≡ false → IsIdle (events_of plan.gate h) s k → AllKnown planned.after plan.gate h
      → Among (begin_line s 0 plan) (begins t h)
  begin_listed h run early runs idle all =
      let within : s < length t.roster.sessions = slice_get_within t.roster.sessions s plan session in
      let clock : last plan.gate h ≤ 2 ^ 46 + tally moves_clock h = last_bounded t h plan.gate run.0 run.1 in
      let begin = gives_begin h runs idle all (omega (arith, clock, early)) in
      in_each (λ n. can t h (begin_of t.roster 0 n)) (length t.roster.sessions) s (begin_line s 0 plan) within
      (rw session (in_can t h (begin_line s 0 plan) (began_by plan.gate s (k + 1) begin.0) begin.1))

  -- after pass 2 its command has begun
  begun_after : (h : History) → IsRun t h → length t.roster.sessions ≤ 64 → tally moves_clock h < 2 ^ 45 → stopped (Gate plan.gate) h ≡ false → IsNext (events_of plan.gate h) h s k
      → AllKnown planned.after plan.gate h → HasBegun (followed_all t h (begins t h)) s (k + 1)
  begun_after h run few early runs (inl has) all = keeps (begun_stays t begins_command s (k + 1)) h (begins t h) run (give_begins t h) has
  begun_after h run few early runs (inr idle) all =
      let lines : length (begins t h) ≤ length t.roster.sessions = begins_few t h in
      begun_lines h (begins t h) (give_begins t h) (omega (arith, few, lines)) (begin_listed h run early runs idle all) run early runs (inr idle) all

-- ---- the command that comes first

-- all that its session has before it is replied, and nothing after it
all_replied : (t : Setting) (h : History) (s k : ℕ) (plan : SessionPlan) → slice_get t.roster.sessions s ≡ Some plan → Runs t h → ((c : ℕ) → c < k → is_replied s (c + 1) h ≡ true)
    → is_replied s (k + 1) h ≡ false → replied s (events_of plan.gate h) ≡ k
all_replied t h s k plan session runs earlier not_yet =
    let low : k ≤ replied s (events_of plan.gate h) = least k earlier in
    elim (eqb_tells k (replied s (events_of plan.gate h))) [
      | inl same ↦ sym same.1
      | inr other ↦
          let more : is_replied s (k + 1) h ≡ true = (stands t h s plan session runs.run.1).replies k (omega (arith, low, other.1)) in
          absurd cc
    ]
  where
    least : (n : ℕ) → ((c : ℕ) → c < n → is_replied s (c + 1) h ≡ true) → n ≤ replied s (events_of plan.gate h)
    least zero each = omega arith
    least (suc n) each =
        let last : n + 1 ≤ replied s (events_of plan.gate h) = replied_there t h s (n + 1) plan session runs.run.1 (each n (omega arith)) in
        omega (arith, last)

-- how the command stands before the two passes
next_before : (t : Setting) (h : History) (before : List CommandAt) (one : CommandAt) → Runs t h → (comes : Comes t.roster before one) → AllAnswered h before → is_replied one.session one.seq h ≡ false
    → IsNext (events_of comes.plan.gate h) h one.session comes.place
next_before t h before one runs comes answered not_yet =
    let there = stands t h one.session comes.plan comes.session runs.run.1 in
    let unreplied : is_replied one.session (comes.place + 1) h ≡ false = rw comes.number at not_yet in
    let replied_is : replied one.session (events_of comes.plan.gate h) ≡ comes.place =
    all_replied t h one.session comes.place comes.plan comes.session runs (λ c less. answered (command_at one.session (c + 1)) (comes.earlier c less)) unreplied in
    elim (eqb_tells (begun one.session (events_of comes.plan.gate h)) comes.place) [
      | inl same ↦ inr (record { begun_is = same.1; replied_is = replied_is })
      | inr other ↦ inl (there.begins comes.place (omega (arith, there.least, replied_is, other.1)))
    ]

-- The command that comes first of those that are not replied has begun after pass 2.
pub begins_then : (t : Setting) (h : History) (order before rest : List CommandAt) (one : CommandAt) → Runs t h → IsOrder t.roster order → order ≡ before ++ one ∷ rest → AllAnswered h before
    → is_replied one.session one.seq h ≡ false → HasBegun (passed t h (tolds ∷ begins ∷ [])) one.session one.seq
begins_then t h order before rest one runs is_order split answered not_yet =
    let comes = is_order.comes before rest one split in
    let inside : comes.plan.gate < gates t.topology = runs.own one.session comes.plan comes.session in
    let next = next_before t h before one runs comes answered not_yet in
    rw comes.number
    (begun_after t one.session comes.place comes.plan comes.planned comes.session comes.there inside (followed_all t h (tolds t h)) (run_all t h (tolds t h) runs.run) runs.roster.few
    (keeps (tally_stays t (2 ^ 45)) h (tolds t h) runs.run (give_tolds t h) runs.early)
    (keeps (stable_runs t takes_letter (Gate comes.plan.gate) taking_stops) h (tolds t h) runs.run (give_tolds t h) (runs.whole.gateways comes.plan.gate inside))
    (keeps (next_stays t takes_letter one.session comes.place comes.plan) h (tolds t h) runs.run (give_tolds t h) next)
    (λ waited among. elim (comes.waited waited among) [
      | inl none ↦ rw none (omega arith)
      | inr earlier ↦ known_after t h comes.plan.gate waited.session waited.seq runs inside (answered (command_at waited.session waited.seq) earlier)
    ]))
