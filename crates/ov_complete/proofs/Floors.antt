-- The floor of a snapshot is at most what the settler of its gateway's centre has settled.
use Rattle.std.proofs.Common.{◌≡◌, ◌==◌, ℕ, ◌+◌, ◌≤◌, ◌<◌, Bool, true, false, Option, Some, None, List, [], ◌∷◌, ◌++◌, length, refl, ap, subst, ◌∙◌, arith}
use Rattle.std.specs.Prelude.{if◌then◌else◌, get_or}
use Rattle.std.proofs.lemmas.Bool.{eqb-true}
use Rattle.ov_functor.specs.declared.reply.Reply.{Reply}
use Rattle.ov_topology.specs.declared.actor.Actor.{Actor}
use Rattle.ov_topology.specs.declared.actor.Actor.TheVariants.{Gate, Node, Settler}
use Rattle.ov_topology.specs.declared.place.Place.{Place}
use Rattle.ov_session.specs.Events.{floor_in, floor_of, of_session, floor, greatest}
use Rattle.ov_event.specs.Letters.{is_gate, is_settler}
use Rattle.ov_event.specs.declared.entry.Entry.{Entry}
use Rattle.ov_event.specs.declared.kind.Kind.{Kind}
use Rattle.ov_event.specs.declared.kind.Kind.TheVariants as kinds
use Rattle.ov_event.specs.declared.start.Start.TheVariants.{Look}
use Rattle.ov_history.specs.Past.{History, at, before}
use Rattle.ov_history.specs.May.{Setting, Guard, MayStart, MayReply, MayResult}
use Rattle.ov_history.specs.Sessions.{events_in, events_of}
use Rattle.ov_history.specs.Settlers.{Round, open_round, settled, raised, upper_end, known_below}
use Rattle.ov_history.proofs.Past.{lawful_at, lawful_before}
use Rattle.ov_laws.specs.Entries.{began_by}
use Rattle.ov_laws.proofs.Sessions.Order.{look_floor}
use Rattle.ov_laws.specs.Runs.{IsRun}
use Rattle.ov_laws.proofs.History.Earlier.{letter_at}
use Rattle.ov_laws.proofs.History.Sent.{result_sent}
use Rattle.ov_laws.proofs.Values.Settled.{settler_stands}
use Rattle.ov_laws.proofs.Values.Shown.{shows_reach}

-- ---- what is settled never falls

-- a settler has settled as far after one more entry
pub settled_grows : (t : Setting) (h : History) (e : Entry) (s : ℕ) → IsRun t h → settled s h ≤ settled s (e ∷ h)
settled_grows t h e s run = by (is_settler s e.actor) e.kind
  where
    above : (o : Option Round) → open_round s h ≡ o → settled s h ≤ upper_end o (settled s h)
    above None is = omega arith
    above (Some round) is =
        let its = (settler_stands t run.0 h s run.1).round round is in
        let from : round.from ≡ settled s h = its.from_is in
        let more : round.from < round.below = its.more in
        omega (arith, from, more)

    by : (b : Bool) (kind : Kind) → settled s h ≤ (if b then raised kind (open_round s h) (settled s h) else settled s h)
    by false kind = omega arith
    by true (kinds.Settled values) = above (open_round s h) refl
    by true kind = omega arith

-- a settler had not settled further before an entry
pub settled_before : (t : Setting) (h : History) (k s : ℕ) → IsRun t h → settled s (before k h) ≤ settled s h
settled_before t [] k s run = omega arith
settled_before t (e ∷ h) k s run = by (k == length h + 1) (settled_before t h k s (run.0, run.1.0)) (settled_grows t h e s (run.0, run.1.0))
  where
    by : (b : Bool) → settled s (before k h) ≤ settled s h → settled s h ≤ settled s (e ∷ h) → settled s (if b then h else before k h) ≤ settled s (e ∷ h)
    by true rest grows = grows
    by false rest grows = omega (arith, grows, rest)

-- ---- floors

-- what a reply reaches is at most what the settler of its gateway's centre has settled, since that one computed it
pub reply_under : (t : Setting) (h : History) (place : Place) (g s c : ℕ) (reply : Reply) → IsRun t h → MayReply t h place g s c reply
    → floor_of reply ≤ settled (get_or t.topology.gateways g 0) h
reply_under t h place g s c reply run may =
    let z = get_or t.topology.gateways g 0 in
    let sent = letter_at t.topology h place.entry place.letter _ may.sent.there in
    let by_settler = result_sent t.topology sent.0 place.letter s c g reply sent.2 in
    let resulted : Entry = record { actor = Settler by_settler.0; kind = kinds.Resulted by_settler.1 s c g reply } in
    let stood : at h place.entry ≡ Some resulted = sent.1 ∙ ap (λ (e : Entry). Some e) by_settler.2 in
    let result : MayResult t.topology (before place.entry h) by_settler.1 by_settler.0 s c g reply = (lawful_at t h place.entry resulted run.1 stood).guard in
    let own : by_settler.0 ≡ z = eqb-true by_settler.0 z result.sent.addressed in
    let reach : floor_of reply ≤ settled by_settler.0 (before place.entry h)
    = shows_reach (known_below by_settler.0 (before place.entry h)) (settled by_settler.0 (before place.entry h)) result.start reply result.shows in
    let grown : settled by_settler.0 (before place.entry h) ≤ settled by_settler.0 h = settled_before t h place.entry by_settler.0 run in
    subst (λ n. floor_of reply ≤ settled n h) own (omega (arith, reach, grown))

-- what a number of a session says of another is nothing, or that number
of_session_under : (s other n : ℕ) → of_session s other n ≤ n
of_session_under s other n = by (other == s)
  where
    by : (b : Bool) → (if b then n else 0) ≤ n
    by true = omega arith
    by false = omega arith

-- the floor of a session at a gateway is at most what the settler of the gateway's centre has settled
pub floor_under : (t : Setting) (h : History) (g s : ℕ) → IsRun t h → floor s (events_of g h) ≤ settled (get_or t.topology.gateways g 0) h
floor_under t [] g s run = omega arith
floor_under t (e ∷ h) g s run =
    let grows : settled z h ≤ settled z (e ∷ h) = settled_grows t h e z (run.0, run.1.0) in
    let now : greatest (floor_in s) ((if is_gate g e.actor then events_in e.kind else []) ++ events_of g h) ≤ settled z h
    = by (floor_under t h g s (run.0, run.1.0)) e.actor e.kind run.1.1.guard in
    omega (arith, grows, now)
  where
    z : ℕ
    z = get_or t.topology.gateways g 0

    by_reply : floor s (events_of g h) ≤ settled z h → (f other c : ℕ) (place : Place) (reply : Reply) → MayReply t h place f other c reply → (b : Bool) → (f == g) ≡ b
        → greatest (floor_in s) ((if b then events_in (kinds.Replied place other c reply) else []) ++ events_of g h) ≤ settled z h
    by_reply rest f other c place reply may false is = rest
    by_reply rest f other c place reply may true is =
        let reach : floor_of reply ≤ settled (get_or t.topology.gateways f 0) h = reply_under t h place f other c reply (run.0, run.1.0) may in
        let same : f ≡ g = eqb-true f g is in
        let mine : floor_of reply ≤ settled z h = subst (λ n. floor_of reply ≤ settled (get_or t.topology.gateways n 0) h) same reach in
        let part : of_session s other (floor_of reply) ≤ floor_of reply = of_session_under s other (floor_of reply) in
        omega (arith, mine, part, rest)

    by_gate : floor s (events_of g h) ≤ settled z h → (b : Bool) (f : ℕ) (kind : Kind) → (f == g) ≡ b → Guard t h (Gate f) kind
        → greatest (floor_in s) ((if b then events_in kind else []) ++ events_of g h) ≤ settled z h
    by_gate rest b f (kinds.Replied place other c reply) is may = by_reply rest f other c place reply may b is
    by_gate rest true f (kinds.Began other c start) is may = omega (arith, rest)
    by_gate rest true f (kinds.Told place other c) is may = omega (arith, rest)
    by_gate rest true f kind is may = rest
    by_gate rest false f kind is may = rest

    by : floor s (events_of g h) ≤ settled z h → (a : Actor) (kind : Kind) → Guard t h a kind
        → greatest (floor_in s) ((if is_gate g a then events_in kind else []) ++ events_of g h) ≤ settled z h
    by rest (Gate f) kind may = by_gate rest (f == g) f kind refl may
    by rest (Node c p) kind may = rest
    by rest (Settler c) kind may = rest

-- the floor of a snapshot is at most what the settler of its gateway's centre has settled
pub floor_settled : (t : Setting) (h : History) (k g s c least : ℕ) (keys : List (List ℕ)) → IsRun t h
    → at h k ≡ Some (began_by g s c (Look least keys)) → least ≤ settled (get_or t.topology.gateways g 0) h
floor_settled t h k g s c least keys run there =
    let may : MayStart t (before k h) g s c (Look least keys) = (lawful_at t h k _ run.1 there).guard in
    let is : least ≡ floor s (events_of g (before k h)) = look_floor (before k h) g s may.ready.planned.command least keys may.starts in
    let under : floor s (events_of g (before k h)) ≤ settled (get_or t.topology.gateways g 0) (before k h) = floor_under t (before k h) g s (run.0, lawful_before t h k run.1) in
    let grown : settled (get_or t.topology.gateways g 0) (before k h) ≤ settled (get_or t.topology.gateways g 0) h = settled_before t h k (get_or t.topology.gateways g 0) run in
    omega (arith, is, under, grown)
