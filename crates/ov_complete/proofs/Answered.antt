-- Fact 5: after the last two passes a command that had begun is replied, where each begun version was visible and settled.
use Rattle.std.proofs.Common.{◌≡◌, ◌==◌, ℕ, ◌+◌, ◌-◌, ◌≤◌, ◌<◌, ltb, Bool, true, false, inl, inr, Option, Some, None, List, [], ◌∷◌, ◌++◌, length, refl, subst, arith}
use Rattle.std.specs.Prelude.{if◌then◌else◌, get_or}
use Rattle.std.proofs.lemmas.Bool.{cases_Bool, eqb-true, eqb-false, eq-eqb, lt-ltb, le-leb, ltb-false, ltb-true, ne_eqb}
use Rattle.ov_functor.specs.Execution.{reply_of}
use Rattle.ov_functor.specs.Windows.{Among}
use Rattle.ov_functor.specs.declared.reply.Reply.{Reply}
use Rattle.ov_functor.specs.declared.reply.Reply.TheVariants.{Snap}
use Rattle.ov_topology.specs.Shape.{Shape, IsShape, gates}
use Rattle.ov_topology.specs.declared.actor.Actor.{Actor}
use Rattle.ov_topology.specs.declared.actor.Actor.TheVariants.{Gate, Node, Settler}
use Rattle.ov_topology.specs.declared.place.Place.{Place}
use Rattle.ov_session.specs.Events.{Event, begun_in, greatest, of_session, begun, replied}
use Rattle.ov_session.specs.Events as events
use Rattle.ov_event.specs.Letters.{start_writes, letters_of}
use Rattle.ov_event.specs.declared.entry.Entry.{Entry}
use Rattle.ov_event.specs.declared.kind.Kind.{Kind}
use Rattle.ov_event.specs.declared.kind.Kind.TheVariants as kinds
use Rattle.ov_event.specs.declared.letter.Letter.TheVariants as letters
use Rattle.ov_event.specs.declared.start.Start.{Start}
use Rattle.ov_event.specs.declared.start.Start.TheVariants.{Draw, Look}
use Rattle.ov_history.specs.Past.{History, at, before, stopped}
use Rattle.ov_history.specs.Letters.{letter}
use Rattle.ov_history.specs.Draws.{Drawn, draw_of}
use Rattle.ov_history.specs.Marks.{replies, visible}
use Rattle.ov_history.specs.May.{Setting, Guard, MayStart, MayReply, Lawful}
use Rattle.ov_history.specs.Gives.{gives, is_open, reply_to}
use Rattle.ov_history.specs.Cores.{onto}
use Rattle.ov_history.specs.Sessions.{events_in, events_of}
use Rattle.ov_history.specs.Settlers.{settled, known_below, shown}
use Rattle.ov_history.proofs.Given.{gate_known}
use Rattle.ov_history.proofs.Past.{lawful_at, at_older}
use Rattle.ov_history.proofs.Sessions.{of_itself}
use Rattle.ov_follow.specs.Lines.{Line, followed, followed_all}
use Rattle.ov_follow.specs.Passes.{over, take, can, is_replied, want_lines, results, reply_lines, replies_of}
use Rattle.ov_follow.specs.Calm.{passed}
use Rattle.ov_laws.specs.Draws.{Drew}
use Rattle.ov_laws.specs.Entries.{began_by}
use Rattle.ov_laws.specs.Runs.{IsRun}
use Rattle.ov_laws.proofs.History.Earlier.{at_newest}
use Rattle.ov_complete.specs.Facts.{Runs, HasBegun, AllVisible, AllSettled}
use Rattle.ov_complete.specs.Stable.{Stable}
use Rattle.ov_complete.proofs.Floors.{settled_grows, floor_settled}
use Rattle.ov_complete.proofs.General.{stable_at, stable_letter, stable_some, stable_runs, taking_stops, gate_in, settler_in}
use Rattle.ov_base.proofs.Lists.{get_next}
use Rattle.ov_complete.proofs.Finding.{recursion_at}
use Rattle.ov_complete.proofs.Listed.{in_over_last}
use Rattle.std.proofs.lemmas.Bool.{or_right}
use Rattle.ov_complete.proofs.Gives.{give_results, give_replies}
use Rattle.ov_complete.proofs.Keeping.{run_all, keeps, makes}
use Rattle.ov_complete.proofs.Listed.{takes_letter, in_gather, in_running, in_can}
use Rattle.ov_laws.proofs.Sessions.Order.{event_under}

-- ---- the session of a command at its gateway

-- How far a session is after these events of its gateway: at most one command more has begun than is replied, and all up to the last
-- reply are replied.
record Stands (h : History) (s : ℕ) (events : List Event) : Type 0 where
  near : begun s events ≤ replied s events + 1
  done : (c : ℕ) → 1 ≤ c → c ≤ replied s events → is_replied s c h ≡ true

-- One more entry: the session's events at its gateway.
module _ (t : Setting) (h : History) (g s : ℕ) (stands : Stands h s (events_of g h)) where
  -- as it was
  still : (e : Entry) → Stands (e ∷ h) s (events_of g h)
  still e = record { near = stands.near; done = λ d low high. or_right (replies s d e.kind) (is_replied s d h) (stands.done d low high) }

  -- after the gateway's session begins its next command
  after-began : (f other c : ℕ) (start : Start) → MayStart t h f other c start → (own mine : Bool) → (f == g) ≡ own → (other == s) ≡ mine
      → Stands (record { actor = Gate f; kind = kinds.Began other c start } ∷ h) s ((if own then events.Begun other c ∷ [] else []) ++ events_of g h)
  after-began f other c start may false mine is same = still _
  after-began f other c start may true false is same =
      let none : of_session s other c ≡ 0 = rw same refl in
      record { near = omega (arith, none, stands.near); done = λ d low high. stands.done d low (omega (arith, high)) }
  after-began f other c start may true true is same =
      let gate : f ≡ g = eqb-true f g is in
      let its : other ≡ s = eqb-true other s same in
      let all : of_session s other c ≡ c = rw same refl in
      let next : c ≡ begun s (events_of g h) + 1 = subst (λ n. c ≡ begun n (events_of g h) + 1) its (subst (λ n. c ≡ begun other (events_of n h) + 1) gate may.ready.next) in
      let idle : begun s (events_of g h) ≡ replied s (events_of g h)
      = subst (λ n. begun n (events_of g h) ≡ replied n (events_of g h)) its (subst (λ n. begun other (events_of n h) ≡ replied other (events_of n h)) gate may.ready.idle) in
      record { near = omega (arith, all, next, idle); done = λ d low high. stands.done d low (omega (arith, high)) }

  -- after the gateway replies to the command that began last
  after-replied : (f other c : ℕ) (place : Place) (reply : Reply) → MayReply t h place f other c reply → (own mine : Bool) → (f == g) ≡ own → (other == s) ≡ mine
      → Stands (record { actor = Gate f; kind = kinds.Replied place other c reply } ∷ h) s ((if own then events.Replied other c reply ∷ [] else []) ++ events_of g h)
  after-replied f other c place reply may false mine is same = still _
  after-replied f other c place reply may true false is same =
      let none : of_session s other c ≡ 0 = rw same refl in
      record {
        near = omega (arith, none, stands.near);
        done = λ d low high. or_right (replies s d (kinds.Replied place other c reply)) (is_replied s d h) (stands.done d low (omega (arith, none, high)));
      }
  after-replied f other c place reply may true true is same =
      let gate : f ≡ g = eqb-true f g is in
      let its : other ≡ s = eqb-true other s same in
      let all : of_session s other c ≡ c = rw same refl in
      let next : c ≡ replied s (events_of g h) + 1 = subst (λ n. c ≡ replied n (events_of g h) + 1) its (subst (λ n. c ≡ replied other (events_of n h) + 1) gate may.next) in
      record {
        near = omega (arith, all, next, stands.near);
        done = λ d low high. elim (cases_Bool (c == d)) [
          | inl one ↦ rw (same, one) refl
          | inr another ↦
              let apart = eqb-false c d another in
              or_right (replies s d (kinds.Replied place other c reply)) (is_replied s d h) (stands.done d low (omega (arith, all, next, high, apart)))
        ];
      }

  -- after an entry of a gateway
  after-gate : (f : ℕ) (kind : Kind) → Guard t h (Gate f) kind
      → Stands (record { actor = Gate f; kind = kind } ∷ h) s ((if f == g then events_in kind else []) ++ events_of g h)
  after-gate f (kinds.Began other c start) may = after-began f other c start may (f == g) (other == s) refl refl
  after-gate f (kinds.Replied place other c reply) may = after-replied f other c place reply may (f == g) (other == s) refl refl
  after-gate f (kinds.Told place other c) may = by (f == g)
    where
      by : (own : Bool) → Stands (record { actor = Gate f; kind = kinds.Told place other c } ∷ h) s ((if own then events.Told other c ∷ [] else []) ++ events_of g h)
      by false = still _
      by true = record {
        near = omega (arith, stands.near);
        done = λ d low high. stands.done d low (omega (arith, high));
      }
  after-gate f kind may = by (f == g)
    where
      by : (own : Bool) → Stands (record { actor = Gate f; kind = kind } ∷ h) s ((if own then [] else []) ++ events_of g h)
      by false = still _
      by true = still _

  -- after an entry
  after-entry : (a : Actor) (kind : Kind) → Guard t h a kind → Stands (record { actor = a; kind = kind } ∷ h) s (events_of g (record { actor = a; kind = kind } ∷ h))
  after-entry (Gate f) kind may = after-gate f kind may
  after-entry (Node c p) kind may = still _
  after-entry (Settler c) kind may = still _

-- how far each session of a lawful history is at each gateway
session_stands : (t : Setting) (h : History) (g s : ℕ) → Lawful t h → Stands h s (events_of g h)
session_stands t [] g s lawful = record { near = omega arith; done = λ c low high. absurd (omega (arith, low, high)) }
session_stands t (e ∷ h) g s lawful = after-entry t h g s (session_stands t h g s lawful.0) e.actor e.kind lawful.1.guard

-- a command that has begun and is not replied is open at its gateway
pub open_where : (t : Setting) (h : History) (k g s c : ℕ) (start : Start) → Lawful t h → at h k ≡ Some (began_by g s c start)
    → is_replied s c h ≡ false → is_open t h g s c ≡ true
open_where t h k g s c start lawful there unanswered =
    let may : MayStart t (before k h) g s c start = (lawful_at t h k _ lawful there).guard in
    let stands = session_stands t h g s lawful in
    let next : c ≡ begun s (events_of g (before k h)) + 1 = may.ready.next in
    let told : begun_in s (events.Begun s c) ≤ begun s (events_of g h) = event_under (begun_in s) g h k (kinds.Began s c start) (events.Begun s c) there refl in
    let own : begun_in s (events.Begun s c) ≡ c = of_itself s c in
    let most : begun s (events_of g h) ≤ replied s (events_of g h) + 1 = stands.near in
    let past : replied s (events_of g h) < c = elim (cases_Bool (ltb (replied s (events_of g h)) c)) [
      | inl less ↦ ltb-true (replied s (events_of g h)) c less
      | inr more ↦
          let under : c ≤ replied s (events_of g h) = ltb-false (replied s (events_of g h)) c more in
          let is : is_replied s c h ≡ true = stands.done c (omega (arith, next)) under in
          absurd cc
    ] in
    let last : begun s (events_of g h) ≡ c = omega (arith, told, own, most, past) in
    let behind : replied s (events_of g h) + 1 ≡ c = omega (arith, told, own, most, past) in
    rw (may.ready.session, eq-eqb may.ready.plan.gate g may.ready.own, eq-eqb (begun s (events_of g h)) c last, eq-eqb (replied s (events_of g h) + 1) c behind) refl

-- ---- pass 13: the reply is computed

-- the settler of the centre of a gateway
abbrev centre_of : Shape → ℕ → ℕ
centre_of t g = get_or t.gateways g 0

-- that one is in the topology
centre_there : (t : Shape) (g : ℕ) → IsShape t → g < gates t → centre_of t g < t.centres
centre_there t g shape known = recursion_at (λ centre. centre < t.centres) t.gateways g 0 shape.gateways_at known

-- a number up to which a settler has settled is enough for a reply
abbrev Reaches : Start → ℕ → Type 0
Reaches (Draw version transaction) w = version < w
Reaches (Look least keys) w = least ≤ w

reaches_more : (start : Start) (w more : ℕ) → w ≤ more → Reaches start w → Reaches start more
reaches_more (Draw version transaction) w more le reaches = omega (arith, le, reaches)
reaches_more (Look least keys) w more le reaches = omega (arith, le, reaches)

-- a settler that has settled enough can compute the reply
can_reply : (h : History) (s : ℕ) (start : Start) → Reaches start (settled s h) → (reply : Reply) × (reply_to h s start ≡ Some reply)
can_reply h s (Draw version transaction) reaches = (reply_of (known_below s h version) version transaction, rw (lt-ltb version (settled s h) reaches) refl)
can_reply h s (Look least keys) reaches = (Snap (settled s h) (shown (known_below s h (settled s h)) keys), rw (le-leb least (settled s h) reaches) refl)

-- the place of the letter by which a command's reply is wanted, where it began in this entry
abbrev want_place : Shape → ℕ → Start → Place
want_place t k start = record { entry = k; letter = 1 + length (start_writes t start) }

-- the letter is there
want_there : (t : Shape) (h : History) (k g s c : ℕ) (start : Start) → at h k ≡ Some (began_by g s c start)
    → letter t h (want_place t k start) ≡ Some (letters.Want s c g start)
want_there t h k g s c start there =
    let n = length (start_writes t start) in
    let some : (1 + n == 0) ≡ false = ne_eqb (1 + n) 0 (λ is. omega (arith, is)) in
    let last : 1 + n - 1 ≡ n = omega arith in
    rw (there, some, last) (get_next (start_writes t start) (letters.Want s c g start))

-- What the settler needs to compute a reply that is wanted.
record IsWanted (t : Shape) (k g s c : ℕ) (start : Start) (h : History) : Type 0 where
  sent : letter t h (want_place t k start) ≡ Some (letters.Want s c g start)
  runs : stopped (Settler (centre_of t g)) h ≡ false
  reaches : Reaches start (settled (centre_of t g) h)

-- that stays in passes by which letters are taken
wanted_stable : (t : Setting) (k g s c : ℕ) (start : Start) → Stable t takes_letter (IsWanted t.topology k g s c start)
wanted_stable t k g s c start = record {
  keep = λ h new run may passes is. record {
    sent = (stable_letter t takes_letter (want_place t.topology k start) (letters.Want s c g start)).keep h new run may passes is.sent;
    runs = (stable_runs t takes_letter (Settler (centre_of t.topology g)) taking_stops).keep h new run may passes is.runs;
    reaches = reaches_more start (settled (centre_of t.topology g) h) (settled (centre_of t.topology g) (new ∷ h)) (settled_grows t h new (centre_of t.topology g) run) is.reaches;
  };
}

-- A settler has computed a reply to the command for the gateway.
record IsResulted (g s c : ℕ) (h : History) : Type 0 where
  number : ℕ
  settler : ℕ
  place : Place
  reply : Reply
  there : at h number ≡ Some (record { actor = Settler settler; kind = kinds.Resulted place s c g reply })

resulted_stable : (t : Setting) (g s c : ℕ) → Stable t takes_letter (IsResulted g s c)
resulted_stable t g s c = record {
  keep = λ h new run may passes is. record { number = is.number; settler = is.settler; place = is.place; reply = is.reply; there = at_older h is.number _ new is.there };
}

-- the line of the letter
abbrev want_line : Shape → ℕ → ℕ → Start → Line
want_line t k g start = take (Settler (centre_of t g)) k (1 + length (start_writes t start))

-- a settler that can compute a reply that is wanted does, for the letter
want_gives : (t : Setting) (k g s c : ℕ) (start : Start) (h : History) → centre_of t.topology g < t.topology.centres → IsWanted t.topology k g s c start h
    → (reply : Reply) × (gives t h (want_line t.topology k g start).actor (want_line t.topology k g start).act
    ≡ Some (record { actor = Settler (centre_of t.topology g); kind = kinds.Resulted (want_place t.topology k start) s c g reply }))
want_gives t k g s c start h inside is =
    let z = centre_of t.topology g in
    let reply = can_reply h z start is.reaches in
    (reply.0, rw (settler_in t.topology z inside, is.runs, is.sent, eq-eqb z z refl, reply.1) refl)

-- after pass 13 the reply is computed
results_then : (t : Setting) (h : History) (k g s c : ℕ) (start : Start) → IsRun t h → centre_of t.topology g < t.topology.centres
    → at h k ≡ Some (began_by g s c start) → is_replied s c h ≡ false
    → IsWanted t.topology k g s c start h → IsResulted g s c (followed_all t h (results t h))
results_then t h k g s c start run inside there unanswered wanted =
    makes (wanted_stable t k g s c start) (resulted_stable t g s c) h (results t h) line run (give_results t h) among make wanted
  where
    line : Line
    line = want_line t.topology k g start

    among : Among line (results t h)
    among =
        let gives_it = want_gives t k g s c start h inside wanted in
        let can_it : Among line (can t h (Some line)) = in_can t h line _ gives_it.1 in
        let mine : Among line (want_lines t h k (1 + length (start_writes t.topology start)) (letters.Want s c g start)) = rw unanswered can_it in
        in_gather (λ number e. over (want_lines t h number) 1 (letters_of t.topology e)) h k (began_by g s c start) line there
        (in_over_last (want_lines t h k) 1 (start_writes t.topology start) (letters.Want s c g start) line mine)

    make : (x : History) → IsRun t x → IsWanted t.topology k g s c start x → IsResulted g s c (followed t x line)
    make x its is =
        let gives_it = want_gives t k g s c start x inside is in
        rw gives_it.1 (record { number = length x + 1; settler = centre_of t.topology g; place = want_place t.topology k start; reply = gives_it.0; there = at_newest x _ })

-- ---- pass 14: the reply is given

-- What the gateway needs to reply to a command that began in this entry: the result is at this number.
record IsReady (k n g s c settler : ℕ) (start : Start) (place : Place) (reply : Reply) (h : History) : Type 0 where
  began : at h k ≡ Some (began_by g s c start)
  result : at h n ≡ Some (record { actor = Settler settler; kind = kinds.Resulted place s c g reply })
  runs : stopped (Gate g) h ≡ false

ready_stable : (t : Setting) (k n g s c settler : ℕ) (start : Start) (place : Place) (reply : Reply) → Stable t takes_letter (IsReady k n g s c settler start place reply)
ready_stable t k n g s c settler start place reply = record {
  keep = λ h new run may passes is. record {
    began = at_older h k _ new is.began;
    result = at_older h n _ new is.result;
    runs = (stable_runs t takes_letter (Gate g) taking_stops).keep h new run may passes is.runs;
  };
}

-- a gateway takes the result of a command that is open
result_gives : (t : Setting) (k n g s c settler : ℕ) (start : Start) (place : Place) (reply : Reply) (h : History) → Lawful t h → g < gates t.topology
    → IsReady k n g s c settler start place reply h → is_replied s c h ≡ false
    → gives t h (Gate g) (take (Gate g) n 1).act ≡ Some (record { actor = Gate g; kind = kinds.Replied (record { entry = n; letter = 1 }) s c reply })
result_gives t k n g s c settler start place reply h lawful known is unanswered =
    rw (gate_in t.topology g known, is.runs, is.result, eq-eqb g g refl, open_where t h k g s c start lawful is.began unanswered) refl

-- after pass 14 the command is replied
replies_then : (t : Setting) (h : History) (k n g s c settler : ℕ) (start : Start) (place : Place) (reply : Reply) → IsRun t h → g < gates t.topology
    → IsReady k n g s c settler start place reply h → is_replied s c (followed_all t h (replies_of t h)) ≡ true
replies_then t h k n g s c settler start place reply run known ready =
    elim (cases_Bool (is_replied s c h)) [
      | inl is ↦ keeps stays h (replies_of t h) run (give_replies t h) is
      | inr unanswered ↦ makes (ready_stable t k n g s c settler start place reply) stays h (replies_of t h) (take (Gate g) n 1) run (give_replies t h) (among unanswered) make ready
    ]
  where
    stays : Stable t takes_letter (λ (x : History). is_replied s c x ≡ true)
    stays = stable_some t takes_letter (λ e. replies s c e.kind)

    among : is_replied s c h ≡ false → Among (take (Gate g) n 1) (replies_of t h)
    among unanswered =
        let mine : Among (take (Gate g) n 1) (reply_lines h n (kinds.Resulted place s c g reply)) = rw unanswered (in_running h (take (Gate g) n 1) ready.runs) in
        in_gather (λ number e. reply_lines h number e.kind) h n _ (take (Gate g) n 1) ready.result mine

    make : (x : History) → IsRun t x → IsReady k n g s c settler start place reply x → is_replied s c (followed t x (take (Gate g) n 1)) ≡ true
    make x its is = elim (cases_Bool (is_replied s c x)) [
      | inl done ↦ by_given (gives t x (Gate g) (take (Gate g) n 1).act) x done
      | inr unanswered ↦ rw (result_gives t k n g s c settler start place reply x its.1 known is unanswered, eq-eqb s s refl, eq-eqb c c refl) refl
    ]
      where
        by_given : (o : Option Entry) (x : History) → is_replied s c x ≡ true → is_replied s c (onto o x) ≡ true
        by_given None x done = done
        by_given (Some e) x done = or_right (replies s c e.kind) (is_replied s c x) done

-- ---- fact 5

-- what an entry of a gateway draws, it drew
drew_there : (h : History) (k g : ℕ) (e : Entry) (drawn : Drawn) → at h k ≡ Some e → draw_of g e ≡ Some drawn → Drew g drawn h
drew_there [] k g e drawn there is = absurd cc
drew_there (new ∷ h) k g e drawn there is = by (k == length h + 1) there (λ older. drew_there h k g e drawn older is)
  where
    by : (b : Bool) → (if b then Some new else at h k) ≡ Some e → (at h k ≡ Some e → Drew g drawn h) → Drew g drawn (new ∷ h)
    by true here rest = let same : new ≡ e = cc in inl (rw same is)
    by false here rest = inr (rest here)

-- where all begun versions are visible and all that is visible is settled, the settler has settled enough for each begun command
reaches_where : (t : Setting) (h : History) (k g s c : ℕ) (start : Start) → IsRun t h → AllVisible t.topology h → AllSettled t.topology h → g < gates t.topology
    → at h k ≡ Some (began_by g s c start) → Reaches start (settled (centre_of t.topology g) h)
reaches_where t h k g s c (Look least keys) run visible settled known there = floor_settled t h k g s c least keys run there
reaches_where t h k g s c (Draw version transaction) run seen done known there =
    let z = centre_of t.topology g in
    let drawn : Drawn = record { session = s; seq = c; version = version; transaction = transaction } in
    let inside : z < t.topology.centres = centre_there t.topology g run.0 known in
    let drew : Drew g drawn h = drew_there h k g (began_by g s c (Draw version transaction)) drawn there (rw (eq-eqb g g refl) refl) in
    let low : version < visible t.topology (Settler z) h = seen z g drawn inside known drew in
    let high : visible t.topology (Settler z) h ≤ settled z h = done z inside in
    omega (arith, low, high)

-- a command that has begun is replied after the last two passes
pub replied_then : (t : Setting) (h : History) (s c : ℕ) → Runs t h → AllVisible t.topology h → AllSettled t.topology h → HasBegun h s c
    → is_replied s c (passed t h (results ∷ replies_of ∷ [])) ≡ true
replied_then t h s c runs seen done has = elim (cases_Bool (is_replied s c h)) [
  | inl is ↦ keeps stays first (replies_of t first) later (give_replies t first) (keeps stays h (results t h) runs.run (give_results t h) is)
  | inr unanswered ↦
      let wanted : IsWanted t.topology k g s c start h = record {
        sent = want_there t.topology h k g s c start there;
        runs = runs.whole.settlers (centre_of t.topology g) inside;
        reaches = reaches_where t h k g s c start runs.run seen done known there;
      } in
      let result = results_then t h k g s c start runs.run inside there unanswered wanted in
      replies_then t first k result.number g s c result.settler start result.place result.reply later known (record {
        began = keeps (stable_at t takes_letter k (began_by g s c start)) h (results t h) runs.run (give_results t h) there;
        result = result.there;
        runs = keeps (stable_runs t takes_letter (Gate g) taking_stops) h (results t h) runs.run (give_results t h) (runs.whole.gateways g known);
      })
]
  where
    first : History
    first = followed_all t h (results t h)

    later : IsRun t first
    later = run_all t h (results t h) runs.run

    stays : Stable t takes_letter (λ (x : History). is_replied s c x ≡ true)
    stays = stable_some t takes_letter (λ e. replies s c e.kind)

    k : ℕ
    k = has.number

    g : ℕ
    g = has.begun.gate

    start : Start
    start = has.begun.start

    there : at h k ≡ Some (began_by g s c start)
    there = has.begun.there

    known : g < gates t.topology
    known = gate_known t.topology g (lawful_at t h k (began_by g s c start) runs.run.1 there).known

    inside : centre_of t.topology g < t.topology.centres
    inside = centre_there t.topology g runs.run.0 known
