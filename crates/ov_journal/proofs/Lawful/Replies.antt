-- The replies of a lawful history of a script have words, with the commands that they answer, and so have the floors of its sessions.
use Rattle.std.proofs.Common.{◌==◌, ℕ, ◌+◌, ◌^◌, ◌≤◌, ◌<◌, max, Bool, true, false, [], ◌∷◌, ◌++◌, List, length, sym, subst, arith}
use Rattle.std.specs.Prelude.{if◌then◌else◌}
use Rattle.ov_base.specs.Version.{IsVersion}
use Rattle.ov_functor.specs.Execution.{Map, moves_of, hold, got}
use Rattle.ov_functor.specs.ReplyWords.{IsReply}
use Rattle.ov_functor.specs.declared.reply.Reply.{Reply}
use Rattle.ov_functor.specs.declared.reply.Reply.TheVariants.{Done, Aborted}
use Rattle.ov_functor.proofs.TransactionCode.{parts_few}
use Rattle.ov_topology.specs.Actor.{IsGate}
use Rattle.ov_topology.specs.Shape.{IsShape}
use Rattle.ov_topology.specs.declared.actor.Actor.{Actor}
use Rattle.ov_topology.specs.declared.actor.Actor.TheVariants.{Gate, Node, Settler}
use Rattle.ov_topology.specs.declared.place.Place.{Place}
use Rattle.ov_session.specs.Events.{floor, floor_of, floor_in, greatest}
use Rattle.ov_event.specs.Letters.{is_gate}
use Rattle.ov_event.specs.declared.entry.Entry.{Entry}
use Rattle.ov_event.specs.declared.kind.Kind.{Kind}
use Rattle.ov_event.specs.declared.kind.Kind.TheVariants.{Replied}
use Rattle.ov_event.specs.declared.letter.Letter.TheVariants as letters
use Rattle.ov_event.specs.declared.start.Start.{Start}
use Rattle.ov_event.specs.declared.start.Start.TheVariants.{Draw, Look}
use Rattle.ov_history.specs.Past.{History, before}
use Rattle.ov_history.specs.Sessions.{events_in, events_of}
use Rattle.ov_history.specs.Settlers.{settled, known_below, Shows}
use Rattle.ov_history.specs.May.{Setting, May, MayReply, MayTell, MayResult, Guard, Lawful}
use Rattle.ov_history.proofs.Past.{lawful_before}
use Rattle.ov_laws.specs.Entries.{began_by}
use Rattle.ov_laws.proofs.History.Earlier.{letter_lawful}
use Rattle.ov_laws.proofs.History.Sent.{result_sent, want_sent, told_sent}
use Rattle.ov_laws.proofs.Values.Settled.{known_is_serial}
use Rattle.ov_journal.specs.Line.{IsCommand}
use Rattle.ov_journal.proofs.Lawful.Scripts.{IsScripted, each_part}
use Rattle.ov_journal.proofs.Lawful.Values.{AreValues, got_shown, got_few, keys_shown, shown_count}
use Rattle.ov_journal.proofs.Lawful.Marks.{settled_held}
use Rattle.ov_journal.proofs.Lawful.Places.{actor_spelled}
use Rattle.ov_journal.proofs.Lawful.Begun.{IsFormed, command_begun, start_formed, serial_formed}

-- The reply has words, and so have its command, its gateway, and the least watermark that is not older.
pub record IsReplying (s c g : ℕ) (reply : Reply) : Type 0 where
  pub command : IsCommand s c
  pub gate : IsGate g
  pub shown : IsReply reply
  pub floor : IsVersion (floor_of reply)

-- what shows values in form, for a start in form, is a reply with words
shows_formed : (maps : ℕ → Map) (w : ℕ) (start : Start) (reply : Reply) → IsVersion w → ((n : ℕ) → n ≤ w → AreValues (maps n)) → IsFormed start → Shows maps w start reply
    → IsReply reply × IsVersion (floor_of reply)
shows_formed maps w (Draw version transaction) reply held values formed shows =
    subst (λ (one : Reply). IsReply one × IsVersion (floor_of one)) (sym shows.1) (by (hold (maps version) (moves_of transaction)))
  where
    next : version + 1 < 2 ^ 63
    next = formed.0

    less : version < w
    less = shows.0

    few : length (got (maps version) transaction) ≤ 8
    few = let parts = parts_few transaction formed.2.form in omega (arith, parts, got_few (maps version) transaction)

    by : (b : Bool) → IsReply (if b then Done version (got (maps version) transaction) else Aborted version (got (maps version) transaction))
        × IsVersion (floor_of (if b then Done version (got (maps version) transaction) else Aborted version (got (maps version) transaction)))
    by true = (record { held = omega (arith, next); few = few; each = got_shown (maps version) transaction (each_part transaction formed.1) (values version (omega (arith, less))) }, next)
    by false = (record { held = omega (arith, next); few = few; each = got_shown (maps version) transaction (each_part transaction formed.1) (values version (omega (arith, less))) }, next)
shows_formed maps w (Look least keys) reply held values formed shows =
    subst (λ (one : Reply). IsReply one × IsVersion (floor_of one)) (sym shows.1)
    (record { held = held; few = (let few : length keys ≤ 8 = formed.few in omega (arith, few, shown_count (maps w) keys)); each = keys_shown (maps w) keys formed.each (values w (omega arith)) }, held)

-- what a settler knows up to where it has settled has values in form
known_formed : (t : Setting) (h : History) (s n : ℕ) → IsShape t.topology → IsScripted t.roster → Lawful t h → n ≤ settled s h → AreValues (known_below s h n)
known_formed t h s n shape scripted lawful le key = rw (known_is_serial t shape h s n key lawful le) (serial_formed t h shape scripted lawful n key)

-- a reply that may be computed has words
pub result_formed : (t : Setting) (h : History) (place : Place) (settler s c g : ℕ) (reply : Reply) → IsShape t.topology → IsScripted t.roster → Lawful t h
    → MayResult t.topology h place settler s c g reply → IsReplying s c g reply
result_formed t h place settler s c g reply shape scripted lawful may =
    let found = letter_lawful t h place (letters.Want s c g may.start) lawful may.sent.there in
    let sent = want_sent t.topology found.0 place.letter s c g may.start found.2 in
    let began : May t (before place.entry h) (began_by g s c may.start) = subst (λ (e : Entry). May t (before place.entry h) e) sent found.3 in
    let formed = start_formed t (before place.entry h) g s c may.start shape scripted began.known began.guard in
    let shows = shows_formed (known_below settler h) (settled settler h) may.start reply (settled_held t shape h settler lawful)
    (λ n le. known_formed t h settler n shape scripted lawful le) formed may.shows in
    record {
      command = command_begun t (before place.entry h) g s c scripted began.guard.ready;
      gate = actor_spelled t.topology (Gate g) shape began.known;
      shown = shows.0;
      floor = shows.1;
    }

-- a reply that may be given has words
pub reply_formed : (t : Setting) (h : History) (place : Place) (g s c : ℕ) (reply : Reply) → IsShape t.topology → IsScripted t.roster → Lawful t h → MayReply t h place g s c reply → IsReplying s c g reply
reply_formed t h place g s c reply shape scripted lawful may =
    let found = letter_lawful t h place (letters.Result s c g reply) lawful may.sent.there in
    let sent = result_sent t.topology found.0 place.letter s c g reply found.2 in
    let results : MayResult t.topology (before place.entry h) sent.1 sent.0 s c g reply
    = subst (λ (e : Entry). Guard t (before place.entry h) e.actor e.kind) sent.2 found.3.guard in
    result_formed t (before place.entry h) sent.1 sent.0 s c g reply shape scripted (lawful_before t h place.entry lawful) results

-- a command that is told on has words
pub told_formed : (t : Setting) (h : History) (place : Place) (g s c : ℕ) → IsShape t.topology → IsScripted t.roster → Lawful t h → MayTell t.topology h place g s c → IsCommand s c
told_formed t h place g s c shape scripted lawful may =
    let found = letter_lawful t h place (letters.Told s c may.sender) lawful may.sent.there in
    let sent = told_sent t.topology found.0 place.letter s c may.sender found.2 in
    let replies : MayReply t (before place.entry h) sent.0 may.sender s c sent.1
    = subst (λ (e : Entry). Guard t (before place.entry h) e.actor e.kind) sent.2 found.3.guard in
    (reply_formed t (before place.entry h) sent.0 may.sender s c sent.1 shape scripted (lawful_before t h place.entry lawful) replies).command

-- ---- floors

-- what an entry brings to a floor has a word
floor_new : (t : Setting) (h : History) (a : Actor) (k : Kind) (s : ℕ) → IsShape t.topology → IsScripted t.roster → Lawful t h → Guard t h a k → IsVersion (greatest (floor_in s) (events_in k))
floor_new t h (Gate g) (Replied place session seq reply) s shape scripted lawful guard =
    by (session == s) (reply_formed t h place g session seq reply shape scripted lawful guard).floor
  where
    by : (b : Bool) → IsVersion (floor_of reply) → IsVersion (max (if b then floor_of reply else 0) 0)
    by true held = omega (arith, held)
    by false held = omega arith
floor_new t h (Node c p) (Replied place session seq reply) s shape scripted lawful guard = absurd guard
floor_new t h (Settler r) (Replied place session seq reply) s shape scripted lawful guard = absurd guard
floor_new t h a k s shape scripted lawful guard = omega arith

-- what both of two lists are below, they are together
greatest_both : {A : Type 0} (f : A → ℕ) (front back : List A) (bound : ℕ) → greatest f front < bound → greatest f back < bound → greatest f (front ++ back) < bound
greatest_both f [] back bound here there = there
greatest_both f (x ∷ front) back bound here there =
    let rest : greatest f (front ++ back) < bound = greatest_both f front back bound (omega (arith, here)) there in
    omega (arith, here, rest)

-- the floor of a session has a word
pub floor_held : (t : Setting) (h : History) (g s : ℕ) → IsShape t.topology → IsScripted t.roster → Lawful t h → IsVersion (floor s (events_of g h))
floor_held t [] g s shape scripted lawful = omega arith
floor_held t (e ∷ h) g s shape scripted lawful =
    by (is_gate g e.actor) (floor_new t h e.actor e.kind s shape scripted lawful.0 lawful.1.guard) (floor_held t h g s shape scripted lawful.0)
  where
    by : (b : Bool) → IsVersion (greatest (floor_in s) (events_in e.kind)) → IsVersion (floor s (events_of g h)) → IsVersion (greatest (floor_in s) ((if b then events_in e.kind else []) ++ events_of g h))
    by true new old = greatest_both (floor_in s) (events_in e.kind) (events_of g h) (2 ^ 63) new old
    by false new old = old
