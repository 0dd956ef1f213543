-- Each entry of a lawful history of a script's sessions has a line, and so a history has a journal.
use Rattle.std.proofs.Common.{◌≡◌, ℕ, ◌+◌, ◌^◌, ◌≤◌, ◌<◌, true, List, [], ◌∷◌, ◌++◌, length, reverse, sym, subst, arith}
use Rattle.std.specs.List.{AllByRecursion}
use Rattle.std.proofs.lemmas.List.{reverse-append}
use Rattle.ov_base.proofs.Lists.{all_appended}
use Rattle.ov_functor.specs.declared.command.Command.{Command}
use Rattle.ov_topology.specs.Shape.{Shape, IsShape}
use Rattle.ov_topology.specs.declared.actor.Actor.{Actor}
use Rattle.ov_topology.specs.declared.actor.Actor.TheVariants.{Gate, Node, Settler}
use Rattle.ov_script.specs.Script.{Content, IsScript}
use Rattle.ov_event.specs.Letters.{is_in}
use Rattle.ov_event.specs.declared.entry.Entry.{Entry}
use Rattle.ov_event.specs.declared.kind.Kind.{Kind}
use Rattle.ov_event.specs.declared.kind.Kind.TheVariants as kinds
use Rattle.ov_event.specs.declared.start.Start.{Start}
use Rattle.ov_event.specs.declared.start.Start.TheVariants.{Draw, Look}
use Rattle.ov_history.specs.Past.{History}
use Rattle.ov_history.specs.May.{Setting, MayStart, Guard, Lawful}
use Rattle.ov_laws.specs.Runs.{IsRun}
use Rattle.ov_laws.proofs.Sessions.Order.{look_floor}
use Rattle.ov_world.specs.World.{setting_by}
use Rattle.ov_journal.specs.Line.{HasLine, IsBy, IsStart}
use Rattle.ov_journal.proofs.Lawful.Scripts.{IsScripted, script_scripted}
use Rattle.ov_journal.proofs.Lawful.Marks.{published_spelled, gate_heard, settler_heard, ends_held}
use Rattle.ov_journal.proofs.Lawful.Places.{actor_spelled, place_spelled}
use Rattle.ov_journal.proofs.Lawful.Begun.{IsFormed, command_begun, start_formed}
use Rattle.ov_journal.proofs.Lawful.Replies.{result_formed, reply_formed, told_formed, floor_held}
use Rattle.ov_journal.proofs.Lawful.Items.{write_formed, ack_formed, answer_formed, take_formed, settled_formed}
mod Scripts
mod Values
mod Functors
mod Marks
mod Places
mod Begun
mod Replies
mod Items

-- a start that may follow has words
start_spelled : (t : Setting) (h : History) (g s c : ℕ) (start : Start) → IsShape t.topology → IsScripted t.roster → Lawful t h → is_in t.topology (Gate g) ≡ true → MayStart t h g s c start → IsStart start
start_spelled t h g s c (Draw version transaction) shape scripted lawful known may =
    let formed : IsFormed (Draw version transaction) = start_formed t h g s c (Draw version transaction) shape scripted known may in
    let next : version + 1 < 2 ^ 63 = formed.0 in
    (omega (arith, next), formed.1, formed.2)
start_spelled t h g s c (Look least keys) shape scripted lawful known may = (
  subst (λ (n : ℕ). n < 2 ^ 63) (sym (look_floor h g s may.ready.planned.command least keys may.starts)) (floor_held t h g s shape scripted lawful),
  start_formed t h g s c (Look least keys) shape scripted known may,
)

-- what may follow has words
kind_spelled : (t : Setting) (h : History) (a : Actor) (k : Kind) → IsShape t.topology → IsScripted t.roster → length h < 2 ^ 64 → Lawful t (record { actor = a; kind = k } ∷ h) → IsBy a k
kind_spelled t h (Gate g) (kinds.Began s c start) shape scripted short lawful =
    (command_begun t h g s c scripted lawful.1.guard.ready, start_spelled t h g s c start shape scripted lawful.0 lawful.1.known lawful.1.guard)
kind_spelled t h (Gate g) (kinds.Acked place version c p) shape scripted short lawful =
    let formed = ack_formed t h place g version c p shape scripted lawful.0 lawful.1.guard in
    (place_spelled t.topology h place _ shape short lawful.1.guard.there, formed.0, formed.1)
kind_spelled t h (Gate g) (kinds.Published time vector) shape scripted short lawful =
    (lawful.1.guard.at.held, published_spelled t shape h g time vector lawful.0 lawful.1.known lawful.1.guard)
kind_spelled t h (Gate g) (kinds.Heard place vector) shape scripted short lawful =
    (place_spelled t.topology h place _ shape short lawful.1.guard.sent.there, gate_heard t shape h place g vector lawful.0 lawful.1.known lawful.1.guard)
kind_spelled t h (Gate g) (kinds.Replied place s c reply) shape scripted short lawful =
    let formed = reply_formed t h place g s c reply shape scripted lawful.0 lawful.1.guard in
    (place_spelled t.topology h place _ shape short lawful.1.guard.sent.there, formed.command, formed.shown)
kind_spelled t h (Gate g) (kinds.Told place s c) shape scripted short lawful =
    (place_spelled t.topology h place _ shape short lawful.1.guard.sent.there, told_formed t h place g s c shape scripted lawful.0 lawful.1.guard)
kind_spelled t h (Gate g) kinds.Stopped shape scripted short lawful = tt
kind_spelled t h (Node c p) (kinds.Stored place version items) shape scripted short lawful =
    let formed = write_formed t h place c p version items shape scripted lawful.0 lawful.1.guard in
    (place_spelled t.topology h place _ shape short lawful.1.guard.there, formed.0, formed.1)
kind_spelled t h (Node c p) (kinds.Answered place settler round items) shape scripted short lawful =
    let formed = answer_formed t h place c p settler round items shape scripted lawful.0 lawful.1.guard in
    (place_spelled t.topology h place _ shape short lawful.1.guard.sent.there, formed.0, formed.1, formed.2)
kind_spelled t h (Node c p) kinds.Stopped shape scripted short lawful = tt
kind_spelled t h (Settler s) (kinds.Heard place vector) shape scripted short lawful =
    (place_spelled t.topology h place _ shape short lawful.1.guard.sent.there, settler_heard t shape h place s vector lawful.0 lawful.1.known lawful.1.guard)
kind_spelled t h (Settler s) (kinds.Asked round mode from below) shape scripted short lawful =
    let ends = ends_held t shape h s round mode from below lawful.0 lawful.1.guard in
    (record { some = (let next = lawful.1.guard.next in omega (arith, next)); held = lawful.1.guard.held }, ends.0, ends.1)
kind_spelled t h (Settler s) (kinds.Taken place round c p items) shape scripted short lawful =
    let formed = take_formed t h place s round c p items shape scripted lawful.0 lawful.1.guard in
    (place_spelled t.topology h place _ shape short lawful.1.guard.sent.there, formed.0, formed.1, formed.2)
kind_spelled t h (Settler s) (kinds.Settled values) shape scripted short lawful = settled_formed t h s values shape scripted lawful
kind_spelled t h (Settler s) (kinds.Resulted place session seq gate reply) shape scripted short lawful =
    let formed = result_formed t h place s session seq gate reply shape scripted lawful.0 lawful.1.guard in
    (place_spelled t.topology h place _ shape short lawful.1.guard.sent.there, formed.command, formed.gate, formed.shown)
kind_spelled t h (Settler s) kinds.Stopped shape scripted short lawful = tt
kind_spelled t h a k shape scripted short lawful = absurd lawful.1.guard

-- each entry of a lawful history of commands in form has a line
entries_spelled : (t : Setting) (h : History) → IsShape t.topology → IsScripted t.roster → Lawful t h → length h < 2 ^ 64 → AllByRecursion HasLine h
entries_spelled t [] shape scripted lawful short = tt
entries_spelled t (e ∷ h) shape scripted lawful short = (
  record {
    actor = actor_spelled t.topology e.actor shape lawful.1.known;
    kind = kind_spelled t h e.actor e.kind shape scripted (omega (arith, short)) lawful;
  },
  entries_spelled t h shape scripted lawful.0 (omega (arith, short)),
)

-- what holds of each holds of each of the list in the other order
each_reversed : {A : Type 0} (P : A → Type 0) (xs : List A) → AllByRecursion P xs → AllByRecursion P (reverse xs)
each_reversed P [] each = tt
each_reversed P (x ∷ xs) each = subst (AllByRecursion P) (sym (reverse-append (x ∷ []) xs)) (all_appended P (reverse xs) (x ∷ []) (each_reversed P xs each.1) (each.0, tt))

-- each entry of a lawful history of a script's sessions has a line
pub lawful_lines : (topology : Shape) (script : Content) (h : History) → IsScript script → IsRun (setting_by topology script) h → length h < 2 ^ 64 → AllByRecursion HasLine h
lawful_lines topology script h is run short = entries_spelled (setting_by topology script) h run.0 (script_scripted script is) run.1 short

-- and so it has in the order of a journal
pub journal_lines : (topology : Shape) (script : Content) (h : History) → IsScript script → IsRun (setting_by topology script) h → length h < 2 ^ 64 → AllByRecursion HasLine (reverse h)
journal_lines topology script h is run short = each_reversed HasLine h (lawful_lines topology script h is run short)
