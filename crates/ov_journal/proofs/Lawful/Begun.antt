-- What begins in a lawful history of a script has words: its commands, its versions and its transactions; and the serial map of such
-- transactions has values in form.
use Rattle.std.proofs.Common.{◌≡◌, ℕ, ◌+◌, ◌^◌, ◌≤◌, ◌<◌, true, Option, Some, None, List, [], ◌∷◌, length, refl, sym, subst, inl, inr, arith}
use Rattle.std.proofs.lemmas.Bool.Decides.{eqb_tells}
use Rattle.std.proofs.lemmas.Option.{slice_get_within, same_Some}
use Rattle.ov_base.specs.Version.{gate_of, time_of, IsVersion}
use Rattle.ov_functor.specs.Transaction.{IsTransaction}
use Rattle.ov_functor.specs.Words.{IsParts}
use Rattle.ov_functor.specs.declared.command.Command.{Command}
use Rattle.ov_functor.specs.declared.command.Command.TheVariants as commands
use Rattle.ov_functor.specs.declared.item.Item.{Item}
use Rattle.ov_functor.specs.declared.part.Part.{Part}
use Rattle.ov_topology.specs.Shape.{IsShape, gates}
use Rattle.ov_topology.specs.declared.actor.Actor.{Actor}
use Rattle.ov_topology.specs.declared.actor.Actor.TheVariants.{Gate, Node, Settler}
use Rattle.ov_session.specs.Events.{begun}
use Rattle.ov_session.specs.Standing.{MayBegin}
use Rattle.ov_event.specs.ItemWords.{IsItem}
use Rattle.ov_event.specs.Letters.{is_in}
use Rattle.ov_event.specs.declared.kind.Kind.{Kind}
use Rattle.ov_event.specs.declared.kind.Kind.TheVariants.{Began}
use Rattle.ov_event.specs.declared.start.Start.{Start}
use Rattle.ov_event.specs.declared.start.Start.TheVariants.{Draw, Look}
use Rattle.ov_history.specs.Past.{History}
use Rattle.ov_history.specs.Draws.{Drawn, drawn_in}
use Rattle.ov_history.specs.Sessions.{events_of}
use Rattle.ov_history.specs.May.{Setting, MayDraw, StartsAs, MayStart, Guard, Lawful}
use Rattle.ov_history.specs.Serial.{begun_as, or_begun, begun_at, serial_at}
use Rattle.ov_history.proofs.Given.{gate_known}
use Rattle.ov_laws.proofs.Windows.Added.{items_fit}
use Rattle.ov_laws.proofs.Windows.Holdings.{IsBegun}
use Rattle.ov_journal.specs.Line.{IsCommand, IsKeys}
use Rattle.ov_journal.proofs.Lawful.Scripts.{InForm, IsScripted, each_part}
use Rattle.ov_journal.proofs.Lawful.Values.{AreValues, serial_values}
use Rattle.ov_journal.proofs.Lawful.Functors.{item_form}

-- ---- commands

-- a command that may begin has words
pub command_begun : (t : Setting) (h : History) (g s c : ℕ) → IsScripted t.roster → MayBegin t.roster g (events_of g h) s c → IsCommand s c
command_begun t h g s c scripted may =
    let few : length t.roster.sessions ≤ 64 = scripted.few in
    let inside : s < length t.roster.sessions = slice_get_within t.roster.sessions s may.plan may.session in
    let short : begun s (events_of g h) < 4000 = scripted.short s (begun s (events_of g h)) may.plan may.planned may.session may.further in
    let next : c ≡ begun s (events_of g h) + 1 = may.next in
    record { held = omega (arith, few, inside); some = omega (arith, next); few = omega (arith, next, short) }

-- a start has the form of its command: a version that has a successor with a word, and its transaction; or its keys
abbrev pub IsFormed : Start → Type 0
IsFormed (Draw version transaction) = IsVersion (version + 1) × IsParts transaction × IsTransaction transaction
IsFormed (Look least keys) = IsKeys keys

-- a version that may be drawn has a successor with a word
draw_held : (t : Setting) (h : History) (g version : ℕ) → IsShape t.topology → is_in t.topology (Gate g) ≡ true → MayDraw h g version → IsVersion (version + 1)
draw_held t h g version shape known may =
    let inside : g < gates t.topology = gate_known t.topology g known in
    let few : gates t.topology ≤ 8 = shape.few_gateways in
    let own : gate_of version ≡ g = may.own in
    let early : time_of version < 2 ^ 47 = may.time.held in
    omega (arith, inside, few, own, early)

-- a start that may follow has the form of its command
pub start_formed : (t : Setting) (h : History) (g s c : ℕ) (start : Start) → IsShape t.topology → IsScripted t.roster → is_in t.topology (Gate g) ≡ true → MayStart t h g s c start → IsFormed start
start_formed t h g s c start shape scripted known may =
    by may.ready.planned.command start (scripted.each s (begun s (events_of g h)) may.ready.plan may.ready.planned may.ready.session may.ready.further) may.starts
  where
    by : (command : Command) (one : Start) → InForm command → StartsAs h g s command one → IsFormed one
    by (commands.Transact parts) (Draw version transaction) form starts = (
      draw_held t h g version shape known starts.1,
      subst (λ (list : List Part). IsParts list) (sym starts.0) form.0,
      subst (λ (list : List Part). IsTransaction list) (sym starts.0) form.1,
    )
    by (commands.Snap keys) (Look least shown) form starts = subst (λ (list : List (List ℕ)). IsKeys list) (sym starts.0) form
    by (commands.Transact parts) (Look least shown) form starts = absurd starts
    by (commands.Snap keys) (Draw version transaction) form starts = absurd starts

-- ---- what is begun at a version

-- what an entry draws is in form
draw_formed : (t : Setting) (h : History) (a : Actor) (k : Kind) (drawn : Drawn) → IsShape t.topology → IsScripted t.roster → is_in t.topology a ≡ true → Guard t h a k → drawn_in k ≡ Some drawn
    → IsFormed (Draw drawn.version drawn.transaction)
draw_formed t h (Gate g) (Began session seq (Draw version transaction)) drawn shape scripted known guard is =
    subst (λ (one : Drawn). IsFormed (Draw one.version one.transaction)) (same_Some _ drawn is) (start_formed t h g session seq (Draw version transaction) shape scripted known guard)
draw_formed t h (Node c p) (Began session seq start) drawn shape scripted known guard is = absurd guard
draw_formed t h (Settler s) (Began session seq start) drawn shape scripted known guard is = absurd guard
draw_formed t h a k drawn shape scripted known guard is = absurd cc

-- what is begun at a version is in form
pub begun_formed : (t : Setting) (h : History) (version : ℕ) (transaction : List Part) → IsShape t.topology → IsScripted t.roster → Lawful t h → begun_at h version ≡ Some transaction
    → IsFormed (Draw version transaction)
begun_formed t [] version transaction shape scripted lawful is = absurd cc
begun_formed t (e ∷ h) version transaction shape scripted lawful is =
    by (drawn_in e.kind) refl is (begun_formed t h version transaction shape scripted lawful.0)
  where
    by : (o : Option Drawn) → drawn_in e.kind ≡ o → or_begun (begun_as version o) (begun_at h version) ≡ Some transaction
        → (begun_at h version ≡ Some transaction → IsFormed (Draw version transaction)) → IsFormed (Draw version transaction)
    by None drew there rest = rest there
    by (Some new) drew there rest = elim (eqb_tells new.version version) [
      | inl same ↦
          let first : ◌≡◌ {A = Option (List Part)} (Some new.transaction) (Some transaction) = rw same.0 at there in
          let formed = draw_formed t h e.actor e.kind new shape scripted lawful.1.known lawful.1.guard drew in
          subst (λ (list : List Part). IsFormed (Draw version list)) (same_Some new.transaction transaction first)
          (subst (λ (n : ℕ). IsFormed (Draw n new.transaction)) same.1 formed)
      | inr other ↦ rest (rw other.0 at there)
    ]

-- the serial map of a lawful history of a script has values in form
pub serial_formed : (t : Setting) (h : History) → IsShape t.topology → IsScripted t.roster → Lawful t h → (n : ℕ) → AreValues (serial_at h n)
serial_formed t h shape scripted lawful n =
    serial_values (begun_at h) (λ version transaction is. each_part transaction (begun_formed t h version transaction shape scripted lawful is).1) n

-- an item of a begun transaction is in form
pub begun_item : (t : Setting) (h : History) (item : Item) → IsShape t.topology → IsScripted t.roster → Lawful t h → IsBegun h item → IsItem item
begun_item t h item shape scripted lawful is =
    let formed = begun_formed t h item.version is.transaction shape scripted lawful is.begun in
    let next : item.version + 1 < 2 ^ 63 = formed.0 in
    item_form is.transaction item formed.1 formed.2 (omega (arith, next)) (items_fit item.version is.transaction item is.within).1
