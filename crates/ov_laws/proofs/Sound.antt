-- The letters of a lawful history are sound for each gateway, and its answers for the settler that takes them.
use Rattle.std.proofs.Common.{◌≡◌, ℕ, ◌≤◌, ◌<◌, true, Some, List, length, ap, subst, sym, ◌∙◌, arith}
use Rattle.std.specs.List.{AllByRecursion}
use Rattle.std.proofs.lemmas.Grind.{common_steps}
use Rattle.std.proofs.lemmas.List.Elements.{filter_passes, recursion_from_All}
use Rattle.std.proofs.lemmas.Option.{slice_get_within}
use Rattle.ov_base.specs.Version.{time_of, gate_of}
use Rattle.ov_functor.specs.Unions.{is_inside}
use Rattle.ov_functor.specs.declared.item.Item.{Item}
use Rattle.ov_topology.specs.Shape.{Shape}
use Rattle.ov_topology.specs.declared.actor.Actor.TheVariants.{Node}
use Rattle.ov_topology.specs.declared.place.Place.{Place}
use Rattle.ov_event.specs.Letters.{is_in}
use Rattle.ov_event.specs.declared.entry.Entry.{Entry}
use Rattle.ov_event.specs.declared.kind.Kind.TheVariants as kinds
use Rattle.ov_event.specs.declared.letter.Letter.{Letter}
use Rattle.ov_event.specs.declared.letter.Letter.TheVariants as letters
use Rattle.ov_history.specs.Past.{History, before}
use Rattle.ov_history.specs.Letters.{letter, Takes}
use Rattle.ov_history.specs.Draws.{Drawn, drawn_in, last}
use Rattle.ov_history.specs.Nodes.{held}
use Rattle.ov_history.specs.Settlers.{Round, open_round}
use Rattle.ov_history.specs.May.{Setting, May, MayReply, MayAnswer, Guard, Lawful}
use Rattle.ov_history.specs.Cores.{IsSound}
use Rattle.ov_history.proofs.Given.{node_known}
use Rattle.ov_laws.specs.Harvests.{IsAnswerTo}
use Rattle.ov_laws.proofs.History.Earlier.{letter_before, letter_lawful}
use Rattle.ov_laws.proofs.History.Sent.{ack_sent, answer_sent, told_sent}
use Rattle.ov_laws.proofs.Windows.Writers.{write_sent}
use Rattle.ov_laws.proofs.Windows.Rounds.{open_is_asked, question}
use Rattle.ov_laws.proofs.Times.Begun.{drew_early, drew_own}
use Rattle.ov_laws.proofs.Times.Once.{drew_at}

-- a version that was written is not later than the last time of the gateway that it names, which drew it
write_early : (t : Setting) (h : History) (g : ℕ) (place : Place) (version part : ℕ) (items : List Item) → Lawful t h → letter t.topology h place ≡ Some (letters.Write version part items)
    → gate_of version ≡ g → time_of version ≤ last g h
write_early t h g place version part items lawful there own =
    let found = letter_lawful t h place (letters.Write version part items) lawful there in
    let written = write_sent t.topology found.0 place.letter version part items found.2 in
    let drawn : Drawn = record { session = written.session; seq = written.seq; version = version; transaction = written.transaction } in
    let drew = drew_at t h place.entry found.0 drawn lawful found.1 (ap (λ (e : Entry). drawn_in e.kind) written.entry_is) in
    let his : gate_of version ≡ drew.0 = drew_own t h drew.0 drawn lawful drew.1 in
    subst (λ n. time_of version ≤ last n h) (sym his ∙ own) (drew_early drew.0 drawn h drew.1)

-- so is one that is acknowledged, since a node stored it that had it written
ack_early : (t : Setting) (h : History) (g : ℕ) (place : Place) (version centre part : ℕ) → Lawful t h → letter t.topology h place ≡ Some (letters.Ack version centre part)
    → gate_of version ≡ g → time_of version ≤ last g h
ack_early t h g place version centre part lawful there own =
    let found = letter_lawful t h place (letters.Ack version centre part) lawful there in
    let sent = ack_sent t.topology found.0 place.letter version centre part found.2 in
    let took : Takes t.topology (before place.entry h) sent.0 (Node centre part) (letters.Write version part sent.1)
    = subst (λ (e : Entry). Guard t (before place.entry h) e.actor e.kind) sent.2 found.3.guard in
    write_early t h g sent.0 version part sent.1 lawful (letter_before t.topology h place.entry sent.0 (letters.Write version part sent.1) took.there) own

-- a session of which is told is one of the roster, since the gateway that replied follows it
told_within : (t : Setting) (h : History) (place : Place) (session seq sender : ℕ) → Lawful t h → letter t.topology h place ≡ Some (letters.Told session seq sender)
    → session < length t.roster.sessions
told_within t h place session seq sender lawful there =
    let found = letter_lawful t h place (letters.Told session seq sender) lawful there in
    let sent = told_sent t.topology found.0 place.letter session seq sender found.2 in
    let replies : MayReply t (before place.entry h) sent.0 sender session seq sent.1
    = subst (λ (e : Entry). Guard t (before place.entry h) e.actor e.kind) sent.2 found.3.guard in
    slice_get_within t.roster.sessions session replies.plan replies.session

-- every letter of a lawful history is sound
pub sound : (t : Setting) (h : History) (g : ℕ) (place : Place) (sent : Letter) → Lawful t h → letter t.topology h place ≡ Some sent → IsSound t h g sent
sound t h g place (letters.Ack version centre part) lawful there = ack_early t h g place version centre part lawful there
sound t h g place (letters.Told session seq sender) lawful there = told_within t h place session seq sender lawful there
sound t h g place other lawful there = tt

-- ---- answers

-- a settler may rely on every answer to its open round
pub sound_answer : (t : Setting) (h : History) (s : ℕ) (place : Place) (round : Round) (centre part : ℕ) (items : List Item) → Lawful t h
    → letter t.topology h place ≡ Some (letters.Answer s round.number centre part items) → open_round s h ≡ Some round → IsAnswerTo t.topology round centre part items
sound_answer t h s place round centre part items lawful there is_open =
    let ask = open_is_asked h s round is_open in
    let found = letter_lawful t h place (letters.Answer s round.number centre part items) lawful there in
    let sent = answer_sent t.topology found.0 place.letter s round.number centre part items found.2 in
    let answered : Entry = record { actor = Node centre part; kind = kinds.Answered sent.0 s round.number items } in
    let may : May t (before place.entry h) answered = subst (λ (e : Entry). May t (before place.entry h) e) sent.1 found.3 in
    let guard : MayAnswer t.topology (before place.entry h) sent.0 centre part s round.number items = may.guard in
    let asked = question t h ask.0 place.entry s round centre part sent.0 items lawful ask.1 guard in
    let node = node_known t.topology centre part may.known in
    let test = is_inside guard.from guard.below in
    let old = recursion_from_All (λ (item : Item). test item ≡ true) _ (filter_passes test (held centre part (before place.entry h))) in
    let inside : AllByRecursion (λ (item : Item). is_inside guard.from guard.below item ≡ true) items
    = subst (λ (list : List Item). AllByRecursion (λ (item : Item). is_inside guard.from guard.below item ≡ true) list) (sym guard.all) old in
    record {
      centre_in = node.0;
      part_in = node.1;
      inside = subst (λ (from : ℕ). AllByRecursion (λ (item : Item). is_inside from round.below item ≡ true) items) asked.from_is
          (subst (λ (below : ℕ). AllByRecursion (λ (item : Item). is_inside guard.from below item ≡ true) items) asked.below_is inside);
    }
