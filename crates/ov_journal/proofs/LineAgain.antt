-- The line of an entry is read as that entry.
use Rattle.std.proofs.Common.{◌≡◌, ℕ, true, false, List, [], ◌∷◌, ◌++◌, map, Some, refl, ap, ◌∙◌, arith, codes}
use Rattle.std.specs.List.{AllByRecursion}
use Rattle.std.specs.Fmt.{decimal}
use Rattle.ov_base.specs.Groups.{groups_of, groups_text, is_separator}
use Rattle.ov_base.specs.Split.{lacks, all_of}
use Rattle.ov_base.specs.Version.{version_text}
use Rattle.ov_base.proofs.GroupTexts.{IsGrouped, groups_again, groups_lack}
use Rattle.ov_base.proofs.GroupedWords.{number_grouped, version_grouped}
use Rattle.ov_base.proofs.Joins.{HasFirst}
use Rattle.ov_base.proofs.Lists.{all_appended}
use Rattle.ov_base.proofs.Traverse.{all_of_again, all_of_texts}
use Rattle.ov_base.proofs.Versions.{version_again}
use Rattle.ov_event.specs.ItemWords.{IsItem, item_words, item_of}
use Rattle.ov_event.specs.declared.entry.Entry.{Entry}
use Rattle.ov_event.specs.declared.kind.Kind.{Kind}
use Rattle.ov_event.specs.declared.kind.Kind.TheVariants.{Began, Stored, Acked, Published, Heard, Asked, Answered, Taken, Settled, Resulted, Replied, Told, Stopped}
use Rattle.ov_event.specs.declared.start.Start.{Start}
use Rattle.ov_event.specs.declared.start.Start.TheVariants.{Draw, Look}
use Rattle.ov_event.proofs.ItemWords.{item_again, item_grouped}
use Rattle.ov_functor.specs.ReplyWords.{reply_words}
use Rattle.ov_functor.specs.Words.{IsPart, part_words, part_of}
use Rattle.ov_functor.specs.declared.item.Item.{Item}
use Rattle.ov_functor.specs.declared.part.Part.{Part}
use Rattle.ov_functor.proofs.PartWordsAgain.{part_again, part_grouped, parts_grouped}
use Rattle.ov_functor.proofs.ReplyWords.{reply_again, reply_grouped}
use Rattle.ov_topology.specs.Actor.{IsActor, IsGate, IsSettler, actor_text, gate_text, node_text, settler_text}
use Rattle.ov_topology.specs.Place.{IsPlace}
use Rattle.ov_topology.specs.declared.actor.Actor.{Actor}
use Rattle.ov_topology.specs.declared.actor.Actor.TheVariants.{Gate, Node, Settler}
use Rattle.ov_topology.specs.declared.place.Place.{Place}
use Rattle.ov_topology.proofs.Actors.{actor_again, actor_grouped, gate_again, gate_grouped, settler_again, settler_grouped, node_at_again, node_grouped}
use Rattle.ov_topology.proofs.Modes.{mode_again, mode_grouped}
use Rattle.ov_topology.proofs.Places.{place_at_again}
use Rattle.ov_journal.specs.Line.{HasLine, IsBy, IsCommand, IsOfGate, IsOfNode, IsOfSettler, IsRound, IsStart, began_groups, commanded, entry_groups, entry_text, kind_groups, marks_words, parts_groups, placed, valued_words}
use Rattle.ov_journal.specs.Read.{began_of, stored_of, acked_of, published_of, heard_of, asked_of, answered_of, taken_of, settled_of, resulted_of, replied_of, told_of, stopped_of, entry_of_groups, entry_of}
use Rattle.ov_journal.proofs.LineLists.{session_again, seq_again, round_again, time_again, vector_again, values_again, keys_again, vector_grouped, values_grouped, keys_grouped}

-- ---- the words of each kind are read as it

items_again : (items : List Item) → AllByRecursion IsItem items → all_of item_of (map item_words items) ≡ Some items
items_again items h = all_of_again item_of IsItem item_words item_again items h

-- the groups behind the word of the actor of a beginning, as they are read
began_again : (gate : ℕ) (session seq : ℕ) (start : Start) → IsActor (Gate gate) → IsCommand session seq → IsStart start
    → entry_of_groups (kind_groups (gate_text gate) (Began session seq start)) ≡ Some (record { actor = Gate gate; kind = Began session seq start })
unfolding entry_of_groups began_of
began_again gate session seq (Draw version []) low h s = absurd s.1
began_again gate session seq (Draw version (part ∷ parts)) low h s =
    rw (
      actor_again (Gate gate) low,
      session_again session seq h,
      seq_again session seq h,
      version_again version s.0,
      all_of_again part_of IsPart part_words part_again (part ∷ parts) s.1,
      s.2.form,
    ) refl
began_again gate session seq (Look floor keys) low h s =
    rw (actor_again (Gate gate) low, session_again session seq h, seq_again session seq h, version_again floor s.0, keys_again keys s.1) refl

-- what a gateway did
gate_line_again : (gate : ℕ) (kind : Kind) → IsGate gate → IsOfGate kind → entry_of_groups (kind_groups (gate_text gate) kind) ≡ Some (record { actor = Gate gate; kind = kind })
unfolding entry_of_groups acked_of published_of heard_of replied_of told_of stopped_of
gate_line_again gate (Began session seq start) low h = began_again gate session seq start low h.0 h.1
gate_line_again gate (Acked place version centre part) low h =
    rw (actor_again (Gate gate) low, place_at_again place h.0, version_again version h.1, node_at_again centre part h.2) refl
gate_line_again gate (Published time vector) low h = rw (actor_again (Gate gate) low, time_again time h.0, vector_again vector h.1) refl
gate_line_again gate (Heard place vector) low h = rw (actor_again (Gate gate) low, place_at_again place h.0, vector_again vector h.1) refl
gate_line_again gate (Replied place session seq reply) low h =
    rw (actor_again (Gate gate) low, place_at_again place h.0, session_again session seq h.1, seq_again session seq h.1, reply_again reply h.2) refl
gate_line_again gate (Told place session seq) low h =
    rw (actor_again (Gate gate) low, place_at_again place h.0, session_again session seq h.1, seq_again session seq h.1) refl
gate_line_again gate Stopped low h = rw (actor_again (Gate gate) low) refl
gate_line_again gate (Stored place version items) low h = absurd h
gate_line_again gate (Asked round mode from below) low h = absurd h
gate_line_again gate (Answered place settler round items) low h = absurd h
gate_line_again gate (Taken place round centre part items) low h = absurd h
gate_line_again gate (Settled values) low h = absurd h
gate_line_again gate (Resulted place session seq other reply) low h = absurd h

-- what a node did
node_line_again : (centre part : ℕ) (kind : Kind) → IsActor (Node centre part) → IsOfNode kind
    → entry_of_groups (kind_groups (node_text centre part) kind) ≡ Some (record { actor = Node centre part; kind = kind })
unfolding entry_of_groups stored_of answered_of stopped_of
node_line_again centre part (Stored place version items) low h =
    rw (actor_again (Node centre part) low, place_at_again place h.0, version_again version h.1, items_again items h.2) refl
node_line_again centre part (Answered place settler round items) low h =
    rw (actor_again (Node centre part) low, place_at_again place h.0, settler_again settler h.1, round_again round h.2, items_again items h.3) refl
node_line_again centre part Stopped low h = rw (actor_again (Node centre part) low) refl
node_line_again centre part (Began session seq start) low h = absurd h
node_line_again centre part (Acked place version other one) low h = absurd h
node_line_again centre part (Published time vector) low h = absurd h
node_line_again centre part (Heard place vector) low h = absurd h
node_line_again centre part (Asked round mode from below) low h = absurd h
node_line_again centre part (Taken place round other one items) low h = absurd h
node_line_again centre part (Settled values) low h = absurd h
node_line_again centre part (Resulted place session seq gate reply) low h = absurd h
node_line_again centre part (Replied place session seq reply) low h = absurd h
node_line_again centre part (Told place session seq) low h = absurd h

-- what a settler did
settler_line_again : (centre : ℕ) (kind : Kind) → IsSettler centre → IsOfSettler kind
    → entry_of_groups (kind_groups (settler_text centre) kind) ≡ Some (record { actor = Settler centre; kind = kind })
unfolding entry_of_groups heard_of asked_of taken_of settled_of resulted_of stopped_of
settler_line_again centre (Heard place vector) low h = rw (actor_again (Settler centre) low, place_at_again place h.0, vector_again vector h.1) refl
settler_line_again centre (Asked round mode from below) low h =
    rw (actor_again (Settler centre) low, round_again round h.0, mode_again mode tt, version_again from h.1, version_again below h.2) refl
settler_line_again centre (Taken place round other part items) low h =
    rw (actor_again (Settler centre) low, place_at_again place h.0, round_again round h.1, node_at_again other part h.2, items_again items h.3) refl
settler_line_again centre (Settled values) low h = rw (actor_again (Settler centre) low, values_again values h) refl
settler_line_again centre (Resulted place session seq gate reply) low h =
    rw (
      actor_again (Settler centre) low,
      place_at_again place h.0,
      session_again session seq h.1,
      seq_again session seq h.1,
      gate_again gate h.2,
      reply_again reply h.3,
    ) refl
settler_line_again centre Stopped low h = rw (actor_again (Settler centre) low) refl
settler_line_again centre (Began session seq start) low h = absurd h
settler_line_again centre (Stored place version items) low h = absurd h
settler_line_again centre (Acked place version other part) low h = absurd h
settler_line_again centre (Published time vector) low h = absurd h
settler_line_again centre (Answered place settler round items) low h = absurd h
settler_line_again centre (Replied place session seq reply) low h = absurd h
settler_line_again centre (Told place session seq) low h = absurd h

-- the groups of an entry with a line are read as that entry
line_again : (actor : Actor) (kind : Kind) → IsActor actor → IsBy actor kind → entry_of_groups (kind_groups (actor_text actor) kind) ≡ Some (record { actor = actor; kind = kind })
line_again (Gate gate) kind low h = gate_line_again gate kind low h
line_again (Node centre part) kind low h = node_line_again centre part kind low h
line_again (Settler centre) kind low h = settler_line_again centre kind low h

-- ---- each word can stand in a group

-- a word of the grammar
plain : {word : List ℕ} → lacks 32 word ≡ true → lacks 10 word ≡ true → is_separator word ≡ false → IsGrouped word
plain space line apart = record { space = space; line = line; apart = apart }

abbrev Grouped : List (List (List ℕ)) → Type 0
Grouped groups = AllByRecursion (AllByRecursion IsGrouped) groups

placed_grouped : (place : Place) (words : List (List ℕ)) → IsPlace place → AllByRecursion IsGrouped words → AllByRecursion IsGrouped (placed place words)
placed_grouped place words h each = (number_grouped place.entry h.held, (number_grouped place.letter (omega (arith, h.digit)), each))

commanded_grouped : (session seq : ℕ) (words : List (List ℕ)) → IsCommand session seq → AllByRecursion IsGrouped words → AllByRecursion IsGrouped (commanded session seq words)
commanded_grouped session seq words h each = (number_grouped session (omega (arith, h.held)), (number_grouped seq (omega (arith, h.few)), each))

items_grouped : (items : List Item) → AllByRecursion IsItem items → Grouped (map item_words items)
items_grouped items h = all_of_texts (AllByRecursion IsGrouped) IsItem item_words item_grouped items h

round_grouped : (round : ℕ) → IsRound round → IsGrouped (decimal round)
round_grouped round h = number_grouped round h.held

parts_each : (front : List (List ℕ)) (parts : List Part) → AllByRecursion IsGrouped front → AllByRecursion IsPart parts → Grouped (parts_groups front parts)
parts_each front [] first h = (first, tt)
parts_each front (part ∷ parts) first h = (all_appended IsGrouped front (part_words part) first (part_grouped part h.0), parts_grouped parts h.1)

began_grouped : (actor : List ℕ) (session seq : ℕ) (start : Start) → IsGrouped actor → IsCommand session seq → IsStart start → Grouped (began_groups actor session seq start)
began_grouped actor session seq (Draw version []) here h s = absurd s.1
began_grouped actor session seq (Draw version (part ∷ parts)) here h s =
    parts_each (actor ∷ codes "began" ∷ commanded session seq (codes "do" ∷ version_text version ∷ [])) (part ∷ parts)
    (here, (plain refl refl refl, commanded_grouped session seq (codes "do" ∷ version_text version ∷ []) h (plain refl refl refl, (version_grouped version s.0, tt)))) s.1
began_grouped actor session seq (Look floor keys) here h s = (
  (
    here,
    (
      plain refl refl refl,
      commanded_grouped session seq (codes "snap" ∷ version_text floor ∷ keys) h
          (plain refl refl refl, (version_grouped floor s.0, keys_grouped keys s.1.each)),
    ),
  ),
  tt,
)

gate_kind_grouped : (actor : List ℕ) (kind : Kind) → IsGrouped actor → IsOfGate kind → Grouped (kind_groups actor kind)
gate_kind_grouped actor (Began session seq start) here h = began_grouped actor session seq start here h.0 h.1
gate_kind_grouped actor (Acked place version centre part) here h = (
  (
    here,
    (
      plain refl refl refl,
      placed_grouped place (version_text version ∷ node_text centre part ∷ []) h.0
          (version_grouped version h.1, (node_grouped centre part h.2, tt)),
    ),
  ),
  tt,
)
gate_kind_grouped actor (Published time vector) here h = ((here, (plain refl refl refl, (number_grouped time (omega (arith, h.0)), tt))), vector_grouped vector h.1)
gate_kind_grouped actor (Heard place vector) here h = ((here, (plain refl refl refl, placed_grouped place [] h.0 tt)), vector_grouped vector h.1)
gate_kind_grouped actor (Replied place session seq reply) here h = (
  (
    here,
    (
      plain refl refl refl,
      placed_grouped place (commanded session seq (reply_words reply)) h.0
          (commanded_grouped session seq (reply_words reply) h.1 (reply_grouped reply h.2)),
    ),
  ),
  tt,
)
gate_kind_grouped actor (Told place session seq) here h =
    ((here, (plain refl refl refl, placed_grouped place (commanded session seq []) h.0 (commanded_grouped session seq [] h.1 tt))), tt)
gate_kind_grouped actor Stopped here h = ((here, (plain refl refl refl, tt)), tt)
gate_kind_grouped actor (Stored place version items) here h = absurd h
gate_kind_grouped actor (Asked round mode from below) here h = absurd h
gate_kind_grouped actor (Answered place settler round items) here h = absurd h
gate_kind_grouped actor (Taken place round centre part items) here h = absurd h
gate_kind_grouped actor (Settled values) here h = absurd h
gate_kind_grouped actor (Resulted place session seq other reply) here h = absurd h

node_kind_grouped : (actor : List ℕ) (kind : Kind) → IsGrouped actor → IsOfNode kind → Grouped (kind_groups actor kind)
node_kind_grouped actor (Stored place version items) here h =
    ((here, (plain refl refl refl, placed_grouped place (version_text version ∷ []) h.0 (version_grouped version h.1, tt))), items_grouped items h.2)
node_kind_grouped actor (Answered place settler round items) here h = (
  (
    here,
    (
      plain refl refl refl,
      placed_grouped place (settler_text settler ∷ decimal round ∷ []) h.0
          (settler_grouped settler h.1, (round_grouped round h.2, tt)),
    ),
  ),
  items_grouped items h.3,
)
node_kind_grouped actor Stopped here h = ((here, (plain refl refl refl, tt)), tt)
node_kind_grouped actor (Began session seq start) here h = absurd h
node_kind_grouped actor (Acked place version other one) here h = absurd h
node_kind_grouped actor (Published time vector) here h = absurd h
node_kind_grouped actor (Heard place vector) here h = absurd h
node_kind_grouped actor (Asked round mode from below) here h = absurd h
node_kind_grouped actor (Taken place round other one items) here h = absurd h
node_kind_grouped actor (Settled values) here h = absurd h
node_kind_grouped actor (Resulted place session seq gate reply) here h = absurd h
node_kind_grouped actor (Replied place session seq reply) here h = absurd h
node_kind_grouped actor (Told place session seq) here h = absurd h

settler_kind_grouped : (actor : List ℕ) (kind : Kind) → IsGrouped actor → IsOfSettler kind → Grouped (kind_groups actor kind)
settler_kind_grouped actor (Heard place vector) here h = ((here, (plain refl refl refl, placed_grouped place [] h.0 tt)), vector_grouped vector h.1)
settler_kind_grouped actor (Asked round mode from below) here h =
    ((here, (plain refl refl refl, (round_grouped round h.0, (mode_grouped mode, (version_grouped from h.1, (version_grouped below h.2, tt)))))), tt)
settler_kind_grouped actor (Taken place round centre part items) here h = (
  (
    here,
    (
      plain refl refl refl,
      placed_grouped place (decimal round ∷ node_text centre part ∷ []) h.0
          (round_grouped round h.1, (node_grouped centre part h.2, tt)),
    ),
  ),
  items_grouped items h.3,
)
settler_kind_grouped actor (Settled values) here h = ((here, (plain refl refl refl, tt)), values_grouped values h)
settler_kind_grouped actor (Resulted place session seq gate reply) here h = (
  (
    here,
    (
      plain refl refl refl,
      placed_grouped place (commanded session seq (gate_text gate ∷ reply_words reply)) h.0
          (commanded_grouped session seq (gate_text gate ∷ reply_words reply) h.1 (gate_grouped gate h.2, reply_grouped reply h.3)),
    ),
  ),
  tt,
)
settler_kind_grouped actor Stopped here h = ((here, (plain refl refl refl, tt)), tt)
settler_kind_grouped actor (Began session seq start) here h = absurd h
settler_kind_grouped actor (Stored place version items) here h = absurd h
settler_kind_grouped actor (Acked place version other part) here h = absurd h
settler_kind_grouped actor (Published time vector) here h = absurd h
settler_kind_grouped actor (Answered place settler round items) here h = absurd h
settler_kind_grouped actor (Replied place session seq reply) here h = absurd h
settler_kind_grouped actor (Told place session seq) here h = absurd h

by_grouped : (actor : Actor) (word : List ℕ) (kind : Kind) → IsGrouped word → IsBy actor kind → Grouped (kind_groups word kind)
by_grouped (Gate gate) word kind here h = gate_kind_grouped word kind here h
by_grouped (Node centre part) word kind here h = node_kind_grouped word kind here h
by_grouped (Settler centre) word kind here h = settler_kind_grouped word kind here h

entry_grouped : (entry : Entry) → HasLine entry → Grouped (entry_groups entry)
entry_grouped entry h = by_grouped entry.actor (actor_text entry.actor) entry.kind (actor_grouped entry.actor h.actor) h.kind

-- ---- a line

-- the first group of an entry has a word
abbrev HasGroup : List (List (List ℕ)) → Type 0
HasGroup groups = (first : List (List ℕ)) × (others : List (List (List ℕ))) × (groups ≡ first ∷ others) × HasFirst first

parts_first : (word : List ℕ) (words : List (List ℕ)) (parts : List Part) → HasGroup (parts_groups (word ∷ words) parts)
parts_first word words [] = (word ∷ words, [], refl, (word, words, refl))
parts_first word words (part ∷ parts) = ((word ∷ words) ++ part_words part, map part_words parts, refl, (word, words ++ part_words part, refl))

kind_first : (actor : List ℕ) (kind : Kind) → HasGroup (kind_groups actor kind)
kind_first actor (Began session seq (Draw version transaction)) = parts_first actor (codes "began" ∷ commanded session seq (codes "do" ∷ version_text version ∷ [])) transaction
kind_first actor (Began session seq (Look floor keys)) = (_, [], refl, (actor, _, refl))
kind_first actor (Stored place version items) = (_, map item_words items, refl, (actor, _, refl))
kind_first actor (Acked place version centre part) = (_, [], refl, (actor, _, refl))
kind_first actor (Published time vector) = (_, map marks_words vector, refl, (actor, _, refl))
kind_first actor (Heard place vector) = (_, map marks_words vector, refl, (actor, _, refl))
kind_first actor (Asked round mode from below) = (_, [], refl, (actor, _, refl))
kind_first actor (Answered place settler round items) = (_, map item_words items, refl, (actor, _, refl))
kind_first actor (Taken place round centre part items) = (_, map item_words items, refl, (actor, _, refl))
kind_first actor (Settled values) = (_, map valued_words values, refl, (actor, _, refl))
kind_first actor (Resulted place session seq gate reply) = (_, [], refl, (actor, _, refl))
kind_first actor (Replied place session seq reply) = (_, [], refl, (actor, _, refl))
kind_first actor (Told place session seq) = (_, [], refl, (actor, _, refl))
kind_first actor Stopped = (_, [], refl, (actor, _, refl))

regrouped : (groups : List (List (List ℕ))) → HasGroup groups → Grouped groups → groups_of (groups_text groups) ≡ groups
regrouped groups f each = rw f.2 (groups_again f.0 f.1 f.3 (rw f.2 at each))

-- the line of an entry that has one is read as that entry
pub entry_again : (entry : Entry) → HasLine entry → entry_of (entry_text entry) ≡ Some entry
entry_again entry h =
    ap entry_of_groups (regrouped (entry_groups entry) (kind_first (actor_text entry.actor) entry.kind) (entry_grouped entry h))
    ∙ line_again entry.actor entry.kind h.actor h.kind

-- the line of an entry has no line feed in it
pub entry_lacks : (entry : Entry) → HasLine entry → lacks 10 (entry_text entry) ≡ true
entry_lacks entry h = groups_lack (entry_groups entry) (entry_grouped entry h)
