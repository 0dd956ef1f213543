-- The line of an entry is the word of its actor, a space, and the pieces that are written behind it.
use Rattle.std.proofs.Common.{◌≡◌, ℕ, List, [], ◌∷◌, ◌++◌, map, refl, ap, subst, ◌∙◌, append_assoc, codes}
use Rattle.std.specs.List.{flat_map}
use Rattle.std.specs.Fmt.{decimal}
use Rattle.ov_base.specs.Groups.{groups_text}
use Rattle.ov_base.specs.Split.{joined}
use Rattle.ov_base.specs.Version.{version_text}
use Rattle.ov_base.proofs.GroupTexts.{groups_behind}
use Rattle.ov_base.proofs.Joins.{HasFirst, joined_behind, joined_flat}
use Rattle.ov_event.specs.ItemWords.{item_words, items_text}
use Rattle.ov_event.specs.declared.entry.Entry.{Entry}
use Rattle.ov_event.specs.declared.kind.Kind.{Kind}
use Rattle.ov_event.specs.declared.kind.Kind.TheVariants.{Began, Stored, Acked, Published, Heard, Asked, Answered, Taken, Settled, Resulted, Replied, Told, Stopped}
use Rattle.ov_event.specs.declared.start.Start.TheVariants.{Draw, Look}
use Rattle.ov_functor.specs.Reply.{reply_text}
use Rattle.ov_functor.specs.ReplyWords.{reply_words}
use Rattle.ov_functor.specs.Words.{further_text, part_text, part_words, parts_text}
use Rattle.ov_functor.specs.declared.item.Item.{Item}
use Rattle.ov_functor.specs.declared.item.Valued.{Valued}
use Rattle.ov_functor.specs.declared.part.Part.{Part}
use Rattle.ov_functor.specs.declared.reply.Reply.{Reply}
use Rattle.ov_functor.proofs.PartWords.{words_some}
use Rattle.ov_functor.proofs.ReplyWords.{reply_joined, reply_some}
use Rattle.ov_gossip.specs.declared.marks.Marks.{Marks}
use Rattle.ov_topology.specs.Actor.{actor_text, gate_text, node_text, settler_text}
use Rattle.ov_topology.specs.declared.actor.Actor.{Actor}
use Rattle.ov_topology.specs.declared.actor.Actor.TheVariants.{Gate, Node, Settler}
use Rattle.ov_journal.specs.Line.{HasLine, IsBy, IsOfGate, IsOfNode, IsOfSettler, commanded, entry_text, kind_groups, marks_words, parts_groups, placed, valued_words}
use Rattle.ov_journal.specs.Text.{key_text, kind_text, vector_text, values_text}

-- words, and behind them those of a part or of a reply
words_behind : (front others : List (List ℕ)) → HasFirst front → HasFirst others → joined 32 (front ++ others) ≡ joined 32 front ++ 32 ∷ joined 32 others
words_behind front others f o = rw (f.2, o.2) (joined_behind 32 f.0 f.1 o.0 o.1)

-- groups behind the first one
items_behind : (group : List (List ℕ)) → HasFirst group → (items : List Item) → groups_text (group ∷ map item_words items) ≡ joined 32 group ++ items_text items
items_behind group first items = groups_behind item_words (λ item. (_, _, refl)) group first items

vector_behind : (group : List (List ℕ)) → HasFirst group → (vector : List Marks) → groups_text (group ∷ map marks_words vector) ≡ joined 32 group ++ vector_text vector
vector_behind group first vector = groups_behind marks_words (λ marks. (_, _, refl)) group first vector

values_behind : (group : List (List ℕ)) → HasFirst group → (values : List Valued) → groups_text (group ∷ map valued_words values) ≡ joined 32 group ++ values_text values
values_behind group first values = groups_behind valued_words (λ valued. (_, _, refl)) group first values

-- the parts of a transaction behind words
parts_behind : (front : List (List ℕ)) → HasFirst front → (part : Part) (parts : List Part)
    → groups_text (parts_groups front (part ∷ parts)) ≡ joined 32 front ++ 32 ∷ parts_text (part ∷ parts)
parts_behind front f part parts =
    groups_behind part_words words_some (front ++ part_words part) (f.0, f.1 ++ part_words part, ap (λ (t : List (List ℕ)). t ++ part_words part) f.2) parts
    ∙ ap (λ (t : List ℕ). t ++ flat_map further_text parts) (words_behind front (part_words part) f (words_some part))
    ∙ append_assoc (joined 32 front) (32 ∷ part_text part) (flat_map further_text parts)

-- a reply behind words
reply_behind : (front : List (List ℕ)) → HasFirst front → (reply : Reply) → joined 32 (front ++ reply_words reply) ≡ joined 32 front ++ 32 ∷ reply_text reply
reply_behind front f reply = words_behind front (reply_words reply) f (reply_some reply) ∙ ap (λ (t : List ℕ). joined 32 front ++ 32 ∷ t) (reply_joined reply)

-- a snapshot, whose keys stand behind spaces
looked : (actor session seq floor : List ℕ) (keys : List (List ℕ))
    → joined 32 (actor ∷ codes "began" ∷ session ∷ seq ∷ codes "snap" ∷ floor ∷ keys)
    ≡ actor ++ 32 ∷ (joined 32 (codes "began" ∷ session ∷ seq ∷ []) ++ 32 ∷ (codes "snap " ++ floor ++ flat_map key_text keys))
looked actor session seq floor keys = rw (← joined_flat 32 floor keys) (simp append_assoc)

-- the line of what an actor did, which began no transaction without parts
line_pieces : (actor : List ℕ) (kind : Kind) → ((session seq version : ℕ) → kind ≡ Began session seq (Draw version []) → ⊥)
    → groups_text (kind_groups actor kind) ≡ actor ++ 32 ∷ kind_text kind
line_pieces actor (Began session seq (Draw version [])) f = absurd (f session seq version refl)
line_pieces actor (Began session seq (Draw version (part ∷ parts))) f =
    parts_behind (actor ∷ codes "began" ∷ commanded session seq (codes "do" ∷ version_text version ∷ [])) (actor, _, refl) part parts ∙ simp append_assoc
line_pieces actor (Began session seq (Look floor keys)) f =
    looked actor (decimal session) (decimal seq) (version_text floor) keys
line_pieces actor (Stored place version items) f =
    items_behind (actor ∷ codes "stored" ∷ placed place (version_text version ∷ [])) (actor, _, refl) items ∙ simp append_assoc
line_pieces actor (Acked place version centre part) f = refl
line_pieces actor (Published time vector) f = vector_behind (actor ∷ codes "published" ∷ decimal time ∷ []) (actor, _, refl) vector ∙ simp append_assoc
line_pieces actor (Heard place vector) f = vector_behind (actor ∷ codes "heard" ∷ placed place []) (actor, _, refl) vector ∙ simp append_assoc
line_pieces actor (Asked round mode from below) f = refl
line_pieces actor (Answered place settler round items) f =
    items_behind (actor ∷ codes "answered" ∷ placed place (settler_text settler ∷ decimal round ∷ [])) (actor, _, refl) items ∙ simp append_assoc
line_pieces actor (Taken place round centre part items) f =
    items_behind (actor ∷ codes "taken" ∷ placed place (decimal round ∷ node_text centre part ∷ [])) (actor, _, refl) items ∙ simp append_assoc
line_pieces actor (Settled values) f = values_behind (actor ∷ codes "settled" ∷ []) (actor, _, refl) values ∙ simp append_assoc
line_pieces actor (Resulted place session seq gate reply) f =
    reply_behind (actor ∷ codes "resulted" ∷ placed place (commanded session seq (gate_text gate ∷ []))) (actor, _, refl) reply ∙ simp append_assoc
line_pieces actor (Replied place session seq reply) f =
    reply_behind (actor ∷ codes "replied" ∷ placed place (commanded session seq [])) (actor, _, refl) reply ∙ simp append_assoc
line_pieces actor (Told place session seq) f = refl
line_pieces actor Stopped f = refl

by_parts : (actor : Actor) (kind : Kind) → IsBy actor kind → (session seq version : ℕ) → kind ≡ Began session seq (Draw version []) → ⊥
by_parts (Gate gate) kind h session seq version e = (subst IsOfGate e h).1.1
by_parts (Node centre part) kind h session seq version e = subst IsOfNode e h
by_parts (Settler centre) kind h session seq version e = subst IsOfSettler e h

-- the line of an entry that has one
pub entry_pieces : (entry : Entry) → HasLine entry → entry_text entry ≡ actor_text entry.actor ++ 32 ∷ kind_text entry.kind
entry_pieces entry h = line_pieces (actor_text entry.actor) entry.kind (by_parts entry.actor entry.kind h.kind)
