-- An entry that is read of a line has a line, and it is that line.
use Rattle.std.proofs.Common.{◌≡◌, ℕ, true, List, [], ◌∷◌, map, Option, Some, None, refl, sym, ap, subst, ◌∙◌, codes}
use Rattle.std.specs.List.{AllByRecursion}
use Rattle.std.specs.Str.{bytes_eq}
use Rattle.ov_base.specs.Groups.{groups_of, groups_text}
use Rattle.ov_base.specs.Split.{all_of}
use Rattle.ov_base.specs.Version.{version_text, version_of}
use Rattle.ov_base.proofs.GroupTexts.{groups_takes}
use Rattle.ov_base.proofs.Readers.{bind_some, word_is, chosen, either}
use Rattle.ov_base.proofs.Traverse.{all_of_takes}
use Rattle.ov_base.proofs.Versions.{version_takes}
use Rattle.ov_event.specs.ItemWords.{IsItem, item_words, item_of}
use Rattle.ov_event.specs.declared.entry.Entry.{Entry}
use Rattle.ov_event.specs.declared.kind.Kind.{Kind}
use Rattle.ov_event.specs.declared.kind.Kind.TheVariants.{Began, Stored, Acked, Published, Heard, Asked, Answered, Taken, Settled, Resulted, Replied, Told, Stopped}
use Rattle.ov_event.specs.declared.start.Start.{Start}
use Rattle.ov_event.specs.declared.start.Start.TheVariants.{Draw, Look}
use Rattle.ov_event.proofs.ItemWords.{item_takes}
use Rattle.ov_functor.specs.ReplyWords.{reply_of}
use Rattle.ov_functor.specs.Transaction.{transaction_error, made_by}
use Rattle.ov_functor.specs.Words.{IsPart, IsParts, part_words, part_of, parts_in}
use Rattle.ov_functor.specs.declared.error.TxnError.{TxnError}
use Rattle.ov_functor.specs.declared.part.Part.{Part}
use Rattle.ov_functor.proofs.PartWords.{part_takes}
use Rattle.ov_functor.proofs.PartWordsAgain.{parts_positive}
use Rattle.ov_functor.proofs.ReplyWords.{reply_takes}
use Rattle.ov_topology.specs.Actor.{actor_text, actor_of, gate_of, settler_of, node_at}
use Rattle.ov_topology.specs.Mode.{mode_of}
use Rattle.ov_topology.specs.Place.{place_at}
use Rattle.ov_topology.specs.declared.actor.Actor.{Actor}
use Rattle.ov_topology.specs.declared.actor.Actor.TheVariants.{Gate, Node, Settler}
use Rattle.ov_topology.proofs.Actors.{actor_takes, gate_takes, settler_takes, node_at_takes}
use Rattle.ov_topology.proofs.Modes.{mode_takes}
use Rattle.ov_topology.proofs.Places.{place_at_takes}
use Rattle.ov_journal.specs.Line.{HasLine, IsBy, IsOfGate, IsOfNode, IsOfSettler, IsStart, began_groups, commanded, entry_groups, entry_text, kind_groups}
use Rattle.ov_journal.specs.Read.{session_of, seq_of, round_of, time_of, vector_of, valued_of, keys_of, start_with, draw_of, look_of, start_of, alone, began_of, stored_of, acked_of, published_of, heard_of, asked_of, answered_of, taken_of, settled_of, resulted_of, replied_of, told_of, stopped_of, gate_kind_of, node_kind_of, settler_kind_of, kind_of, actor_entry_of, entry_of_groups, entry_of}
use Rattle.ov_journal.proofs.LineLists.{command_takes, round_takes, time_takes, vector_takes, values_takes, keys_takes}

-- ---- beginnings

-- the start is in form, and behind an actor these are the groups of its beginning
abbrev Starts : List ℕ → List ℕ → List (List ℕ) → List (List (List ℕ)) → Start → Type 0
Starts word version words groups start =
    IsStart start × ((actor : List ℕ) (session seq : ℕ) → (actor ∷ codes "began" ∷ commanded session seq (word ∷ version ∷ words)) ∷ groups ≡ began_groups actor session seq start)

-- the parts are a transaction, and it is made of them
made_takes : (version : ℕ) (parts : List Part) (o : Option TxnError) (start : Start) → transaction_error parts ≡ o → start_with version (made_by o parts) ≡ Some start
    → (transaction_error parts ≡ None) × (Draw version parts ≡ start)
made_takes version parts None start is e = (is, cc)
made_takes version parts (Some error) start is e = absurd cc

drawn : (version : ℕ) (first : List (List ℕ)) (groups : List (List (List ℕ))) (parts : List Part)
    → first ∷ groups ≡ map part_words parts → AllByRecursion IsPart parts
    → IsParts parts × ((actor : List ℕ) (session seq : ℕ)
    → (actor ∷ codes "began" ∷ commanded session seq (codes "do" ∷ version_text version ∷ first)) ∷ groups ≡ began_groups actor session seq (Draw version parts))
drawn version first groups [] e h = absurd cc
drawn version first groups (part ∷ parts) e h =
    let one : first ≡ part_words part = cc in
    let others : groups ≡ map part_words parts = cc in
    (h, λ actor session seq. rw (one, others) refl)

draw_takes : (version : List ℕ) (first : List (List ℕ)) (groups : List (List (List ℕ))) (start : Start) → draw_of version (first ∷ groups) ≡ Some start
    → Starts (codes "do") version first groups start
draw_takes version first groups start e =
    bind_some (version_of version) _ start e λ v read rest.
    bind_some (parts_in (first ∷ groups)) _ start rest λ parts each last.
    let t = all_of_takes part_of IsPart part_words part_takes (first ∷ groups) parts each in
    let m = made_takes v parts (transaction_error parts) start refl last in
    let n = version_takes version v read in
    let d = drawn v first groups parts t.1 t.0 in
    subst (Starts (codes "do") version first groups) m.1
    ((n.0, d.0, record { form = m.0; positive = parts_positive parts d.0 }), λ actor session seq. rw n.1 (d.1 actor session seq))

look_takes : (floor : List ℕ) (words : List (List ℕ)) (groups : List (List (List ℕ))) (start : Start) → look_of floor words groups ≡ Some start
    → Starts (codes "snap") floor words groups start
look_takes floor words (group ∷ groups) start e = absurd cc
look_takes floor words [] start e =
    bind_some (version_of floor) _ start e λ f read rest.
    bind_some (keys_of words) _ start rest λ keys read2 last.
    let n = version_takes floor f read in
    let k = keys_takes words keys read2 in
    let q : ◌≡◌ {A = Start} (Look f keys) start = cc in
    subst (Starts (codes "snap") floor words []) q ((n.0, k.0), λ actor session seq. rw (n.1, k.1) refl)

start_takes : (word version : List ℕ) (words : List (List ℕ)) (groups : List (List (List ℕ))) (start : Start) → start_of word version words groups ≡ Some start
    → Starts word version words groups start
start_takes word version words groups start e =
    let goal = λ (w : List ℕ). Starts w version words groups start in
    either (bytes_eq word (codes "do")) (draw_of version (words ∷ groups)) _ start e
    (λ same h. subst goal (sym (word_is word (codes "do") same)) (draw_takes version words groups start h))
    λ e2. let c = chosen (bytes_eq word (codes "snap")) (look_of version words groups) start e2 in
    subst goal (sym (word_is word (codes "snap") c.0)) (look_takes version words groups start c.1)

-- ---- what an actor did

-- the kind is in form, and behind an actor these are its groups
abbrev Spells : (Kind → Type 0) → List ℕ → List (List ℕ) → List (List (List ℕ)) → Kind → Type 0
Spells Fits word words groups kind = Fits kind × ((actor : List ℕ) → (actor ∷ word ∷ words) ∷ groups ≡ kind_groups actor kind)

began_takes : (words : List (List ℕ)) (groups : List (List (List ℕ))) (kind : Kind) → began_of words groups ≡ Some kind → Spells IsOfGate (codes "began") words groups kind
unfolding began_of
began_takes [] groups kind e = absurd cc
began_takes (session ∷ []) groups kind e = absurd cc
began_takes (session ∷ seq ∷ []) groups kind e = absurd cc
began_takes (session ∷ seq ∷ word ∷ []) groups kind e = absurd cc
began_takes (session ∷ seq ∷ word ∷ version ∷ words) groups kind e =
    bind_some (session_of session) _ kind e λ s read rest.
    bind_some (seq_of seq) _ kind rest λ c read2 rest2.
    bind_some (start_of word version words groups) _ kind rest2 λ start read3 last.
    let n = command_takes session seq s c read read2 in
    let t = start_takes word version words groups start read3 in
    let q : ◌≡◌ {A = Kind} (Began s c start) kind = cc in
    subst (Spells IsOfGate (codes "began") (session ∷ seq ∷ word ∷ version ∷ words) groups) q ((n.fits, t.0), λ actor. rw (n.one, n.two) (t.1 actor s c))

items_takes : (groups : List (List (List ℕ))) (items : _) → all_of item_of groups ≡ Some items → AllByRecursion IsItem items × (groups ≡ map item_words items)
items_takes groups items e = all_of_takes item_of IsItem item_words item_takes groups items e

stored_takes : (words : List (List ℕ)) (groups : List (List (List ℕ))) (kind : Kind) → stored_of words groups ≡ Some kind → Spells IsOfNode (codes "stored") words groups kind
unfolding stored_of
stored_takes [] groups kind e = absurd cc
stored_takes (entry ∷ []) groups kind e = absurd cc
stored_takes (entry ∷ letter ∷ []) groups kind e = absurd cc
stored_takes (entry ∷ letter ∷ version ∷ []) groups kind e =
    bind_some (place_at entry letter) _ kind e λ place read rest.
    bind_some (version_of version) _ kind rest λ v read2 rest2.
    bind_some (all_of item_of groups) _ kind rest2 λ items read3 last.
    let p = place_at_takes entry letter place read in
    let n = version_takes version v read2 in
    let t = items_takes groups items read3 in
    let q : ◌≡◌ {A = Kind} (Stored place v items) kind = cc in
    subst (Spells IsOfNode (codes "stored") (entry ∷ letter ∷ version ∷ []) groups) q ((p.0, n.0, t.0), λ actor. rw (p.1, p.2, n.1, t.1) refl)
stored_takes (entry ∷ letter ∷ version ∷ more ∷ words) groups kind e = absurd cc

acked_takes : (words : List (List ℕ)) (kind : Kind) → acked_of words ≡ Some kind → Spells IsOfGate (codes "acked") words [] kind
unfolding acked_of
acked_takes [] kind e = absurd cc
acked_takes (entry ∷ []) kind e = absurd cc
acked_takes (entry ∷ letter ∷ []) kind e = absurd cc
acked_takes (entry ∷ letter ∷ version ∷ []) kind e = absurd cc
acked_takes (entry ∷ letter ∷ version ∷ node ∷ []) kind e =
    bind_some (place_at entry letter) _ kind e λ place read rest.
    bind_some (version_of version) _ kind rest λ v read2 rest2.
    bind_some (node_at node) _ kind rest2 λ at read3 last.
    let p = place_at_takes entry letter place read in
    let n = version_takes version v read2 in
    let t = node_at_takes node at read3 in
    let q : ◌≡◌ {A = Kind} (Acked place v at.0 at.1) kind = cc in
    subst (Spells IsOfGate (codes "acked") (entry ∷ letter ∷ version ∷ node ∷ []) []) q ((p.0, n.0, t.0), λ actor. rw (p.1, p.2, n.1, t.1) refl)
acked_takes (entry ∷ letter ∷ version ∷ node ∷ more ∷ words) kind e = absurd cc

published_takes : (words : List (List ℕ)) (groups : List (List (List ℕ))) (kind : Kind) → published_of words groups ≡ Some kind → Spells IsOfGate (codes "published") words groups kind
unfolding published_of
published_takes [] groups kind e = absurd cc
published_takes (time ∷ []) groups kind e =
    bind_some (time_of time) _ kind e λ t read rest.
    bind_some (vector_of groups) _ kind rest λ vector read2 last.
    let n = time_takes time t read in
    let v = vector_takes groups vector read2 in
    let q : ◌≡◌ {A = Kind} (Published t vector) kind = cc in
    subst (Spells IsOfGate (codes "published") (time ∷ []) groups) q ((n.0, v.0), λ actor. rw (n.1, v.1) refl)
published_takes (time ∷ more ∷ words) groups kind e = absurd cc

-- gateways and settlers hear alike
heard_takes : (Fits : Kind → Type 0) → ((place : _) (vector : _) → IsOfGate (Heard place vector) → Fits (Heard place vector))
    → (words : List (List ℕ)) (groups : List (List (List ℕ))) (kind : Kind) → heard_of words groups ≡ Some kind → Spells Fits (codes "heard") words groups kind
unfolding heard_of
heard_takes Fits fits [] groups kind e = absurd cc
heard_takes Fits fits (entry ∷ []) groups kind e = absurd cc
heard_takes Fits fits (entry ∷ letter ∷ []) groups kind e =
    bind_some (place_at entry letter) _ kind e λ place read rest.
    bind_some (vector_of groups) _ kind rest λ vector read2 last.
    let p = place_at_takes entry letter place read in
    let v = vector_takes groups vector read2 in
    let q : ◌≡◌ {A = Kind} (Heard place vector) kind = cc in
    subst (Spells Fits (codes "heard") (entry ∷ letter ∷ []) groups) q (fits place vector (p.0, v.0), λ actor. rw (p.1, p.2, v.1) refl)
heard_takes Fits fits (entry ∷ letter ∷ more ∷ words) groups kind e = absurd cc

asked_takes : (words : List (List ℕ)) (kind : Kind) → asked_of words ≡ Some kind → Spells IsOfSettler (codes "asked") words [] kind
unfolding asked_of
asked_takes [] kind e = absurd cc
asked_takes (round ∷ []) kind e = absurd cc
asked_takes (round ∷ mode ∷ []) kind e = absurd cc
asked_takes (round ∷ mode ∷ from ∷ []) kind e = absurd cc
asked_takes (round ∷ mode ∷ from ∷ below ∷ []) kind e =
    bind_some (round_of round) _ kind e λ r read rest.
    bind_some (mode_of mode) _ kind rest λ m read2 rest2.
    bind_some (version_of from) _ kind rest2 λ f read3 rest3.
    bind_some (version_of below) _ kind rest3 λ b read4 last.
    let n = round_takes round r read in
    let w = mode_takes mode m read2 in
    let first = version_takes from f read3 in
    let second = version_takes below b read4 in
    let q : ◌≡◌ {A = Kind} (Asked r m f b) kind = cc in
    subst (Spells IsOfSettler (codes "asked") (round ∷ mode ∷ from ∷ below ∷ []) []) q ((n.0, first.0, second.0), λ actor. rw (n.1, w.1, first.1, second.1) refl)
asked_takes (round ∷ mode ∷ from ∷ below ∷ more ∷ words) kind e = absurd cc

answered_takes : (words : List (List ℕ)) (groups : List (List (List ℕ))) (kind : Kind) → answered_of words groups ≡ Some kind → Spells IsOfNode (codes "answered") words groups kind
unfolding answered_of
answered_takes [] groups kind e = absurd cc
answered_takes (entry ∷ []) groups kind e = absurd cc
answered_takes (entry ∷ letter ∷ []) groups kind e = absurd cc
answered_takes (entry ∷ letter ∷ settler ∷ []) groups kind e = absurd cc
answered_takes (entry ∷ letter ∷ settler ∷ round ∷ []) groups kind e =
    bind_some (place_at entry letter) _ kind e λ place read rest.
    bind_some (settler_of settler) _ kind rest λ s read2 rest2.
    bind_some (round_of round) _ kind rest2 λ r read3 rest3.
    bind_some (all_of item_of groups) _ kind rest3 λ items read4 last.
    let p = place_at_takes entry letter place read in
    let w = settler_takes settler s read2 in
    let n = round_takes round r read3 in
    let t = items_takes groups items read4 in
    let q : ◌≡◌ {A = Kind} (Answered place s r items) kind = cc in
    subst (Spells IsOfNode (codes "answered") (entry ∷ letter ∷ settler ∷ round ∷ []) groups) q ((p.0, w.0, n.0, t.0), λ actor. rw (p.1, p.2, w.1, n.1, t.1) refl)
answered_takes (entry ∷ letter ∷ settler ∷ round ∷ more ∷ words) groups kind e = absurd cc

taken_takes : (words : List (List ℕ)) (groups : List (List (List ℕ))) (kind : Kind) → taken_of words groups ≡ Some kind → Spells IsOfSettler (codes "taken") words groups kind
unfolding taken_of
taken_takes [] groups kind e = absurd cc
taken_takes (entry ∷ []) groups kind e = absurd cc
taken_takes (entry ∷ letter ∷ []) groups kind e = absurd cc
taken_takes (entry ∷ letter ∷ round ∷ []) groups kind e = absurd cc
taken_takes (entry ∷ letter ∷ round ∷ node ∷ []) groups kind e =
    bind_some (place_at entry letter) _ kind e λ place read rest.
    bind_some (round_of round) _ kind rest λ r read2 rest2.
    bind_some (node_at node) _ kind rest2 λ at read3 rest3.
    bind_some (all_of item_of groups) _ kind rest3 λ items read4 last.
    let p = place_at_takes entry letter place read in
    let n = round_takes round r read2 in
    let w = node_at_takes node at read3 in
    let t = items_takes groups items read4 in
    let q : ◌≡◌ {A = Kind} (Taken place r at.0 at.1 items) kind = cc in
    subst (Spells IsOfSettler (codes "taken") (entry ∷ letter ∷ round ∷ node ∷ []) groups) q ((p.0, n.0, w.0, t.0), λ actor. rw (p.1, p.2, n.1, w.1, t.1) refl)
taken_takes (entry ∷ letter ∷ round ∷ node ∷ more ∷ words) groups kind e = absurd cc

settled_takes : (words : List (List ℕ)) (groups : List (List (List ℕ))) (kind : Kind) → settled_of words groups ≡ Some kind → Spells IsOfSettler (codes "settled") words groups kind
unfolding settled_of
settled_takes [] groups kind e =
    bind_some (all_of valued_of groups) _ kind e λ values read last.
    let t = values_takes groups values read in
    let q : ◌≡◌ {A = Kind} (Settled values) kind = cc in
    subst (Spells IsOfSettler (codes "settled") [] groups) q (t.0, λ actor. rw t.1 refl)
settled_takes (word ∷ words) groups kind e = absurd cc

resulted_takes : (words : List (List ℕ)) (kind : Kind) → resulted_of words ≡ Some kind → Spells IsOfSettler (codes "resulted") words [] kind
unfolding resulted_of
resulted_takes [] kind e = absurd cc
resulted_takes (entry ∷ []) kind e = absurd cc
resulted_takes (entry ∷ letter ∷ []) kind e = absurd cc
resulted_takes (entry ∷ letter ∷ session ∷ []) kind e = absurd cc
resulted_takes (entry ∷ letter ∷ session ∷ seq ∷ []) kind e = absurd cc
resulted_takes (entry ∷ letter ∷ session ∷ seq ∷ gate ∷ words) kind e =
    bind_some (place_at entry letter) _ kind e λ place read rest.
    bind_some (session_of session) _ kind rest λ s read2 rest2.
    bind_some (seq_of seq) _ kind rest2 λ c read3 rest3.
    bind_some (gate_of gate) _ kind rest3 λ g read4 rest4.
    bind_some (reply_of words) _ kind rest4 λ reply read5 last.
    let p = place_at_takes entry letter place read in
    let n = command_takes session seq s c read2 read3 in
    let w = gate_takes gate g read4 in
    let t = reply_takes words reply read5 in
    let q : ◌≡◌ {A = Kind} (Resulted place s c g reply) kind = cc in
    subst (Spells IsOfSettler (codes "resulted") (entry ∷ letter ∷ session ∷ seq ∷ gate ∷ words) []) q
    ((p.0, n.fits, w.0, t.0), λ actor. rw (p.1, p.2, n.one, n.two, w.1, t.1) refl)

replied_takes : (words : List (List ℕ)) (kind : Kind) → replied_of words ≡ Some kind → Spells IsOfGate (codes "replied") words [] kind
unfolding replied_of
replied_takes [] kind e = absurd cc
replied_takes (entry ∷ []) kind e = absurd cc
replied_takes (entry ∷ letter ∷ []) kind e = absurd cc
replied_takes (entry ∷ letter ∷ session ∷ []) kind e = absurd cc
replied_takes (entry ∷ letter ∷ session ∷ seq ∷ words) kind e =
    bind_some (place_at entry letter) _ kind e λ place read rest.
    bind_some (session_of session) _ kind rest λ s read2 rest2.
    bind_some (seq_of seq) _ kind rest2 λ c read3 rest3.
    bind_some (reply_of words) _ kind rest3 λ reply read4 last.
    let p = place_at_takes entry letter place read in
    let n = command_takes session seq s c read2 read3 in
    let t = reply_takes words reply read4 in
    let q : ◌≡◌ {A = Kind} (Replied place s c reply) kind = cc in
    subst (Spells IsOfGate (codes "replied") (entry ∷ letter ∷ session ∷ seq ∷ words) []) q ((p.0, n.fits, t.0), λ actor. rw (p.1, p.2, n.one, n.two, t.1) refl)

told_takes : (words : List (List ℕ)) (kind : Kind) → told_of words ≡ Some kind → Spells IsOfGate (codes "told") words [] kind
unfolding told_of
told_takes [] kind e = absurd cc
told_takes (entry ∷ []) kind e = absurd cc
told_takes (entry ∷ letter ∷ []) kind e = absurd cc
told_takes (entry ∷ letter ∷ session ∷ []) kind e = absurd cc
told_takes (entry ∷ letter ∷ session ∷ seq ∷ []) kind e =
    bind_some (place_at entry letter) _ kind e λ place read rest.
    bind_some (session_of session) _ kind rest λ s read2 rest2.
    bind_some (seq_of seq) _ kind rest2 λ c read3 last.
    let p = place_at_takes entry letter place read in
    let n = command_takes session seq s c read2 read3 in
    let q : ◌≡◌ {A = Kind} (Told place s c) kind = cc in
    subst (Spells IsOfGate (codes "told") (entry ∷ letter ∷ session ∷ seq ∷ []) []) q ((p.0, n.fits), λ actor. rw (p.1, p.2, n.one, n.two) refl)
told_takes (entry ∷ letter ∷ session ∷ seq ∷ more ∷ words) kind e = absurd cc

-- each actor stops alike
stopped_takes : (Fits : Kind → Type 0) → Fits Stopped → (words : List (List ℕ)) (kind : Kind) → stopped_of words ≡ Some kind → Spells Fits (codes "stopped") words [] kind
unfolding stopped_of
stopped_takes Fits fits [] kind e =
    let q : ◌≡◌ {A = Kind} Stopped kind = cc in
    subst (Spells Fits (codes "stopped") [] []) q (fits, λ actor. refl)
stopped_takes Fits fits (word ∷ words) kind e = absurd cc

-- ---- by the word of a kind

-- where no group stands behind what was read
alone_takes : (Fits : Kind → Type 0) (word : List ℕ) (words : List (List ℕ)) (groups : List (List (List ℕ))) (o : Option Kind) (kind : Kind) → alone groups o ≡ Some kind
    → (o ≡ Some kind → Spells Fits word words [] kind) → Spells Fits word words groups kind
alone_takes Fits word words [] o kind e f = f e
alone_takes Fits word words (group ∷ groups) o kind e f = absurd cc

-- the same behind a word that is tested
behind : (Fits : Kind → Type 0) (word text : List ℕ) (words : List (List ℕ)) (groups : List (List (List ℕ))) (kind : Kind) → bytes_eq word text ≡ true
    → Spells Fits text words groups kind → Spells Fits word words groups kind
behind Fits word text words groups kind t h = subst (λ (w : List ℕ). Spells Fits w words groups kind) (sym (word_is word text t)) h

gate_kind_takes : (word : List ℕ) (words : List (List ℕ)) (groups : List (List (List ℕ))) (kind : Kind) → gate_kind_of word words groups ≡ Some kind → Spells IsOfGate word words groups kind
gate_kind_takes word words groups kind e =
    let read = λ (text : List ℕ). behind IsOfGate word text words groups kind in
    let whole = λ (text : List ℕ). alone_takes IsOfGate text words groups in
    either (bytes_eq word (codes "began")) (began_of words groups) _ kind e
    (λ t h. read (codes "began") t (began_takes words groups kind h)) λ e2.
    either (bytes_eq word (codes "acked")) (alone groups (acked_of words)) _ kind e2
    (λ t h. read (codes "acked") t (whole (codes "acked") (acked_of words) kind h (acked_takes words kind))) λ e3.
    either (bytes_eq word (codes "published")) (published_of words groups) _ kind e3
    (λ t h. read (codes "published") t (published_takes words groups kind h)) λ e4.
    either (bytes_eq word (codes "heard")) (heard_of words groups) _ kind e4
    (λ t h. read (codes "heard") t (heard_takes IsOfGate (λ place vector f. f) words groups kind h)) λ e5.
    either (bytes_eq word (codes "replied")) (alone groups (replied_of words)) _ kind e5
    (λ t h. read (codes "replied") t (whole (codes "replied") (replied_of words) kind h (replied_takes words kind))) λ e6.
    either (bytes_eq word (codes "told")) (alone groups (told_of words)) _ kind e6
    (λ t h. read (codes "told") t (whole (codes "told") (told_of words) kind h (told_takes words kind))) λ e7.
    let c = chosen (bytes_eq word (codes "stopped")) (alone groups (stopped_of words)) kind e7 in
    read (codes "stopped") c.0 (whole (codes "stopped") (stopped_of words) kind c.1 (stopped_takes IsOfGate tt words kind))

node_kind_takes : (word : List ℕ) (words : List (List ℕ)) (groups : List (List (List ℕ))) (kind : Kind) → node_kind_of word words groups ≡ Some kind → Spells IsOfNode word words groups kind
node_kind_takes word words groups kind e =
    let read = λ (text : List ℕ). behind IsOfNode word text words groups kind in
    either (bytes_eq word (codes "stored")) (stored_of words groups) _ kind e
    (λ t h. read (codes "stored") t (stored_takes words groups kind h)) λ e2.
    either (bytes_eq word (codes "answered")) (answered_of words groups) _ kind e2
    (λ t h. read (codes "answered") t (answered_takes words groups kind h)) λ e3.
    let c = chosen (bytes_eq word (codes "stopped")) (alone groups (stopped_of words)) kind e3 in
    read (codes "stopped") c.0 (alone_takes IsOfNode (codes "stopped") words groups (stopped_of words) kind c.1 (stopped_takes IsOfNode tt words kind))

settler_kind_takes : (word : List ℕ) (words : List (List ℕ)) (groups : List (List (List ℕ))) (kind : Kind) → settler_kind_of word words groups ≡ Some kind
    → Spells IsOfSettler word words groups kind
settler_kind_takes word words groups kind e =
    let read = λ (text : List ℕ). behind IsOfSettler word text words groups kind in
    let whole = λ (text : List ℕ). alone_takes IsOfSettler text words groups in
    either (bytes_eq word (codes "heard")) (heard_of words groups) _ kind e
    (λ t h. read (codes "heard") t (heard_takes IsOfSettler (λ place vector f. f) words groups kind h)) λ e2.
    either (bytes_eq word (codes "asked")) (alone groups (asked_of words)) _ kind e2
    (λ t h. read (codes "asked") t (whole (codes "asked") (asked_of words) kind h (asked_takes words kind))) λ e3.
    either (bytes_eq word (codes "taken")) (taken_of words groups) _ kind e3
    (λ t h. read (codes "taken") t (taken_takes words groups kind h)) λ e4.
    either (bytes_eq word (codes "settled")) (settled_of words groups) _ kind e4
    (λ t h. read (codes "settled") t (settled_takes words groups kind h)) λ e5.
    either (bytes_eq word (codes "resulted")) (alone groups (resulted_of words)) _ kind e5
    (λ t h. read (codes "resulted") t (whole (codes "resulted") (resulted_of words) kind h (resulted_takes words kind))) λ e6.
    let c = chosen (bytes_eq word (codes "stopped")) (alone groups (stopped_of words)) kind e6 in
    read (codes "stopped") c.0 (whole (codes "stopped") (stopped_of words) kind c.1 (stopped_takes IsOfSettler tt words kind))

kind_takes : (actor : Actor) (word : List ℕ) (words : List (List ℕ)) (groups : List (List (List ℕ))) (kind : Kind) → kind_of actor word words groups ≡ Some kind
    → Spells (IsBy actor) word words groups kind
kind_takes (Gate gate) word words groups kind e = gate_kind_takes word words groups kind e
kind_takes (Node centre part) word words groups kind e = node_kind_takes word words groups kind e
kind_takes (Settler centre) word words groups kind e = settler_kind_takes word words groups kind e

-- ---- a line

-- the entry has a line, and these are its groups
abbrev IsSpelled : List (List (List ℕ)) → Entry → Type 0
IsSpelled groups entry = HasLine entry × (groups ≡ entry_groups entry)

actor_entry_takes : (actor word : List ℕ) (words : List (List ℕ)) (groups : List (List (List ℕ))) (entry : Entry) → actor_entry_of actor word words groups ≡ Some entry
    → IsSpelled ((actor ∷ word ∷ words) ∷ groups) entry
actor_entry_takes actor word words groups entry e =
    bind_some (actor_of actor) _ entry e λ a read rest.
    bind_some (kind_of a word words groups) _ entry rest λ kind read2 last.
    let t = actor_takes actor a read in
    let k = kind_takes a word words groups kind read2 in
    let made : Entry = record { actor = a; kind = kind } in
    let q : made ≡ entry = cc in
    subst (IsSpelled ((actor ∷ word ∷ words) ∷ groups)) q (record { actor = t.0; kind = k.0 }, rw t.1 (k.1 (actor_text a)))

groups_entry_takes : (groups : List (List (List ℕ))) (entry : Entry) → entry_of_groups groups ≡ Some entry → IsSpelled groups entry
unfolding entry_of_groups
groups_entry_takes [] entry e = absurd cc
groups_entry_takes ([] ∷ groups) entry e = absurd cc
groups_entry_takes ((actor ∷ []) ∷ groups) entry e = absurd cc
groups_entry_takes ((actor ∷ word ∷ words) ∷ groups) entry e = actor_entry_takes actor word words groups entry e

-- an entry that is read of a line has a line, and it is that line
pub entry_takes : (text : List ℕ) (entry : Entry) → entry_of text ≡ Some entry → HasLine entry × (text ≡ entry_text entry)
entry_takes text entry e =
    let t = groups_entry_takes (groups_of text) entry e in
    (t.0, sym (groups_takes text) ∙ ap groups_text t.1)
