-- Which entry made a letter: the letters of a kind, and the entries that they come from.
use Rattle.std.proofs.Common.{◌≡◌, ℕ, ◌-◌, inl, inr, zero, suc, Bool, true, false, Option, Some, None, List, [], ◌∷◌, ◌++◌, refl, ap, sym, ◌∙◌, arith}
use Rattle.std.specs.Prelude.{slice_get, map}
use Rattle.std.proofs.lemmas.Grind.{common_steps}
use Rattle.std.proofs.lemmas.Bool.Decides.{eqb_tells}
use Rattle.ov_functor.specs.declared.item.Item.{Item}
use Rattle.ov_gossip.specs.declared.marks.Marks.{Marks}
use Rattle.ov_topology.specs.Shape.{Shape}
use Rattle.ov_topology.specs.declared.actor.Actor.{Actor}
use Rattle.ov_topology.specs.declared.actor.Actor.TheVariants.{Gate, Node, Settler}
use Rattle.ov_topology.specs.declared.place.Place.{Place}
use Rattle.ov_event.specs.declared.entry.Entry.{Entry}
use Rattle.ov_event.specs.declared.kind.Kind.{Kind}
use Rattle.ov_event.specs.declared.kind.Kind.TheVariants as kinds
use Rattle.ov_event.specs.declared.letter.Letter.{Letter}
use Rattle.ov_event.specs.declared.letter.Letter.TheVariants as letters
use Rattle.ov_event.specs.declared.start.Start.TheVariants as starts
use Rattle.ov_event.specs.Letters.{write_of, touched, last_of, listed, letters_of, letter_in}
use Rattle.ov_functor.specs.declared.reply.Reply.{Reply}
use Rattle.ov_topology.specs.declared.mode.Mode.{Mode}
use Rattle.ov_event.specs.declared.start.Start.{Start}

-- whether a letter is a write
abbrev pub is_write : Letter → Bool
is_write (letters.Write version part items) = true
is_write other = false

-- a letter that is no write stands behind the writes
behind_writes : (write : ℕ → Letter) (parts : List ℕ) (last sent : Letter) (i : ℕ) → ((part : ℕ) → is_write (write part) ≡ true)
    → is_write sent ≡ false → slice_get (map write parts ++ last ∷ []) i ≡ Some sent → last ≡ sent
behind_writes write [] last sent zero writes other is = cc
behind_writes write [] last sent (suc i) writes other is = absurd (cc)
behind_writes write (part ∷ parts) last sent zero writes other is =
    let here : is_write (write part) ≡ true = writes part in
    let same : write part ≡ sent = cc in
    absurd (cc)
behind_writes write (part ∷ parts) last sent (suc i) writes other is = behind_writes write parts last sent i writes other is

-- the one letter of an entry without writes
alone : (last : Option Letter) (sent : Letter) (i : ℕ) → slice_get (listed last) i ≡ Some sent → last ≡ Some sent
alone None sent i is = absurd (cc)
alone (Some one) sent zero is = is
alone (Some one) sent (suc i) is = absurd (cc)

-- a letter that is no write is the last one of its entry
last_sent : (t : Shape) (a : Actor) (k : Kind) (sent : Letter) (i : ℕ) → is_write sent ≡ false
    → slice_get (letters_of t (record { actor = a; kind = k })) i ≡ Some sent → last_of a k ≡ Some sent
last_sent t (Gate g) (kinds.Began session seq (starts.Draw version transaction)) sent i other is =
    let same : letters.Want session seq g (starts.Draw version transaction) ≡ sent = behind_writes (write_of t version transaction) (touched t transaction) _ sent i (λ part. refl) other is in
    ap (λ (one : Letter). Some one) same
last_sent t a k sent i other is = alone (last_of a k) sent i is

-- a letter that is no write is the last one of its entry
pub letter_is_last : (t : Shape) (e : Entry) (number : ℕ) (sent : Letter) → is_write sent ≡ false → letter_in t e number ≡ Some sent → last_of e.actor e.kind ≡ Some sent
letter_is_last t e number sent other is = elim (eqb_tells number 0) [
  | inl h ↦ let none : letter_in t e number ≡ None = rw h.0 refl in absurd (cc)
  | inr h ↦ let there : letter_in t e number ≡ slice_get (letters_of t e) (number - 1) = rw h.0 refl in
      last_sent t e.actor e.kind sent (number - 1) other (sym there ∙ is)
]

-- a gossip is sent by a gateway that published it
pub gossip_sent : (t : Shape) (e : Entry) (number sender : ℕ) (vector : List Marks) → letter_in t e number ≡ Some (letters.Gossip sender vector)
    → (time : ℕ) × (e ≡ record { actor = Gate sender; kind = kinds.Published time vector })
gossip_sent t e number sender vector is = by e.actor e.kind (letter_is_last t e number (letters.Gossip sender vector) refl is)
  where
    by : (a : Actor) (k : Kind) → last_of a k ≡ Some (letters.Gossip sender vector)
        → (time : ℕ) × (◌≡◌ {A = Entry} (record { actor = a; kind = k }) (record { actor = Gate sender; kind = kinds.Published time vector }))
    by (Gate g) (kinds.Published time list) last = (time, grind (arith, common_steps))
    by (Gate g) (kinds.Began session seq start) last = absurd (cc)
    by (Gate g) (kinds.Replied place session seq reply) last = absurd (cc)
    by (Node c p) (kinds.Stored place version items) last = absurd (cc)
    by (Node c p) (kinds.Answered place settler round items) last = absurd (cc)
    by (Settler s) (kinds.Asked round mode from below) last = absurd (cc)
    by (Settler s) (kinds.Resulted place session seq gate reply) last = absurd (cc)
    by a k last = absurd (cc)

-- an acknowledgement is sent by the node that it names, where it stored the version
pub ack_sent : (t : Shape) (e : Entry) (number version centre part : ℕ) → letter_in t e number ≡ Some (letters.Ack version centre part)
    → (place : Place) × (items : List Item) × (e ≡ record { actor = Node centre part; kind = kinds.Stored place version items })
ack_sent t e number version centre part is = by e.actor e.kind (letter_is_last t e number (letters.Ack version centre part) refl is)
  where
    by : (a : Actor) (k : Kind) → last_of a k ≡ Some (letters.Ack version centre part)
        → (place : Place) × (items : List Item) × (◌≡◌ {A = Entry} (record { actor = a; kind = k }) (record { actor = Node centre part; kind = kinds.Stored place version items }))
    by (Node c p) (kinds.Stored place v items) last = (place, items, grind (arith, common_steps))
    by (Node c p) (kinds.Answered place settler round items) last = absurd (cc)
    by (Gate g) (kinds.Published time list) last = absurd (cc)
    by (Gate g) (kinds.Began session seq start) last = absurd (cc)
    by (Gate g) (kinds.Replied place session seq reply) last = absurd (cc)
    by (Settler s) (kinds.Asked round mode from below) last = absurd (cc)
    by (Settler s) (kinds.Resulted place session seq gate reply) last = absurd (cc)
    by a k last = absurd (cc)

-- ---- letters of rounds

-- an answer is sent by the node that it names
pub answer_sent : (t : Shape) (e : Entry) (number settler round centre part : ℕ) (items : List Item) → letter_in t e number ≡ Some (letters.Answer settler round centre part items)
    → (place : Place) × (e ≡ record { actor = Node centre part; kind = kinds.Answered place settler round items })
answer_sent t e number settler round centre part items is = by e.actor e.kind (letter_is_last t e number (letters.Answer settler round centre part items) refl is)
  where
    by : (a : Actor) (k : Kind) → last_of a k ≡ Some (letters.Answer settler round centre part items)
        → (place : Place) × (◌≡◌ {A = Entry} (record { actor = a; kind = k }) (record { actor = Node centre part; kind = kinds.Answered place settler round items }))
    by (Node c p) (kinds.Answered place s n list) last = (place, grind (arith, common_steps))
    by (Node c p) (kinds.Stored place version list) last = absurd (cc)
    by (Gate g) (kinds.Published time list) last = absurd (cc)
    by (Gate g) (kinds.Began session seq start) last = absurd (cc)
    by (Gate g) (kinds.Replied place session seq reply) last = absurd (cc)
    by (Settler s) (kinds.Asked n mode from below) last = absurd (cc)
    by (Settler s) (kinds.Resulted place session seq gate reply) last = absurd (cc)
    by a k last = absurd (cc)

-- a question is sent by the settler that it names
pub ask_sent : (t : Shape) (e : Entry) (number settler round : ℕ) (mode : Mode) (from below : ℕ) → letter_in t e number ≡ Some (letters.Ask settler round mode from below)
    → e ≡ record { actor = Settler settler; kind = kinds.Asked round mode from below }
ask_sent t e number settler round mode from below is = by e.actor e.kind (letter_is_last t e number (letters.Ask settler round mode from below) refl is)
  where
    by : (a : Actor) (k : Kind) → last_of a k ≡ Some (letters.Ask settler round mode from below)
        → ◌≡◌ {A = Entry} (record { actor = a; kind = k }) (record { actor = Settler settler; kind = kinds.Asked round mode from below })
    by (Settler s) (kinds.Asked n m f b) last = grind (arith, common_steps)
    by (Settler s) (kinds.Resulted place session seq gate reply) last = absurd (cc)
    by (Node c p) (kinds.Answered place s n list) last = absurd (cc)
    by (Node c p) (kinds.Stored place version list) last = absurd (cc)
    by (Gate g) (kinds.Published time list) last = absurd (cc)
    by (Gate g) (kinds.Began session seq start) last = absurd (cc)
    by (Gate g) (kinds.Replied place session seq reply) last = absurd (cc)
    by a k last = absurd (cc)

-- ---- letters of replies

-- a result is sent by a settler that computed it
pub result_sent : (t : Shape) (e : Entry) (number session seq gate : ℕ) (reply : Reply) → letter_in t e number ≡ Some (letters.Result session seq gate reply)
    → (settler : ℕ) × (place : Place) × (e ≡ record { actor = Settler settler; kind = kinds.Resulted place session seq gate reply })
result_sent t e number session seq gate reply is = by e.actor e.kind (letter_is_last t e number (letters.Result session seq gate reply) refl is)
  where
    by : (a : Actor) (k : Kind) → last_of a k ≡ Some (letters.Result session seq gate reply)
        → (settler : ℕ) × (place : Place) × (◌≡◌ {A = Entry} (record { actor = a; kind = k }) (record { actor = Settler settler; kind = kinds.Resulted place session seq gate reply }))
    by (Settler s) (kinds.Resulted place other c g shown) last = (s, place, grind (arith, common_steps))
    by (Settler s) (kinds.Asked round mode from below) last = absurd (cc)
    by (Node c p) (kinds.Answered place settler round items) last = absurd (cc)
    by (Node c p) (kinds.Stored place version items) last = absurd (cc)
    by (Gate g) (kinds.Published time list) last = absurd (cc)
    by (Gate g) (kinds.Began other c start) last = absurd (cc)
    by (Gate g) (kinds.Replied place other c shown) last = absurd (cc)
    by a k last = absurd (cc)

-- a reply is wanted by the gateway at which the command began
pub want_sent : (t : Shape) (e : Entry) (number session seq gate : ℕ) (start : Start) → letter_in t e number ≡ Some (letters.Want session seq gate start)
    → e ≡ record { actor = Gate gate; kind = kinds.Began session seq start }
want_sent t e number session seq gate start is = by e.actor e.kind (letter_is_last t e number (letters.Want session seq gate start) refl is)
  where
    by : (a : Actor) (k : Kind) → last_of a k ≡ Some (letters.Want session seq gate start)
        → ◌≡◌ {A = Entry} (record { actor = a; kind = k }) (record { actor = Gate gate; kind = kinds.Began session seq start })
    by (Gate g) (kinds.Began other c begun) last = grind (arith, common_steps)
    by (Gate g) (kinds.Published time list) last = absurd (cc)
    by (Gate g) (kinds.Replied place other c shown) last = absurd (cc)
    by (Settler s) (kinds.Resulted place other c g shown) last = absurd (cc)
    by (Settler s) (kinds.Asked round mode from below) last = absurd (cc)
    by (Node c p) (kinds.Answered place settler round items) last = absurd (cc)
    by (Node c p) (kinds.Stored place version items) last = absurd (cc)
    by a k last = absurd (cc)

-- a reply is told on by the gateway that gave it
pub told_sent : (t : Shape) (e : Entry) (number session seq sender : ℕ) → letter_in t e number ≡ Some (letters.Told session seq sender)
    → (place : Place) × (reply : Reply) × (e ≡ record { actor = Gate sender; kind = kinds.Replied place session seq reply })
told_sent t e number session seq sender is = by e.actor e.kind (letter_is_last t e number (letters.Told session seq sender) refl is)
  where
    by : (a : Actor) (k : Kind) → last_of a k ≡ Some (letters.Told session seq sender)
        → (place : Place) × (reply : Reply) × (◌≡◌ {A = Entry} (record { actor = a; kind = k }) (record { actor = Gate sender; kind = kinds.Replied place session seq reply }))
    by (Gate g) (kinds.Replied place other c reply) last = (place, reply, grind (arith, common_steps))
    by (Gate g) (kinds.Published time list) last = absurd (cc)
    by (Gate g) (kinds.Began other c start) last = absurd (cc)
    by (Settler s) (kinds.Resulted place other c g shown) last = absurd (cc)
    by (Settler s) (kinds.Asked round mode from below) last = absurd (cc)
    by (Node c p) (kinds.Answered place settler round items) last = absurd (cc)
    by (Node c p) (kinds.Stored place version items) last = absurd (cc)
    by a k last = absurd (cc)
