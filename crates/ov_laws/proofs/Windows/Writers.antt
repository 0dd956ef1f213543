-- Writes are sent by gateways that begin a transaction, with its items in the partition.
use Rattle.std.proofs.Common.{◌≡◌, ℕ, zero, suc, ◌-◌, true, false, inl, inr, Option, Some, None, List, [], ◌∷◌, ◌++◌, map, refl, sym, ◌∙◌, arith}
use Rattle.std.specs.Prelude.{slice_get}
use Rattle.std.proofs.lemmas.Grind.{common_steps}
use Rattle.std.proofs.lemmas.Bool.Decides.{eqb_tells}
use Rattle.ov_functor.specs.Items.{items_of}
use Rattle.ov_functor.specs.declared.item.Item.{Item}
use Rattle.ov_functor.specs.declared.part.Part.{Part}
use Rattle.ov_topology.specs.Shape.{Shape}
use Rattle.ov_topology.specs.declared.actor.Actor.{Actor}
use Rattle.ov_topology.specs.declared.actor.Actor.TheVariants.{Gate, Node, Settler}
use Rattle.ov_event.specs.declared.entry.Entry.{Entry}
use Rattle.ov_event.specs.declared.kind.Kind.{Kind}
use Rattle.ov_event.specs.declared.kind.Kind.TheVariants as kinds
use Rattle.ov_event.specs.declared.letter.Letter.{Letter}
use Rattle.ov_event.specs.declared.letter.Letter.TheVariants as letters
use Rattle.ov_event.specs.declared.start.Start.TheVariants as starts
use Rattle.ov_event.specs.Letters.{by_key, items_in, write_of, touched, last_of, listed, letters_of, letter_in}
use Rattle.ov_laws.proofs.History.Sent.{is_write}

-- A gateway that begins a transaction sent the write.
pub record IsWritten (t : Shape) (e : Entry) (version part : ℕ) (items : List Item) : Type 0 where
  pub gate : ℕ
  pub session : ℕ
  pub seq : ℕ
  pub transaction : List Part
  pub entry_is : e ≡ record { actor = Gate gate; kind = kinds.Began session seq (starts.Draw version transaction) }
  pub items_are : items ≡ by_key (items_in t part (items_of version transaction))

-- a write among the letters of a start is that of one of the partitions
write_among : (write : ℕ → Letter) (parts : List ℕ) (last : Option Letter) (sent : Letter) (i : ℕ) → slice_get (map write parts ++ listed last) i ≡ Some sent
    → ((other : Letter) → last ≡ Some other → is_write other ≡ false) → is_write sent ≡ true → (part : ℕ) × (write part ≡ sent)
write_among write [] None sent i is lasts writes = absurd (cc)
write_among write [] (Some other) sent zero is lasts writes = let none = lasts other refl in let same : other ≡ sent = cc in absurd (cc)
write_among write [] (Some other) sent (suc i) is lasts writes = absurd (cc)
write_among write (part ∷ parts) last sent zero is lasts writes = (part, cc)
write_among write (part ∷ parts) last sent (suc i) is lasts writes = write_among write parts last sent i is lasts writes

-- the one letter of an entry that is no write
last_other : (a : Actor) (k : Kind) (other : Letter) → last_of a k ≡ Some other → is_write other ≡ false
last_other (Gate g) (kinds.Began session seq start) other is = let same : letters.Want session seq g start ≡ other = cc in rw (sym same) refl
last_other (Gate g) (kinds.Published time vector) other is = let same : letters.Gossip g vector ≡ other = cc in rw (sym same) refl
last_other (Gate g) (kinds.Replied place session seq reply) other is = let same : letters.Told session seq g ≡ other = cc in rw (sym same) refl
last_other (Node c p) (kinds.Stored place version items) other is = let same : letters.Ack version c p ≡ other = cc in rw (sym same) refl
last_other (Node c p) (kinds.Answered place settler round items) other is = let same : letters.Answer settler round c p items ≡ other = cc in rw (sym same) refl
last_other (Settler s) (kinds.Asked round mode from below) other is = let same : letters.Ask s round mode from below ≡ other = cc in rw (sym same) refl
last_other (Settler s) (kinds.Resulted place session seq gate reply) other is = let same : letters.Result session seq gate reply ≡ other = cc in rw (sym same) refl
last_other a k other is = absurd (cc)

-- an entry without writes sends none
no_write : (last : Option Letter) (sent : Letter) (i : ℕ) → slice_get (listed last) i ≡ Some sent → ((other : Letter) → last ≡ Some other → is_write other ≡ false) → is_write sent ≡ false
no_write None sent i is lasts = absurd (cc)
no_write (Some other) sent zero is lasts = let none = lasts other refl in let same : other ≡ sent = cc in rw (sym same) none
no_write (Some other) sent (suc i) is lasts = absurd (cc)

-- a write among the letters of an entry is one of a transaction that it begins
written_by : (t : Shape) (a : Actor) (k : Kind) (version part : ℕ) (items : List Item) (i : ℕ) → slice_get (letters_of t (record { actor = a; kind = k })) i ≡ Some (letters.Write version part items)
    → IsWritten t (record { actor = a; kind = k }) version part items
written_by t (Gate g) (kinds.Began session seq (starts.Draw drawn transaction)) version part items i is =
    let found = write_among (write_of t drawn transaction) (touched t transaction) (Some (letters.Want session seq g (starts.Draw drawn transaction))) (letters.Write version part items) i is
    (λ other same. last_other (Gate g) (kinds.Began session seq (starts.Draw drawn transaction)) other same) refl in
    let write_is : letters.Write drawn found.0 (by_key (items_in t found.0 (items_of drawn transaction))) ≡ letters.Write version part items = found.1 in
    let version_is : drawn ≡ version = cc in
    let part_is : found.0 ≡ part = cc in
    let items_is : by_key (items_in t found.0 (items_of drawn transaction)) ≡ items = cc in
    record {
      gate = g;
      session = session;
      seq = seq;
      transaction = transaction;
      entry_is = grind (arith, common_steps);
      items_are = rw (← version_is, ← part_is) (sym items_is);
    }
written_by t a k version part items i is = let none : is_write (letters.Write version part items) ≡ false = no_write (last_of a k) (letters.Write version part items) i is (λ other same. last_other a k other same) in absurd (cc)

-- a write is sent by a gateway that begins its transaction
pub write_sent : (t : Shape) (e : Entry) (number version part : ℕ) (items : List Item) → letter_in t e number ≡ Some (letters.Write version part items) → IsWritten t e version part items
write_sent t e number version part items is = elim (eqb_tells number 0) [
  | inl h ↦ let none : letter_in t e number ≡ None = rw h.0 refl in absurd (cc)
  | inr h ↦ let there : letter_in t e number ≡ slice_get (letters_of t e) (number - 1) = rw h.0 refl in
      written_by t e.actor e.kind version part items (number - 1) (sym there ∙ is)
]
