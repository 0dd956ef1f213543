-- The items of a lawful history of a script have words, where they are stored, answered and taken, and so have the values that are settled.
use Rattle.std.proofs.Common.{◌≡◌, ◌==◌, ℕ, suc, ◌+◌, ◌^◌, ◌<◌, Bool, true, false, inl, inr, List, [], ◌∷◌, ◌++◌, refl, sym, subst, arith}
use Rattle.std.specs.Prelude.{if◌then◌else◌}
use Rattle.std.specs.List.{AllByRecursion, filter}
use Rattle.std.proofs.lemmas.Grind.{common_steps}
use Rattle.ov_base.specs.Value.{IsValue}
use Rattle.ov_base.specs.Version.{IsVersion}
use Rattle.ov_functor.specs.Items.{items_of}
use Rattle.ov_functor.specs.Unions.{is_inside}
use Rattle.ov_functor.specs.Windows.{Among}
use Rattle.ov_functor.specs.declared.item.Item.{Item}
use Rattle.ov_functor.specs.declared.item.Valued.{Valued}
use Rattle.ov_functor.proofs.Among.{among_front}
use Rattle.ov_topology.specs.Actor.{IsSettler}
use Rattle.ov_topology.specs.Shape.{IsShape}
use Rattle.ov_topology.specs.declared.actor.Actor.TheVariants.{Gate, Node, Settler}
use Rattle.ov_topology.specs.declared.mode.Mode.{Mode}
use Rattle.ov_topology.specs.declared.place.Place.{Place}
use Rattle.ov_event.specs.ItemWords.{IsItem}
use Rattle.ov_event.specs.Letters.{by_key, items_in}
use Rattle.ov_event.specs.declared.entry.Entry.{Entry}
use Rattle.ov_event.specs.declared.kind.Kind.TheVariants as kinds
use Rattle.ov_event.specs.declared.letter.Letter.TheVariants as letters
use Rattle.ov_event.specs.declared.start.Start.TheVariants.{Draw}
use Rattle.ov_history.specs.Past.{History, before}
use Rattle.ov_history.specs.Letters.{Takes}
use Rattle.ov_history.specs.Nodes.{held}
use Rattle.ov_history.specs.Settlers.{values_of}
use Rattle.ov_history.specs.May.{Setting, May, MayAnswer, MayAsk, MayTake, Lawful}
use Rattle.ov_history.proofs.Past.{lawful_before}
use Rattle.ov_laws.specs.Entries.{began_by}
use Rattle.ov_laws.proofs.History.Earlier.{letter_lawful}
use Rattle.ov_laws.proofs.History.Sent.{ack_sent, answer_sent, ask_sent}
use Rattle.ov_laws.proofs.Values.Settled.{settler_stands}
use Rattle.ov_laws.proofs.Windows.Added.{by_key_comes, filter_comes, items_fit, items_in_comes}
use Rattle.ov_laws.proofs.Windows.Holdings.{held_is_begun}
use Rattle.ov_laws.proofs.Windows.Writers.{write_sent}
use Rattle.ov_journal.specs.Line.{IsNodeAt, IsRound, IsValued}
use Rattle.ov_journal.proofs.Lawful.Scripts.{IsScripted}
use Rattle.ov_journal.proofs.Lawful.Functors.{functor_key, item_form}
use Rattle.ov_journal.proofs.Lawful.Places.{actor_spelled}
use Rattle.ov_journal.proofs.Lawful.Begun.{IsFormed, start_formed, begun_formed, serial_formed, begun_item}

-- what holds of what is among a list holds of each
all_among : {A : Type 0} (P : A → Type 0) (xs : List A) → ((x : A) → Among x xs → P x) → AllByRecursion P xs
all_among P [] all = tt
all_among P (x ∷ xs) all = (all x (inl refl), all_among P xs (λ y among. all y (inr among)))

-- ---- nodes

-- a write has words
pub write_formed : (t : Setting) (h : History) (place : Place) (c p version : ℕ) (items : List Item) → IsShape t.topology → IsScripted t.roster → Lawful t h
    → Takes t.topology h place (Node c p) (letters.Write version p items) → IsVersion version × AllByRecursion IsItem items
write_formed t h place c p version items shape scripted lawful takes =
    let found = letter_lawful t h place (letters.Write version p items) lawful takes.there in
    let sent = write_sent t.topology found.0 place.letter version p items found.2 in
    let began : May t (before place.entry h) (began_by sent.gate sent.session sent.seq (Draw version sent.transaction)) = subst (λ (e : Entry). May t (before place.entry h) e) sent.entry_is found.3 in
    let formed : IsFormed (Draw version sent.transaction)
    = start_formed t (before place.entry h) sent.gate sent.session sent.seq (Draw version sent.transaction) shape scripted began.known began.guard in
    let next : version + 1 < 2 ^ 63 = formed.0 in
    let all : (item : Item) → Among item (by_key (items_in t.topology p (items_of version sent.transaction))) → IsItem item = λ item among.
    let within = items_in_comes t.topology p item (items_of version sent.transaction) (by_key_comes item (items_in t.topology p (items_of version sent.transaction)) among) in
    let fits = items_fit version sent.transaction item within in
    let same : item.version ≡ version = fits.0 in
    item_form sent.transaction item formed.1 formed.2 (omega (arith, next, same)) fits.1 in
    (omega (arith, next), subst (λ (list : List Item). AllByRecursion IsItem list) (sym sent.items_are) (all_among IsItem _ all))

-- an acknowledgement has words
pub ack_formed : (t : Setting) (h : History) (place : Place) (g version c p : ℕ) → IsShape t.topology → IsScripted t.roster → Lawful t h
    → Takes t.topology h place (Gate g) (letters.Ack version c p) → IsVersion version × IsNodeAt c p
ack_formed t h place g version c p shape scripted lawful takes =
    let found = letter_lawful t h place (letters.Ack version c p) lawful takes.there in
    let sent = ack_sent t.topology found.0 place.letter version c p found.2 in
    let may : May t (before place.entry h) (record { actor = Node c p; kind = kinds.Stored sent.0 version sent.1 }) = subst (λ (e : Entry). May t (before place.entry h) e) sent.2 found.3 in
    ((write_formed t (before place.entry h) sent.0 c p version sent.1 shape scripted (lawful_before t h place.entry lawful) may.guard).0, actor_spelled t.topology (Node c p) shape may.known)

-- an answer has words
pub answer_formed : (t : Setting) (h : History) (place : Place) (c p settler round : ℕ) (items : List Item) → IsShape t.topology → IsScripted t.roster → Lawful t h
    → MayAnswer t.topology h place c p settler round items → IsSettler settler × IsRound round × AllByRecursion IsItem items
answer_formed t h place c p settler round items shape scripted lawful may =
    let found = letter_lawful t h place (letters.Ask settler round may.mode may.from may.below) lawful may.sent.there in
    let sent = ask_sent t.topology found.0 place.letter settler round may.mode may.from may.below found.2 in
    let asked : May t (before place.entry h) (record { actor = Settler settler; kind = kinds.Asked round may.mode may.from may.below }) = subst (λ (e : Entry). May t (before place.entry h) e) sent found.3 in
    let all : (item : Item) → Among item (filter (is_inside may.from may.below) (held c p h)) → IsItem item = λ item among.
    begun_item t h item shape scripted lawful (held_is_begun t h c p item lawful (filter_comes (is_inside may.from may.below) item (held c p h) among).0) in (
      actor_spelled t.topology (Settler settler) shape asked.known,
      round_spelled t (before place.entry h) settler round may.mode may.from may.below asked.guard,
      subst (λ (list : List Item). AllByRecursion IsItem list) (sym may.all) (all_among IsItem _ all),
    )
  where
    round_spelled : (t : Setting) (h : History) (s round : ℕ) (mode : Mode) (from below : ℕ) → MayAsk t.topology h s round mode from below → IsRound round
    round_spelled t h s round mode from below asks = record { some = (let next = asks.next in omega (arith, next)); held = asks.held }

-- ---- settlers

-- an answer that may be taken has words
pub take_formed : (t : Setting) (h : History) (place : Place) (s round c p : ℕ) (items : List Item) → IsShape t.topology → IsScripted t.roster → Lawful t h
    → MayTake t.topology h place s round c p items → IsRound round × IsNodeAt c p × AllByRecursion IsItem items
take_formed t h place s round c p items shape scripted lawful may =
    let found = letter_lawful t h place (letters.Answer s round c p items) lawful may.sent.there in
    let sent = answer_sent t.topology found.0 place.letter s round c p items found.2 in
    let answered : May t (before place.entry h) (record { actor = Node c p; kind = kinds.Answered sent.0 s round items }) = subst (λ (e : Entry). May t (before place.entry h) e) sent.1 found.3 in
    let formed = answer_formed t (before place.entry h) sent.0 c p s round items shape scripted (lawful_before t h place.entry lawful) answered.guard in
    (formed.1, actor_spelled t.topology (Node c p) shape answered.known, formed.2)

-- values that a settler settles are among its values
settled_among : (s : ℕ) (h : History) (values : List Valued) (x : Valued) → Among x values → Among x (values_of s (record { actor = Settler s; kind = kinds.Settled values } ∷ h))
settled_among s h values x among = by (s == s) (grind (arith, common_steps))
  where
    by : (b : Bool) → b ≡ true → Among x ((if b then values else []) ++ values_of s h)
    by true is = among_front x values (values_of s h) among
    by false is = absurd cc

-- a settled value has words
value_formed : (t : Setting) (h : History) (s : ℕ) (values : List Valued) (x : Valued) → IsShape t.topology → IsScripted t.roster
    → Lawful t (record { actor = Settler s; kind = kinds.Settled values } ∷ h) → Among x values → IsValued x
value_formed t h s values x shape scripted lawful among =
    let now : History = record { actor = Settler s; kind = kinds.Settled values } ∷ h in
    let right = (settler_stands t shape now s lawful).stand.sound x (settled_among s h values x among) in
    let formed : IsFormed (Draw x.version right.writes.transaction) = begun_formed t now x.version right.writes.transaction shape scripted lawful right.writes.begun_is in
    let next : x.version + 1 < 2 ^ 63 = formed.0 in (
      omega (arith, next),
      functor_key x.key right.writes.transaction right.writes.functor formed.1 right.writes.functor_is,
      subst IsValue (sym right.value_is) (serial_formed t now shape scripted lawful (suc x.version) x.key),
    )

-- and so have all that are settled
pub settled_formed : (t : Setting) (h : History) (s : ℕ) (values : List Valued) → IsShape t.topology → IsScripted t.roster
    → Lawful t (record { actor = Settler s; kind = kinds.Settled values } ∷ h) → AllByRecursion IsValued values
settled_formed t h s values shape scripted lawful = all_among IsValued values (λ x among. value_formed t h s values x shape scripted lawful among)
