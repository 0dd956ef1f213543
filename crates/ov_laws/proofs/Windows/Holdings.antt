-- What nodes hold: items of begun transactions alone, and of each version that a node stored all items in its partition.
use Rattle.std.proofs.Common.{◌≡◌, ◌==◌, ℕ, ◌+◌, Bool, true, false, ◌||◌, ◌⊎◌, inl, inr, Option, Some, List, [], ◌∷◌, length, refl, sym, ap, subst, ◌∙◌, arith}
use Rattle.std.specs.Prelude.{if◌then◌else◌}
use Rattle.std.proofs.lemmas.Grind.{common_steps}
use Rattle.ov_functor.specs.Functor.{functor_of}
use Rattle.ov_functor.specs.Items.{items_of}
use Rattle.ov_functor.specs.Placeholder.{Placeholder}
use Rattle.ov_functor.specs.Windows.{Among, HasItem}
use Rattle.ov_functor.specs.declared.item.Item.{Item}
use Rattle.ov_functor.specs.declared.part.Part.{Part}
use Rattle.ov_functor.specs.Unions.{all_added}
use Rattle.ov_topology.specs.Shape.{Shape, place_of}
use Rattle.ov_topology.specs.declared.actor.Actor.{Actor}
use Rattle.ov_topology.specs.declared.actor.Actor.TheVariants.{Gate, Node, Settler}
use Rattle.ov_topology.specs.declared.place.Place.{Place}
use Rattle.ov_event.specs.Letters.{by_key, items_in}
use Rattle.ov_event.specs.declared.entry.Entry.{Entry}
use Rattle.ov_event.specs.declared.kind.Kind.{Kind}
use Rattle.ov_event.specs.declared.kind.Kind.TheVariants.{Began, Stored}
use Rattle.ov_event.specs.declared.letter.Letter.TheVariants.{Write}
use Rattle.ov_event.specs.declared.start.Start.TheVariants.{Draw}
use Rattle.ov_history.specs.Past.{History, at, before, is_node}
use Rattle.ov_history.specs.Letters.{letter}
use Rattle.ov_laws.specs.Draws.{Drew}
use Rattle.ov_laws.specs.Holders.{stores, stored}
use Rattle.ov_history.specs.Nodes.{stored_in, stored_by, held}
use Rattle.ov_history.specs.May.{Setting, Guard, Lawful}
use Rattle.ov_history.specs.Serial.{begun_at}
use Rattle.ov_laws.proofs.History.Earlier.{drew_before, letter_at}
use Rattle.ov_laws.proofs.Times.Begun.{begun_is_drawn, drew_is_begun}
use Rattle.ov_laws.proofs.Windows.Writers.{write_sent}
use Rattle.ov_functor.proofs.Unions.{all_added_comes, all_added_has, has_keeps}
use Rattle.ov_laws.proofs.Windows.Added.{by_key_has, by_key_comes, items_in_has, items_in_comes, items_fit}

-- ---- what is begun

-- what is begun stays begun where an entry may follow
pub begun_next : (t : Setting) (h : History) (e : Entry) (version : ℕ) (transaction : List Part) → Lawful t (e ∷ h) → begun_at h version ≡ Some transaction → begun_at (e ∷ h) version ≡ Some transaction
begun_next t h e version transaction lawful begun =
    let is = begun_is_drawn t h version transaction lawful.0 begun in
    let now : begun_at (e ∷ h) is.drawn.version ≡ Some is.drawn.transaction = drew_is_begun t (e ∷ h) is.gate is.drawn lawful (inr is.drew) in
    ap (begun_at (e ∷ h)) (sym is.version_is) ∙ (now ∙ ap (λ (parts : List Part). Some parts) is.transaction_is)

-- what was begun before an entry is begun
pub begun_before : (t : Setting) (h : History) (k version : ℕ) (transaction : List Part) → Lawful t h → Lawful t (before k h) → begun_at (before k h) version ≡ Some transaction → begun_at h version ≡ Some transaction
begun_before t h k version transaction lawful old begun =
    let is = begun_is_drawn t (before k h) version transaction old begun in
    let now : begun_at h is.drawn.version ≡ Some is.drawn.transaction = drew_is_begun t h is.gate is.drawn lawful (drew_before is.gate is.drawn h k is.drew) in
    ap (begun_at h) (sym is.version_is) ∙ (now ∙ ap (λ (parts : List Part). Some parts) is.transaction_is)

-- a gateway drew what it began in one of its entries
drew_there : (h : History) (k g session seq version : ℕ) (transaction : List Part) → at h k ≡ Some (record { actor = Gate g; kind = Began session seq (Draw version transaction) })
    → Drew g (record { session = session; seq = seq; version = version; transaction = transaction }) h
drew_there [] k g session seq version transaction there = absurd (cc)
drew_there (new ∷ h) k g session seq version transaction there = by (k == length h + 1) there (drew_there h k g session seq version transaction)
  where
    by : (b : Bool) → (if b then Some new else at h k) ≡ Some (record { actor = Gate g; kind = Began session seq (Draw version transaction) })
        → (at h k ≡ Some (record { actor = Gate g; kind = Began session seq (Draw version transaction) }) → Drew g (record { session = session; seq = seq; version = version; transaction = transaction }) h)
        → Drew g (record { session = session; seq = seq; version = version; transaction = transaction }) (new ∷ h)
    by true is later = let same : new ≡ record { actor = Gate g; kind = Began session seq (Draw version transaction) } = cc in inl (rw same (grind (arith, common_steps)))
    by false is later = inr (later is)

-- A write of a history has the items of a begun transaction in the partition.
record IsWrite (t : Shape) (h : History) (version part : ℕ) (items : List Item) : Type 0 where
  transaction : List Part
  begun : begun_at h version ≡ Some transaction
  items_are : items ≡ by_key (items_in t part (items_of version transaction))

-- a write of a lawful history is that of a begun transaction
write_is_begun : (t : Setting) (h : History) (place : Place) (version part : ℕ) (items : List Item) → Lawful t h → letter t.topology h place ≡ Some (Write version part items) → IsWrite t.topology h version part items
write_is_begun t h place version part items lawful is =
    let there = letter_at t.topology h place.entry place.letter (Write version part items) is in
    let sent = write_sent t.topology there.0 place.letter version part items there.2 in
    let entry_there : at h place.entry ≡ Some (record { actor = Gate sent.gate; kind = Began sent.session sent.seq (Draw version sent.transaction) }) = there.1 ∙ ap (λ (e : Entry). Some e) sent.entry_is in
    let drew = drew_there h place.entry sent.gate sent.session sent.seq version sent.transaction entry_there in
    record { transaction = sent.transaction; begun = drew_is_begun t h sent.gate _ lawful drew; items_are = sent.items_are }

-- The item is one of a begun transaction.
pub record IsBegun (h : History) (item : Item) : Type 0 where
  pub transaction : List Part
  pub begun : begun_at h item.version ≡ Some transaction
  pub within : Among item (items_of item.version transaction)

-- an item of what is begun at a version is one of a begun transaction
item_is_begun : (h : History) (version : ℕ) (transaction : List Part) (item : Item) → begun_at h version ≡ Some transaction → Among item (items_of version transaction) → IsBegun h item
item_is_begun h version transaction item begun among =
    let version_is : version ≡ item.version = sym (items_fit version transaction item among).0 in
    record {
      transaction = transaction;
      begun = subst (λ (v : ℕ). begun_at h v ≡ Some transaction) version_is begun;
      within = subst (λ (v : ℕ). Among item (items_of v transaction)) version_is among;
    }

-- begun items of one version and key are one item
pub one_item : (h : History) (a b : Item) → IsBegun h a → IsBegun h b → a.version ≡ b.version → a.key ≡ b.key → a ≡ b
one_item h a b left right version_is key_is =
    let ours : functor_of left.transaction a.key ≡ Some a.functor = (items_fit a.version left.transaction a left.within).1 in
    let theirs : functor_of right.transaction b.key ≡ Some b.functor = (items_fit b.version right.transaction b right.within).1 in
    let some_transaction : ◌≡◌ {A = Option (List Part)} (Some left.transaction) (Some right.transaction) = sym left.begun ∙ (ap (begun_at h) version_is ∙ right.begun) in
    let transaction_is : left.transaction ≡ right.transaction = cc in
    let some_functor : ◌≡◌ {A = Option Placeholder} (Some a.functor) (Some b.functor) = sym ours ∙ (ap (functor_of left.transaction) key_is ∙ (ap (λ (parts : List Part). functor_of parts b.key) transaction_is ∙ theirs)) in
    let functor_is : a.functor ≡ b.functor = cc in
    λ i. record { version = version_is i; key = key_is i; functor = functor_is i }

-- ---- what nodes hold

-- an item that a node newly stores is one of a begun transaction
new_is_begun : (t : Setting) (h : History) (a : Actor) (k : Kind) (item : Item) → Lawful t h → Guard t h a k → Among item (stored_in k) → IsBegun h item
new_is_begun t h (Node d q) (Stored place version items) item lawful guard among =
    let is = write_is_begun t h place version q items lawful guard.there in
    let within : Among item (by_key (items_in t.topology q (items_of version is.transaction))) = subst (λ (list : List Item). Among item list) is.items_are among in
    item_is_begun h version is.transaction item is.begun (items_in_comes t.topology q item (items_of version is.transaction) (by_key_comes item (items_in t.topology q (items_of version is.transaction)) within))
new_is_begun t h (Gate g) (Stored place version items) item lawful guard among = absurd guard
new_is_begun t h (Settler s) (Stored place version items) item lawful guard among = absurd guard
new_is_begun t h a k item lawful guard among = absurd among

-- each item that a node holds is one of a begun transaction
pub held_is_begun : (t : Setting) (h : History) (c p : ℕ) (item : Item) → Lawful t h → Among item (held c p h) → IsBegun h item
held_is_begun t [] c p item lawful among = absurd among
held_is_begun t (e ∷ h) c p item lawful among = by (all_added_comes item (stored_by c p e) (held c p h) among) (held_is_begun t h c p item lawful.0)
  where
    longer : IsBegun h item → IsBegun (e ∷ h) item
    longer is = record { transaction = is.transaction; begun = begun_next t h e item.version is.transaction lawful is.begun; within = is.within }

    stored_now : (b : Bool) → Among item (if b then stored_in e.kind else []) → Among item (stored_in e.kind)
    stored_now true here = here
    stored_now false here = absurd here

    by : Among item (stored_by c p e) ⊎ Among item (held c p h) → (Among item (held c p h) → IsBegun h item) → IsBegun (e ∷ h) item
    by (inl new) later = longer (new_is_begun t h e.actor e.kind item lawful.0 lawful.1.guard (stored_now (is_node c p e.actor) new))
    by (inr old) later = longer (later old)

-- A begun transaction has the version, and the node holds an item for each of its items in the partition.
record Stands (t : Shape) (h : History) (c p version : ℕ) : Type 0 where
  transaction : List Part
  begun : begun_at h version ≡ Some transaction
  all : (item : Item) → Among item (items_of version transaction) → place_of t item.key ≡ p → HasItem (held c p h) item.version item.key

-- a version that a node newly stores stands in it
stands_new : (t : Setting) (h : History) (a : Actor) (k : Kind) (c p version : ℕ) → Lawful t (record { actor = a; kind = k } ∷ h) → Guard t h a k
    → (if is_node c p a then stores version k else false) ≡ true → Stands t.topology (record { actor = a; kind = k } ∷ h) c p version
stands_new t h (Node d q) (Stored place u items) c p version lawful guard is =
    let node_is : is_node c p (Node d q) ≡ true = grind (arith, common_steps) in
    let part_is : q ≡ p = grind (arith, common_steps) in
    let version_is : u ≡ version = grind (arith, common_steps) in
    let write = write_is_begun t h place u q items lawful.0 guard.there in
    record {
      transaction = write.transaction;
      begun = begun_next t h _ version write.transaction lawful (subst (λ (v : ℕ). begun_at h v ≡ Some write.transaction) version_is write.begun);
      all = λ item among here. by item (is_node c p (Node d q)) node_is write.transaction write.items_are
          (subst (λ (v : ℕ). Among item (items_of v write.transaction)) (sym version_is) among) (here ∙ sym part_is);
    }
  where
    by : (item : Item) (b : Bool) → b ≡ true → (transaction : List Part) → items ≡ by_key (items_in t.topology q (items_of u transaction)) → Among item (items_of u transaction) → place_of t.topology item.key ≡ q
        → HasItem (all_added (if b then items else []) (held c p h)) item.version item.key
    by item true own transaction items_are among here = all_added_has item items (held c p h)
        (subst (λ (list : List Item). Among item list) (sym items_are) (by_key_has item (items_in t.topology q (items_of u transaction)) (items_in_has t.topology q item (items_of u transaction) among here)))
    by item false own transaction items_are among here = absurd (cc)
stands_new t h a k c p version lawful guard is = absurd (grind (arith, common_steps))

-- a version that a node stored stands in it
stored_stands : (t : Setting) (h : History) (c p version : ℕ) → Lawful t h → stored c p version h ≡ true → Stands t.topology h c p version
stored_stands t [] c p version lawful is = absurd (cc)
stored_stands t (e ∷ h) c p version lawful is = by (if is_node c p e.actor then stores version e.kind else false) refl is (stored_stands t h c p version lawful.0)
  where
    by : (b : Bool) → (if is_node c p e.actor then stores version e.kind else false) ≡ b → (b || stored c p version h) ≡ true
        → (stored c p version h ≡ true → Stands t.topology h c p version) → Stands t.topology (e ∷ h) c p version
    by true new either later = stands_new t h e.actor e.kind c p version lawful lawful.1.guard new
    by false new either later = let old = later either in record {
      transaction = old.transaction;
      begun = begun_next t h e version old.transaction lawful old.begun;
      all = λ item among here. has_keeps (stored_by c p e) (held c p h) item.version item.key (old.all item among here);
    }

-- a node holds each item in its partition of each version that it stored
pub stored_is_held : (t : Setting) (h : History) (c p : ℕ) (item : Item) → Lawful t h → stored c p item.version h ≡ true → IsBegun h item → place_of t.topology item.key ≡ p → Among item (held c p h)
stored_is_held t h c p item lawful is begun here =
    let stands = stored_stands t h c p item.version lawful is in
    let some_transaction : ◌≡◌ {A = Option (List Part)} (Some begun.transaction) (Some stands.transaction) = sym begun.begun ∙ stands.begun in
    let transaction_is : begun.transaction ≡ stands.transaction = cc in
    let has = stands.all item (subst (λ (parts : List Part). Among item (items_of item.version parts)) transaction_is begun.within) here in
    subst (λ (x : Item). Among x (held c p h)) (one_item h has.found item (held_is_begun t h c p has.found lawful has.within) begun has.version_is has.key_is) has.within
