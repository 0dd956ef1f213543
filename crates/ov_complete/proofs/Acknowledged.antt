-- After passes 3 and 4 each begun transaction is acknowledged to its gateway by a write quorum of each partition that it touches.
use Rattle.std.proofs.Common.{◌≡◌, ◌==◌, ℕ, ◌+◌, ◌-◌, ◌≤◌, ◌<◌, Bool, true, false, not, Option, Some, List, [], ◌∷◌, length, map, refl, sym, ap, subst, ◌∙◌, arith}
use Rattle.std.specs.Prelude.{if◌then◌else◌, slice_get}
use Rattle.std.specs.Option.{option_map}
use Rattle.std.proofs.lemmas.Bool.{eq-eqb, eqb-true, and_parts, not-true}
use Rattle.std.proofs.lemmas.Option.{slice_get-map}
use Rattle.std.proofs.lemmas.Grind.{common_steps}
use Rattle.ov_base.specs.Version.{gate_of}
use Rattle.ov_base.proofs.Lists.{get_front}
use Rattle.ov_functor.specs.Windows.{Among}
use Rattle.ov_functor.specs.declared.item.Item.{Item}
use Rattle.ov_functor.specs.declared.part.Part.{Part}
use Rattle.ov_topology.specs.Shape.{Shape, gates}
use Rattle.ov_topology.specs.declared.actor.Actor.{Actor}
use Rattle.ov_topology.specs.declared.actor.Actor.TheVariants.{Gate, Node, Settler}
use Rattle.ov_topology.specs.declared.place.Place.{Place}
use Rattle.ov_event.specs.Letters.{is_in, is_gate, touches, touched, touched_below, by_key, items_in, write_of, letters_of, letter_in}
use Rattle.ov_event.specs.declared.entry.Entry.{Entry}
use Rattle.ov_event.specs.declared.kind.Kind.{Kind}
use Rattle.ov_event.specs.declared.kind.Kind.TheVariants.{Stored, Acked}
use Rattle.ov_event.specs.declared.letter.Letter.{Letter}
use Rattle.ov_event.specs.declared.letter.Letter.TheVariants.{Write, Want}
use Rattle.ov_event.specs.declared.start.Start.TheVariants.{Draw}
use Rattle.ov_event.proofs.Touched.{touched_there}
use Rattle.ov_functor.specs.Items.{items_of}
use Rattle.ov_history.specs.Past.{History, at, before, stopped, is_node}
use Rattle.ov_history.specs.Letters.{letter, letter_from}
use Rattle.ov_history.specs.Counts.{weight}
use Rattle.ov_history.specs.Placement.{acked, ackers}
use Rattle.ov_history.specs.Placement as placement
use Rattle.ov_history.specs.May.{Setting, Guard, Lawful}
use Rattle.ov_history.specs.Gives.{Take, gives}
use Rattle.ov_history.proofs.Past.{lawful_at}
use Rattle.ov_follow.specs.Lines.{followed, followed_all}
use Rattle.ov_follow.specs.Passes.{over, running, take, same_letter, stores_from, stored_from, write_lines, writes, ack_lines, acks}
use Rattle.ov_follow.specs.Calm.{passed}
use Rattle.ov_laws.specs.Draws.{Drew}
use Rattle.ov_laws.specs.Entries.{began_by}
use Rattle.ov_laws.specs.Holders.{stores, stored}
use Rattle.ov_laws.specs.Runs.{IsRun}
use Rattle.ov_laws.proofs.History.Earlier.{letter_before, some_at}
use Rattle.ov_laws.proofs.Times.Begun.{drew_own}
use Rattle.ov_complete.specs.Facts.{Runs, Acknowledged}
use Rattle.ov_complete.specs.Stable.{Stable}
use Rattle.ov_complete.proofs.Finding.{some_found, drew_found, draw_is}
use Rattle.ov_complete.proofs.General.{stable_both, stable_some, stable_at, stable_runs, stable_drew, taking_stops, taking_draws, weight_under, node_in, gate_in}
use Rattle.ov_complete.proofs.Gives.{give_writes, give_acks}
use Rattle.ov_complete.proofs.Keeping.{keeps, makes, run_all}
use Rattle.ov_complete.proofs.Listed.{takes_letter, in_gather, in_over, in_each, in_running}

-- ---- letters

-- where the write of a touched partition stands among the letters of the entry that begins its transaction
write_there : (t : Shape) (g s c version : ℕ) (transaction : List Part) (p : ℕ) → p < t.partitions → touches t transaction p ≡ true
    → slice_get (letters_of t (began_by g s c (Draw version transaction))) (length (touched_below t transaction p)) ≡ Some (write_of t version transaction p)
write_there t g s c version transaction p inside touched_is =
    let place = length (touched_below t transaction p) in
    let mapped : slice_get (map (write_of t version transaction) (touched t transaction)) place ≡ option_map (write_of t version transaction) (slice_get (touched t transaction) place)
    = slice_get-map (write_of t version transaction) (touched t transaction) place in
    get_front (map (write_of t version transaction) (touched t transaction)) (Want s c g (Draw version transaction) ∷ []) place (write_of t version transaction p)
    (mapped ∙ ap (option_map (write_of t version transaction)) (touched_there t transaction p place inside touched_is refl))

-- letters have numbers from 1
numbered : (t : Shape) (e : Entry) (i : ℕ) (sent : Letter) → slice_get (letters_of t e) i ≡ Some sent → letter_in t e (1 + i) ≡ Some sent
numbered t e i sent there = let back : 1 + i - 1 ≡ i = omega arith in grind (arith, common_steps)

-- ---- tests under a test

both_pass : (b x : Bool) → (if b then x else false) ≡ true → (b ≡ true) × (x ≡ true)
both_pass true x is = (refl, is)
both_pass false x is = absurd cc

-- ---- pass 3

-- the entry by which a node stores a write
abbrev stored_by : ℕ → ℕ → Place → ℕ → List Item → Entry
stored_by c p place version items = record { actor = Node c p; kind = Stored place version items }

-- it stores its version
stores_now : (c p : ℕ) (place : Place) (version : ℕ) (items : List Item) (h : History) → stored c p version (stored_by c p place version items ∷ h) ≡ true
stores_now c p place version items h = rw (eq-eqb c c refl, eq-eqb p p refl, eq-eqb version version refl) refl

-- two places of one number and letter are one
same_place : (a b : Place) → same_letter a b ≡ true → a ≡ b
same_place a b is =
    let parts = and_parts (a.entry == b.entry) (a.letter == b.letter) is in
    let entry_is : a.entry ≡ b.entry = eqb-true a.entry b.entry parts.0 in
    let letter_is : a.letter ≡ b.letter = eqb-true a.letter b.letter parts.1 in
    λ i. record { entry = entry_is i; letter = letter_is i }

module _ (t : Setting) (h : History) (place : Place) (version p : ℕ) (items : List Item) (sent : letter t.topology h place ≡ Some (Write version p items)) where
  -- whoever stored the letter at the place stored its version
  stores_version : (j : ℕ) (a : Actor) (kind : Kind) → Guard t (before j h) a kind → stores_from place kind ≡ true → stores version kind ≡ true
  stores_version j (Node d q) (Stored from other list) guard is =
      let there : letter t.topology h from ≡ Some (Write other q list) = letter_before t.topology h j from (Write other q list) guard.there in
      let both : Some (Write other q list) ≡ Some (Write version p items) = sym there ∙ (ap (letter t.topology h) (same_place from place is) ∙ sent) in
      let same : other ≡ version = cc in
      eq-eqb other version same
  stores_version j (Gate g) (Stored from other list) guard is = absurd guard
  stores_version j (Settler s) (Stored from other list) guard is = absurd guard
  stores_version j a kind guard is = absurd cc

  -- a node that stored the letter at the place stored its version
  has_stored : (c : ℕ) → Lawful t h → stored_from (Node c p) place h ≡ true → stored c p version h ≡ true
  has_stored c lawful is =
      let found = some_found (λ e. if is_node c p e.actor then stores_from place e.kind else false) h is in
      let one = found.entry in
      let parts = both_pass (is_node c p one.actor) (stores_from place one.kind) found.passes in
      let its : stores version one.kind ≡ true = stores_version found.number one.actor one.kind (lawful_at t h found.number one lawful found.there).guard parts.1 in
      some_at (λ e. if is_node c p e.actor then stores version e.kind else false) h found.number one found.there (rw parts.0 its)

-- the place of an entry's letter behind so many others
abbrev place_behind : ℕ → ℕ → Place
place_behind k i = record { entry = k; letter = 1 + i }

module _ (t : Setting) (k : ℕ) (e : Entry) (i version p : ℕ) (items : List Item) (slot : slice_get (letters_of t.topology e) i ≡ Some (Write version p items)) where
  -- the write is at its place where the entry is
  write_at : (x : History) → at x k ≡ Some e → letter t.topology x (place_behind k i) ≡ Some (Write version p items)
  write_at x there = ap (λ (o : Option Entry). letter_from t.topology o (1 + i)) there ∙ numbered t.topology e i (Write version p items) slot

  -- a node of the partition that runs stores it
  gives_stored : (x : History) (c : ℕ) → is_in t.topology (Node c p) ≡ true → stopped (Node c p) x ≡ false → at x k ≡ Some e
      → gives t x (Node c p) (Take (place_behind k i)) ≡ Some (stored_by c p (place_behind k i) version items)
  gives_stored x c known runs there = rw (known, runs, write_at x there, eq-eqb p p refl) refl

  -- after pass 3 a node of the partition that runs has stored the version
  stored_then : (h : History) (c : ℕ) → IsRun t h → at h k ≡ Some e → c < t.topology.centres → p < t.topology.partitions → stopped (Node c p) h ≡ false
      → stored c p version (followed_all t h (writes t h)) ≡ true
  stored_then h c run there less inside runs = by (stored_from (Node c p) (place_behind k i) h) refl
    where
      stays : Stable t takes_letter (λ x. stored c p version x ≡ true)
      stays = stable_some t takes_letter (λ e. if is_node c p e.actor then stores version e.kind else false)

      make : (x : History) → IsRun t x → (at x k ≡ Some e) × (stopped (Node c p) x ≡ false) → stored c p version (followed t x (take (Node c p) k (1 + i))) ≡ true
      make x now has = rw (gives_stored x c (node_in t.topology c p less inside) has.1 has.0) (stores_now c p (place_behind k i) version items x)

      listed : stored_from (Node c p) (place_behind k i) h ≡ false → Among (take (Node c p) k (1 + i)) (writes t h)
      listed not_yet =
          let line = take (Node c p) k (1 + i) in
          in_gather (λ number e. over (write_lines t h number) 1 (letters_of t.topology e)) h k e line there
          (in_over (write_lines t h k) 1 (letters_of t.topology e) i (Write version p items) line slot
          (in_each (λ c. if stored_from (Node c p) (place_behind k i) h then [] else running h (take (Node c p) k (1 + i))) t.topology.centres c line less
          (rw not_yet (in_running h line runs))))

      by : (b : Bool) → stored_from (Node c p) (place_behind k i) h ≡ b → stored c p version (followed_all t h (writes t h)) ≡ true
      by true is = keeps stays h (writes t h) run (give_writes t h) (has_stored t h (place_behind k i) version p items (write_at h there) c run.1 is)
      by false is =
          makes (stable_both (stable_at t takes_letter k e) (stable_runs t takes_letter (Node c p) taking_stops)) stays h (writes t h) (take (Node c p) k (1 + i)) run (give_writes t h)
          (listed is) make (there, runs)

-- ---- pass 4

-- The node stored the version by an entry of this number.
record IsStored (h : History) (c p version : ℕ) : Type 0 where
  number : ℕ
  place : Place
  items : List Item
  there : at h number ≡ Some (stored_by c p place version items)

-- a node that stored a version did so by some entry
stored_is : (h : History) (c p version : ℕ) → stored c p version h ≡ true → IsStored h c p version
stored_is h c p version is =
    let found = some_found (λ e. if is_node c p e.actor then stores version e.kind else false) h is in
    let parts = both_pass (is_node c p found.entry.actor) (stores version found.entry.kind) found.passes in
    by found.number found.entry.actor found.entry.kind found.there parts.0 parts.1
  where
    by : (number : ℕ) (a : Actor) (kind : Kind) → at h number ≡ Some (record { actor = a; kind = kind }) → is_node c p a ≡ true → stores version kind ≡ true → IsStored h c p version
    by number (Node d q) (Stored place other items) there node own =
        let tests = both_pass (d == c) (q == p) node in
        let centre : d ≡ c = eqb-true d c tests.0 in
        let part : q ≡ p = eqb-true q p tests.1 in
        let same : other ≡ version = eqb-true other version own in
        record { number = number; place = place; items = items; there = rw (sym centre, sym part, sym same) there }
    by number (Gate g) kind there node own = absurd cc
    by number (Settler s) kind there node own = absurd cc
    by number a kind there node own = absurd cc

module _ (t : Setting) (c p version : ℕ) (place : Place) (items : List Item) (k : ℕ) where
  -- the entry by which the gateway of a version takes its acknowledgement
  abbrev acked_by : Entry
  acked_by = record { actor = Gate (gate_of version); kind = Acked (record { entry = k; letter = 1 }) version c p }

  -- it takes it
  acks_now : (h : History) → acked (gate_of version) version c p (acked_by ∷ h) ≡ true
  acks_now h = rw (eq-eqb (gate_of version) (gate_of version) refl, eq-eqb version version refl, eq-eqb c c refl, eq-eqb p p refl) refl

  -- the gateway of a version takes its acknowledgement, where it runs
  gives_acked : (x : History) → is_in t.topology (Gate (gate_of version)) ≡ true → stopped (Gate (gate_of version)) x ≡ false → at x k ≡ Some (stored_by c p place version items)
      → gives t x (Gate (gate_of version)) (Take (record { entry = k; letter = 1 })) ≡ Some acked_by
  gives_acked x known runs there = rw (known, runs, there, eq-eqb (gate_of version) (gate_of version) refl) refl

  -- after pass 4 the gateway of a version that was stored has taken the acknowledgement
  acked_then : (h : History) → IsRun t h → at h k ≡ Some (stored_by c p place version items) → gate_of version < gates t.topology → stopped (Gate (gate_of version)) h ≡ false
      → acked (gate_of version) version c p (followed_all t h (acks t h)) ≡ true
  acked_then h run there known runs = by (acked (gate_of version) version c p h) refl
    where
      stays : Stable t takes_letter (λ x. acked (gate_of version) version c p x ≡ true)
      stays = stable_some t takes_letter (λ e. if is_gate (gate_of version) e.actor then placement.acks version c p e.kind else false)

      make : (x : History) → IsRun t x → (at x k ≡ Some (stored_by c p place version items)) × (stopped (Gate (gate_of version)) x ≡ false)
          → acked (gate_of version) version c p (followed t x (take (Gate (gate_of version)) k 1)) ≡ true
      make x now has = rw (gives_acked x (gate_in t.topology (gate_of version) known) has.1 has.0) (acks_now x)

      listed : acked (gate_of version) version c p h ≡ false → Among (take (Gate (gate_of version)) k 1) (acks t h)
      listed not_yet =
          let line = take (Gate (gate_of version)) k 1 in
          in_gather (λ number e. ack_lines t h number e.actor e.kind) h k (stored_by c p place version items) line there (rw not_yet (in_running h line runs))

      by : (b : Bool) → acked (gate_of version) version c p h ≡ b → acked (gate_of version) version c p (followed_all t h (acks t h)) ≡ true
      by true is = keeps stays h (acks t h) run (give_acks t h) is
      by false is =
          makes (stable_both (stable_at t takes_letter k (stored_by c p place version items)) (stable_runs t takes_letter (Gate (gate_of version)) taking_stops)) stays
          h (acks t h) (take (Gate (gate_of version)) k 1) run (give_acks t h) (listed is) make (there, runs)

-- ---- both passes

-- After passes 3 and 4 each begun transaction is acknowledged by a write quorum of each partition that it touches.
pub acknowledged_then : (t : Setting) (h : History) → Runs t h → Acknowledged t.topology (passed t h (writes ∷ acks ∷ []))
acknowledged_then t h runs g drawn p known drew inside touches_it =
    let quorum : t.topology.write ≤ weight t.topology (λ c. not (stopped (Node c p) h)) = omega (arith, runs.whole.nodes p inside) in
    let enough : weight t.topology (λ c. not (stopped (Node c p) h)) ≤ ackers t.topology g drawn.version p (followed_all t written (acks t written)) =
    weight_under t.topology (λ c. not (stopped (Node c p) h)) (λ c. acked g drawn.version c p (followed_all t written (acks t written)))
    (λ c less on. its_ack c less (not-true (stopped (Node c p) h) on)) in
    omega (arith, quorum, enough)
  where
    written : History
    written = followed_all t h (writes t h)

    own : gate_of drawn.version ≡ g
    own = drew_own t (followed_all t written (acks t written)) g drawn (run_all t written (acks t written) (run_all t h (writes t h) runs.run)).1 drew

    -- it had begun before
    before_them : Drew g drawn h
    before_them =
        let stays = stable_drew t takes_letter g drawn (Drew g drawn h) taking_draws in
        keeps stays written (acks t written) (run_all t h (writes t h) runs.run) (give_acks t written) (keeps stays h (writes t h) runs.run (give_writes t h) (λ old. old)) drew

    its_store : (c : ℕ) → c < t.topology.centres → stopped (Node c p) h ≡ false → IsStored written c p drawn.version
    its_store c less on =
        let found = drew_found g drawn h before_them in
        let entry_is = draw_is g found.1 drawn found.3 in
        let there : at h found.0 ≡ Some (began_by g drawn.session drawn.seq (Draw drawn.version drawn.transaction)) = found.2 ∙ ap (λ (e : Entry). Some e) entry_is in
        let slot = write_there t.topology g drawn.session drawn.seq drawn.version drawn.transaction p inside touches_it in
        stored_is written c p drawn.version
        (stored_then t found.0 (began_by g drawn.session drawn.seq (Draw drawn.version drawn.transaction)) (length (touched_below t.topology drawn.transaction p)) drawn.version p
        (by_key (items_in t.topology p (items_of drawn.version drawn.transaction))) slot h c runs.run there less inside on)

    its_ack : (c : ℕ) → c < t.topology.centres → stopped (Node c p) h ≡ false → acked g drawn.version c p (followed_all t written (acks t written)) ≡ true
    its_ack c less on =
        let store = its_store c less on in
        let gate_runs : stopped (Gate (gate_of drawn.version)) written ≡ false
        = keeps (stable_runs t takes_letter (Gate (gate_of drawn.version)) taking_stops) h (writes t h) runs.run (give_writes t h) (runs.whole.gateways (gate_of drawn.version) (rw own known)) in
        subst (λ n. acked n drawn.version c p (followed_all t written (acks t written)) ≡ true) own
        (acked_then t c p drawn.version store.place store.items store.number written (run_all t h (writes t h) runs.run) store.there (rw own known) gate_runs)
