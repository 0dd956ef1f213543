-- An actor that is read is written so, and what is written is read again.
use Rattle.std.proofs.Common.{◌≡◌, ℕ, ◌+◌, ◌<◌, ◌≤◌, eqb, leb, ltb, ◌&&◌, true, ◌-◌, List, [], ◌∷◌, ◌++◌, Option, Some, None, refl, ap, subst, cond, arith, inl, inr, option_map}
use Rattle.std.specs.Fmt.{decimal}
use Rattle.std.proofs.lemmas.Bool.{lt-ltb, ltb-true, le-leb, leb-true, eqb-true, and_parts}
use Rattle.std.proofs.lemmas.Bool.Decides.{eqb_tells}
use Rattle.std.proofs.lemmas.Option.{cond_some}
use Rattle.std.proofs.lemmas.Fmt.{decimal_digit}
use Rattle.ov_base.specs.Word.{◌>>=◌, Reads}
use Rattle.ov_base.specs.Split.{lacks}
use Rattle.ov_base.proofs.GroupTexts.{IsGrouped}
use Rattle.ov_base.proofs.Readers.{bind_some, chosen, reads_by_laws}
use Rattle.ov_base.proofs.Splits.{decimal_lacks, lacks_appended}
use Rattle.ov_topology.specs.declared.actor.Actor.{Actor}
use Rattle.ov_topology.specs.declared.actor.Actor.TheVariants.{Gate, Node, Settler}
use Rattle.ov_topology.specs.Actor.{IsGate, IsNode, IsSettler, IsActor, gate_text, node_text, settler_text, actor_text, digit_of, gate_of, settler_of, node_at, node_of, or_else, actor_of}

-- ---- digits

digit_again : (limit n : ℕ) → n < limit → digit_of limit (48 + n) ≡ Some n
digit_again limit n low = rw (le-leb 48 (48 + n) (omega arith), lt-ltb (48 + n) (48 + limit) (omega arith)) (ap (λ (k : ℕ). Some k) (omega arith))

digit_takes : (limit byte n : ℕ) → digit_of limit byte ≡ Some n → (n < limit) × (byte ≡ 48 + n)
digit_takes limit byte n e =
    let q = cond_some (leb 48 byte && ltb byte (48 + limit)) (byte - 48) n e in
    let tests = and_parts (leb 48 byte) (ltb byte (48 + limit)) q.0 in
    let low = leb-true 48 byte tests.0 in
    let high = ltb-true byte (48 + limit) tests.1 in
    (omega (arith, q.1), omega (arith, q.1))

-- a letter and a digit
lettered_takes : (letter limit first digit n : ℕ) → limit ≤ 10 → cond (eqb first letter) (digit_of limit digit) None ≡ Some n → (n < limit) × (first ∷ digit ∷ [] ≡ letter ∷ decimal n)
lettered_takes letter limit first digit n few e =
    let q = chosen (eqb first letter) (digit_of limit digit) n e in
    let d = digit_takes limit digit n q.1 in
    (d.0, rw (eqb-true first letter q.0, d.1, decimal_digit n (omega (arith, d.0))) refl)

-- ---- gateways and settlers

pub gate_again : (gate : ℕ) → IsGate gate → gate_of (gate_text gate) ≡ Some gate
unfolding gate_of
gate_again gate low = rw (decimal_digit gate (omega arith)) (digit_again 8 gate low)

pub gate_takes : (bytes : List ℕ) (gate : ℕ) → gate_of bytes ≡ Some gate → IsGate gate × (bytes ≡ gate_text gate)
unfolding gate_of
gate_takes [] gate e = absurd cc
gate_takes (letter ∷ []) gate e = absurd cc
gate_takes (letter ∷ digit ∷ []) gate e = lettered_takes 103 8 letter digit gate (omega arith) e
gate_takes (letter ∷ digit ∷ more ∷ bytes) gate e = absurd cc

pub settler_again : (centre : ℕ) → IsSettler centre → settler_of (settler_text centre) ≡ Some centre
unfolding settler_of
settler_again centre low = rw (decimal_digit centre (omega arith)) (digit_again 5 centre low)

pub settler_takes : (bytes : List ℕ) (centre : ℕ) → settler_of bytes ≡ Some centre → IsSettler centre × (bytes ≡ settler_text centre)
unfolding settler_of
settler_takes [] centre e = absurd cc
settler_takes (letter ∷ []) centre e = absurd cc
settler_takes (letter ∷ digit ∷ []) centre e = lettered_takes 101 5 letter digit centre (omega arith) e
settler_takes (letter ∷ digit ∷ more ∷ bytes) centre e = absurd cc

-- ---- nodes

pub node_at_again : (centre part : ℕ) → IsNode centre part → node_at (node_text centre part) ≡ Some (centre, part)
unfolding node_at
node_at_again centre part h =
    rw (decimal_digit centre (omega (arith, h.0)), decimal_digit part (omega (arith, h.1)), digit_again 5 centre h.0, digit_again 8 part h.1) refl

pub node_at_takes : (bytes : List ℕ) (at : ℕ × ℕ) → node_at bytes ≡ Some at → IsNode at.0 at.1 × (bytes ≡ node_text at.0 at.1)
unfolding node_at
node_at_takes [] at e = absurd cc
node_at_takes (letter ∷ []) at e = absurd cc
node_at_takes (letter ∷ centre ∷ []) at e = absurd cc
node_at_takes (letter ∷ centre ∷ dot ∷ []) at e = absurd cc
node_at_takes (letter ∷ centre ∷ dot ∷ part ∷ []) at e =
    let q = chosen (eqb letter 110 && eqb dot 46) (digit_of 5 centre >>= λ c. digit_of 8 part >>= λ p. Some (c, p)) at e in
    let tests = and_parts (eqb letter 110) (eqb dot 46) q.0 in
    bind_some (digit_of 5 centre) _ at q.1 λ c here rest.
    bind_some (digit_of 8 part) _ at rest λ p there last.
    let h : ◌≡◌ {A = ℕ × ℕ} (c, p) at = cc in
    let first = digit_takes 5 centre c here in
    let second = digit_takes 8 part p there in
    subst (λ (a : ℕ × ℕ). IsNode a.0 a.1 × (letter ∷ centre ∷ dot ∷ part ∷ [] ≡ node_text a.0 a.1)) h (
      (first.0, second.0),
      rw (eqb-true letter 110 tests.0, eqb-true dot 46 tests.1, first.1, second.1, decimal_digit c (omega (arith, first.0)), decimal_digit p (omega (arith, second.0))) refl,
    )
node_at_takes (letter ∷ centre ∷ dot ∷ part ∷ more ∷ bytes) at e = absurd cc

-- what is read is the node that the bytes spell, and nothing where they spell none
pub node_at_reads : (bytes : List ℕ) → Reads (λ (at : ℕ × ℕ). node_text at.0 at.1) (λ (at : ℕ × ℕ). IsNode at.0 at.1) bytes (node_at bytes)
node_at_reads bytes =
    reads_by_laws node_at (λ (at : ℕ × ℕ). node_text at.0 at.1) (λ (at : ℕ × ℕ). IsNode at.0 at.1) (λ at h. node_at_again at.0 at.1 h) node_at_takes bytes

node_again : (centre part : ℕ) → IsNode centre part → node_of (node_text centre part) ≡ Some (Node centre part)
node_again centre part h = rw (node_at_again centre part h) refl

node_takes : (bytes : List ℕ) (actor : Actor) → node_of bytes ≡ Some actor → IsActor actor × (bytes ≡ actor_text actor)
node_takes bytes actor e =
    bind_some (node_at bytes) _ actor e λ at read last.
    let h : ◌≡◌ {A = Actor} (Node at.0 at.1) actor = cc in
    subst (λ (a : Actor). IsActor a × (bytes ≡ actor_text a)) h (node_at_takes bytes at read)

-- ---- actors

-- which of two gave the value
which : {A P : Type 0} (o other : Option A) (y : A) → or_else o other ≡ Some y → (o ≡ Some y → P) → (other ≡ Some y → P) → P
which None other y e f g = g e
which (Some x) other y e f g = f e

map_some : {A B P : Type 0} (f : A → B) (o : Option A) (y : B) → option_map f o ≡ Some y → ((x : A) → o ≡ Some x → f x ≡ y → P) → P
map_some f None y e k = absurd cc
map_some f (Some x) y e k = k x refl cc

pub actor_again : (actor : Actor) → IsActor actor → actor_of (actor_text actor) ≡ Some actor
unfolding actor_of gate_of settler_of
actor_again (Gate gate) low = rw (gate_again gate low) refl
actor_again (Node centre part) low =
    rw (decimal_digit centre (omega (arith, low.0)), decimal_digit part (omega (arith, low.1))) (
    let h = node_again centre part low in
    rw (decimal_digit centre (omega (arith, low.0)), decimal_digit part (omega (arith, low.1))) at h
    )
actor_again (Settler centre) low =
    let h = settler_again centre low in
    rw (decimal_digit centre (omega arith)) (let k = rw (decimal_digit centre (omega arith)) at h in rw k refl)

pub actor_takes : (bytes : List ℕ) (actor : Actor) → actor_of bytes ≡ Some actor → IsActor actor × (bytes ≡ actor_text actor)
unfolding actor_of
actor_takes bytes actor e =
    let goal = λ (a : Actor). IsActor a × (bytes ≡ actor_text a) in
    which (option_map Gate (gate_of bytes)) _ actor e
    (λ h. map_some Gate (gate_of bytes) actor h λ gate read is. subst goal is (gate_takes bytes gate read))
    λ rest. which (option_map Settler (settler_of bytes)) _ actor rest
    (λ h. map_some Settler (settler_of bytes) actor h λ centre read is. subst goal is (settler_takes bytes centre read))
    λ last. node_takes bytes actor last

-- ---- what stands in the words

lettered_lacks : (b letter : ℕ) (rest : List ℕ) → b < 46 → 46 < letter → lacks b rest ≡ true → lacks b (letter ∷ rest) ≡ true
lettered_lacks b letter rest low high h = elim (eqb_tells letter b) [ inl e ↦ absurd (omega (arith, e.1)) | inr e ↦ rw e.0 h ]

-- the words lack each byte below the dot, as a space and a line feed
pub gate_lacks : (b gate : ℕ) → b < 46 → IsGate gate → lacks b (gate_text gate) ≡ true
gate_lacks b gate low h = lettered_lacks b 103 (decimal gate) low (omega arith) (decimal_lacks b gate (omega arith) (omega arith))

pub settler_lacks : (b centre : ℕ) → b < 46 → IsSettler centre → lacks b (settler_text centre) ≡ true
settler_lacks b centre low h = lettered_lacks b 101 (decimal centre) low (omega arith) (decimal_lacks b centre (omega arith) (omega arith))

pub node_lacks : (b centre part : ℕ) → b < 46 → IsNode centre part → lacks b (node_text centre part) ≡ true
node_lacks b centre part low h =
    let behind : lacks b (46 ∷ decimal part) ≡ true =
    elim (eqb_tells 46 b) [ inl e ↦ absurd (omega (arith, e.1)) | inr e ↦ rw e.0 (decimal_lacks b part (omega arith) (omega (arith, h.1))) ] in
    lettered_lacks b 110 (decimal centre ++ 46 ∷ decimal part) low (omega arith)
    (lacks_appended b (decimal centre) (46 ∷ decimal part) (decimal_lacks b centre (omega arith) (omega (arith, h.0))) behind)

pub actor_lacks : (b : ℕ) (actor : Actor) → b < 46 → IsActor actor → lacks b (actor_text actor) ≡ true
actor_lacks b (Gate gate) low h = gate_lacks b gate low h
actor_lacks b (Node centre part) low h = node_lacks b centre part low h
actor_lacks b (Settler centre) low h = settler_lacks b centre low h

-- the word of an actor is not empty
pub actor_some : (actor : Actor) → (letter : ℕ) × (rest : List ℕ) × (actor_text actor ≡ letter ∷ rest)
actor_some (Gate gate) = (103, decimal gate, refl)
actor_some (Node centre part) = (110, decimal centre ++ 46 ∷ decimal part, refl)
actor_some (Settler centre) = (101, decimal centre, refl)

-- ---- the words can stand in a group of a line

pub gate_grouped : (gate : ℕ) → IsGate gate → IsGrouped (gate_text gate)
gate_grouped gate h = record { space = gate_lacks 32 gate (omega arith) h; line = gate_lacks 10 gate (omega arith) h; apart = refl }

pub settler_grouped : (centre : ℕ) → IsSettler centre → IsGrouped (settler_text centre)
settler_grouped centre h = record { space = settler_lacks 32 centre (omega arith) h; line = settler_lacks 10 centre (omega arith) h; apart = refl }

pub node_grouped : (centre part : ℕ) → IsNode centre part → IsGrouped (node_text centre part)
node_grouped centre part h = record { space = node_lacks 32 centre part (omega arith) h; line = node_lacks 10 centre part (omega arith) h; apart = refl }

pub actor_grouped : (actor : Actor) → IsActor actor → IsGrouped (actor_text actor)
actor_grouped (Gate gate) h = gate_grouped gate h
actor_grouped (Node centre part) h = node_grouped centre part h
actor_grouped (Settler centre) h = settler_grouped centre h
