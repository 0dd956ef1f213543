-- The actors of a topology and their numbers are inverse to each other.
use Rattle.std.proofs.Common.{◌≡◌, ℕ, ◌+◌, ◌-◌, ◌*◌, ◌/◌, ◌%◌, ◌<◌, ltb, ◌&&◌, Option, Some, None, refl, sym, ap, subst, IfSome, ◌∙◌, arith, inl, inr, ◌↔◌}
use Rattle.std.proofs.lemmas.Bool.{cases_Bool, lt-ltb, ltb-true, ltb-false, le-ltb, and_parts}
use Rattle.std.proofs.lemmas.Option.{cond_some}
use Rattle.std.proofs.lemmas.Nat.{div-mul-add, mod-mul-add, div-add-mod', mul-add-lt}
use Rattle.std.proofs.Math.Nat.{div-lt_iff_lt-mul, mod-lt}
use Rattle.ov_topology.specs.Shape.{Shape, IsShape, gates}
use Rattle.ov_topology.specs.Actor.{IsActor}
use Rattle.ov_topology.specs.Numbers.{nodes, actors, number_of, settler_at, node_at, actor_at}
use Rattle.ov_topology.specs.declared.actor.Actor.{Actor}
use Rattle.ov_topology.specs.declared.actor.Actor.TheVariants.{Gate, Node, Settler}

-- ---- from a number to its actor

-- an actor behind the gateways
behind_gates : (t : Shape) (rest : ℕ) → actor_at t (gates t + rest) ≡ node_at t rest
behind_gates t rest =
    let same : gates t + rest - gates t ≡ rest = omega arith in
    rw (le-ltb (gates t + rest) (gates t) (omega arith)) (ap (node_at t) same)

node_there : (t : Shape) (centre part : ℕ) → centre < t.centres → part < t.partitions → node_at t (centre * t.partitions + part) ≡ Some (Node centre part)
node_there t centre part low few =
    let within : centre * t.partitions + part < nodes t = omega (arith, mul-add-lt centre t.partitions part t.centres low few) in
    rw (lt-ltb (centre * t.partitions + part) (nodes t) within, div-mul-add centre t.partitions part few, mod-mul-add centre t.partitions part few) refl

settler_there : (t : Shape) (centre : ℕ) → centre < t.centres → node_at t (nodes t + centre) ≡ Some (Settler centre)
settler_there t centre low =
    let same : nodes t + centre - nodes t ≡ centre = omega arith in
    rw (le-ltb (nodes t + centre) (nodes t) (omega arith), same, lt-ltb centre t.centres low) refl

-- the actor that has a number is the actor of that number
pub actor_of_number : (t : Shape) (actor : Actor) (number : ℕ) → number_of t actor ≡ Some number → actor_at t number ≡ Some actor
actor_of_number t (Gate gate) number e =
    let q = cond_some (ltb gate (gates t)) gate number e in
    subst (λ (n : ℕ). actor_at t n ≡ Some (Gate gate)) q.1 (rw q.0 refl)
actor_of_number t (Node centre part) number e =
    let q = cond_some (ltb centre t.centres && ltb part t.partitions) (gates t + centre * t.partitions + part) number e in
    let tests = and_parts (ltb centre t.centres) (ltb part t.partitions) q.0 in
    let is : gates t + (centre * t.partitions + part) ≡ number = omega (arith, q.1) in
    subst (λ (n : ℕ). actor_at t n ≡ Some (Node centre part)) is
    (behind_gates t (centre * t.partitions + part) ∙ node_there t centre part (ltb-true centre t.centres tests.0) (ltb-true part t.partitions tests.1))
actor_of_number t (Settler centre) number e =
    let q = cond_some (ltb centre t.centres) (gates t + nodes t + centre) number e in
    let is : gates t + (nodes t + centre) ≡ number = omega (arith, q.1) in
    subst (λ (n : ℕ). actor_at t n ≡ Some (Settler centre)) is
    (behind_gates t (nodes t + centre) ∙ settler_there t centre (ltb-true centre t.centres q.0))

-- ---- from an actor to its number

settler_number : (t : Shape) (number : ℕ) (actor : Actor) → settler_at t number ≡ Some actor → number_of t actor ≡ Some (gates t + nodes t + number)
settler_number t number actor e =
    let q = cond_some (ltb number t.centres) (Settler number) actor e in
    subst (λ (a : Actor). number_of t a ≡ Some (gates t + nodes t + number)) q.1 (rw q.0 refl)

node_number : (t : Shape) → 0 < t.partitions → (number : ℕ) (actor : Actor) → node_at t number ≡ Some actor → number_of t actor ≡ Some (gates t + number)
node_number t some number actor e =
    elim (cases_Bool (ltb number (nodes t))) [
      | inl here ↦ let h : Some (Node (number / t.partitions) (number % t.partitions)) ≡ Some actor = rw here at e in
          let is : ◌≡◌ {A = Actor} (Node (number / t.partitions) (number % t.partitions)) actor = cc in
          let low : number / t.partitions < t.centres = (div-lt_iff_lt-mul some).1 (ltb-true number (nodes t) here) in
          let few : number % t.partitions < t.partitions = mod-lt number some in
          let sum : gates t + number / t.partitions * t.partitions + number % t.partitions ≡ gates t + number = omega (arith, div-add-mod' number t.partitions) in
          subst (λ (a : Actor). number_of t a ≡ Some (gates t + number)) is
          (rw (lt-ltb (number / t.partitions) t.centres low, lt-ltb (number % t.partitions) t.partitions few) (ap (λ (n : ℕ). Some n) sum))
      | inr past ↦ let h : settler_at t (number - nodes t) ≡ Some actor = rw past at e in
          let far = ltb-false number (nodes t) past in
          let sum : gates t + nodes t + (number - nodes t) ≡ gates t + number = omega arith in
          settler_number t (number - nodes t) actor h ∙ ap (λ (n : ℕ). Some n) sum
    ]

-- the number that has an actor is the number of that actor
pub number_of_actor : (t : Shape) → IsShape t → (number : ℕ) (actor : Actor) → actor_at t number ≡ Some actor → number_of t actor ≡ Some number
number_of_actor t shape number actor e =
    elim (cases_Bool (ltb number (gates t))) [
      | inl here ↦ let h : Some (Gate number) ≡ Some actor = rw here at e in
          let is : ◌≡◌ {A = Actor} (Gate number) actor = cc in
          subst (λ (a : Actor). number_of t a ≡ Some number) is (rw here refl)
      | inr past ↦ let h : node_at t (number - gates t) ≡ Some actor = rw past at e in
          let far = ltb-false number (gates t) past in
          let sum : gates t + (number - gates t) ≡ number = omega arith in
          node_number t (omega (arith, shape.some_partition)) (number - gates t) actor h ∙ ap (λ (n : ℕ). Some n) sum
    ]

-- numbers and actors are inverse to each other
pub numbers_inverse : (t : Shape) → IsShape t → (actor : Actor) (number : ℕ) → (number_of t actor ≡ Some number) ↔ (actor_at t number ≡ Some actor)
numbers_inverse t shape actor number = (actor_of_number t actor number, number_of_actor t shape number actor)

-- ---- what is known of the actors of a topology

-- a number is below the number of actors
pub number_below : (t : Shape) (actor : Actor) (number : ℕ) → number_of t actor ≡ Some number → number < actors t
number_below t (Gate gate) number e =
    let q = cond_some (ltb gate (gates t)) gate number e in
    let low = ltb-true gate (gates t) q.0 in
    omega (arith, q.1)
number_below t (Node centre part) number e =
    let q = cond_some (ltb centre t.centres && ltb part t.partitions) (gates t + centre * t.partitions + part) number e in
    let tests = and_parts (ltb centre t.centres) (ltb part t.partitions) q.0 in
    let within = mul-add-lt centre t.partitions part t.centres (ltb-true centre t.centres tests.0) (ltb-true part t.partitions tests.1) in
    omega (arith, q.1)
number_below t (Settler centre) number e =
    let q = cond_some (ltb centre t.centres) (gates t + nodes t + centre) number e in
    let low = ltb-true centre t.centres q.0 in
    omega (arith, q.1)

-- an actor that has a number has a word
pub actor_has_word : (t : Shape) → IsShape t → (actor : Actor) (number : ℕ) → number_of t actor ≡ Some number → IsActor actor
actor_has_word t shape (Gate gate) number e =
    let q = cond_some (ltb gate (gates t)) gate number e in
    let low = ltb-true gate (gates t) q.0 in
    omega (arith, shape.few_gateways)
actor_has_word t shape (Node centre part) number e =
    let q = cond_some (ltb centre t.centres && ltb part t.partitions) (gates t + centre * t.partitions + part) number e in
    let tests = and_parts (ltb centre t.centres) (ltb part t.partitions) q.0 in
    let low = ltb-true centre t.centres tests.0 in
    let few = ltb-true part t.partitions tests.1 in
    (omega (arith, shape.few_centres), omega (arith, shape.few_partitions))
actor_has_word t shape (Settler centre) number e =
    let q = cond_some (ltb centre t.centres) (gates t + nodes t + centre) number e in
    let low = ltb-true centre t.centres q.0 in
    omega (arith, shape.few_centres)

-- what holds of each answer there is
pub if_answered : {A : Type 0} (P : A → Type 0) (answer other : Option A) → answer ≡ other → ((x : A) → other ≡ Some x → P x) → IfSome answer P
if_answered P None other e f = tt
if_answered P (Some x) other e f = f x (sym e)
