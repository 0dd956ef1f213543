-- The actors of a topology have words, and so do the places of a history's letters.
use Rattle.std.proofs.Common.{◌≡◌, ℕ, zero, suc, ◌-◌, ◌^◌, ◌≤◌, ◌<◌, Bool, true, false, inl, inr, Some, None, List, [], ◌∷◌, ◌++◌, length, ltb, refl, arith}
use Rattle.std.specs.Prelude.{if◌then◌else◌}
use Rattle.std.proofs.lemmas.Bool.{cases_Bool, ltb-true, ltb-false}
use Rattle.std.proofs.lemmas.Bool.Decides.{eqb_tells}
use Rattle.std.proofs.lemmas.List.{length-append, length-map}
use Rattle.ov_functor.specs.declared.part.Part.{Part}
use Rattle.ov_topology.specs.Actor.{IsActor}
use Rattle.ov_topology.specs.Place.{IsPlace}
use Rattle.ov_topology.specs.Shape.{Shape, IsShape, gates}
use Rattle.ov_topology.specs.declared.actor.Actor.{Actor}
use Rattle.ov_topology.specs.declared.actor.Actor.TheVariants.{Gate, Node, Settler}
use Rattle.ov_topology.specs.declared.place.Place.{Place}
use Rattle.ov_event.specs.Letters.{write_of, touches, touched_below, touched, writes_of, letter_in, is_in}
use Rattle.ov_event.specs.declared.entry.Entry.{Entry}
use Rattle.ov_event.specs.declared.kind.Kind.{Kind}
use Rattle.ov_event.specs.declared.kind.Kind.TheVariants.{Began}
use Rattle.ov_event.specs.declared.letter.Letter.{Letter}
use Rattle.ov_event.specs.declared.start.Start.TheVariants.{Draw}
use Rattle.ov_event.proofs.Numbered.{number_past}
use Rattle.ov_history.specs.Past.{History}
use Rattle.ov_history.specs.Letters.{letter}
use Rattle.ov_history.proofs.Given.{gate_known, node_known, settler_known}
use Rattle.ov_laws.proofs.History.Earlier.{at_bound, letter_at}

-- ---- actors

-- an actor of the topology has a word
pub actor_spelled : (t : Shape) (a : Actor) → IsShape t → is_in t a ≡ true → IsActor a
actor_spelled t (Gate g) shape known =
    let inside : g < gates t = gate_known t g known in
    let few : gates t ≤ 8 = shape.few_gateways in
    omega (arith, inside, few)
actor_spelled t (Node c p) shape known =
    let inside = node_known t c p known in
    let centre : c < t.centres = inside.0 in
    let part : p < t.partitions = inside.1 in
    let few_centres : t.centres ≤ 5 = shape.few_centres in
    let few_partitions : t.partitions ≤ 8 = shape.few_partitions in
    (omega (arith, centre, few_centres), omega (arith, part, few_partitions))
actor_spelled t (Settler s) shape known =
    let inside : s < t.centres = settler_known t s known in
    let few : t.centres ≤ 5 = shape.few_centres in
    omega (arith, inside, few)

-- ---- places

-- no more partitions are touched than there are
touched_few : (t : Shape) (transaction : List Part) (n : ℕ) → length (touched_below t transaction n) ≤ n
touched_few t transaction zero = omega arith
touched_few t transaction (suc n) = by (touches t transaction n) (touched_few t transaction n)
  where
    by : (b : Bool) → length (touched_below t transaction n) ≤ n → length (touched_below t transaction n ++ (if b then n ∷ [] else [])) ≤ suc n
    by true few = omega (arith, few, length-append (touched_below t transaction n) (n ∷ []))
    by false few = omega (arith, few, length-append {A = ℕ} (touched_below t transaction n) [])

-- an entry has a write for each partition at most
writes_few : (t : Shape) (a : Actor) (k : Kind) → length (writes_of t a k) ≤ t.partitions
writes_few t (Gate g) (Began session seq (Draw version transaction)) =
    omega (arith, length-map (touched t transaction) (write_of t version transaction), touched_few t transaction t.partitions)
writes_few t a k = omega arith

-- a letter has one of the numbers from 1 to 9
letter_digit : (t : Shape) (e : Entry) (number : ℕ) (sent : Letter) → IsShape t → letter_in t e number ≡ Some sent → (1 ≤ number) × (number ≤ 9)
letter_digit t e number sent shape is = elim (eqb_tells number 0) [
  | inl none ↦ let nothing : letter_in t e number ≡ None = rw none.0 refl in absurd cc
  | inr other ↦ elim (cases_Bool (ltb (length (writes_of t e.actor e.kind)) (number - 1))) [
    | inl past ↦ let nothing : letter_in t e number ≡ None = number_past t e number other.1 (ltb-true (length (writes_of t e.actor e.kind)) (number - 1) past) in absurd cc
    | inr within ↦
        let low : number - 1 ≤ length (writes_of t e.actor e.kind) = ltb-false (length (writes_of t e.actor e.kind)) (number - 1) within in
        let few : t.partitions ≤ 8 = shape.few_partitions in
        (omega (arith, other.1), omega (arith, low, few, writes_few t e.actor e.kind))
  ]
]

-- the place of a letter has words
pub place_spelled : (t : Shape) (h : History) (place : Place) (sent : Letter) → IsShape t → length h < 2 ^ 64 → letter t h place ≡ Some sent → IsPlace place
place_spelled t h place sent shape short is =
    let found = letter_at t h place.entry place.letter sent is in
    let bound = at_bound h place.entry found.0 found.1 in
    let last : place.entry ≤ length h = bound.1 in
    let digit = letter_digit t found.0 place.letter sent shape found.2 in
    record { entry = bound.0; held = omega (arith, last, short); letter = digit.0; digit = digit.1 }
