-- The words of actors.
use Rattle.std.specs.Prelude.{ℕ, ◌+◌, ◌-◌, ◌<◌, ◌&&◌, ◌==◌, nat_le, nat_lt, List, [], ◌∷◌, ◌++◌, Option, Some, None, if◌then◌else◌}
use Rattle.std.specs.Fmt.{decimal}
use Rattle.std.specs.Option.{option_map}
use Rattle.ov_base.specs.Word.{◌>>=◌}
use Rattle.ov_topology.specs.declared.actor.Actor.{Actor}
use Rattle.ov_topology.specs.declared.actor.Actor.TheVariants.{Gate, Node, Settler}

-- the gateways that have a word
abbrev pub IsGate : ℕ → Type 0
IsGate gate = gate < 8

-- the nodes that have a word
abbrev pub IsNode : ℕ → ℕ → Type 0
IsNode centre part = (centre < 5) × (part < 8)

-- the settlers that have a word
abbrev pub IsSettler : ℕ → Type 0
IsSettler centre = centre < 5

-- the actors that have a word
abbrev pub IsActor : Actor → Type 0
IsActor (Gate gate) = IsGate gate
IsActor (Node centre part) = IsNode centre part
IsActor (Settler centre) = IsSettler centre

-- `g` and a digit
abbrev pub gate_text : ℕ → List ℕ
gate_text gate = 103 ∷ decimal gate

-- `n`, a digit, a dot and a digit
abbrev pub node_text : ℕ → ℕ → List ℕ
node_text centre part = 110 ∷ decimal centre ++ 46 ∷ decimal part

-- `e` and a digit
abbrev pub settler_text : ℕ → List ℕ
settler_text centre = 101 ∷ decimal centre

-- the one spelling
abbrev pub actor_text : Actor → List ℕ
actor_text (Gate gate) = gate_text gate
actor_text (Node centre part) = node_text centre part
actor_text (Settler centre) = settler_text centre

-- the number of a digit, where it is below the limit
abbrev pub digit_of : ℕ → ℕ → Option ℕ
digit_of limit byte = if nat_le 48 byte && nat_lt byte (48 + limit) then Some (byte - 48) else None

-- reading `g0` to `g7`
unfoldable pub gate_of : List ℕ → Option ℕ
gate_of [] = None
gate_of (letter ∷ []) = None
gate_of (letter ∷ digit ∷ []) = if letter == 103 then digit_of 8 digit else None
gate_of (letter ∷ digit ∷ more ∷ bytes) = None

-- reading `e0` to `e4`
unfoldable pub settler_of : List ℕ → Option ℕ
settler_of [] = None
settler_of (letter ∷ []) = None
settler_of (letter ∷ digit ∷ []) = if letter == 101 then digit_of 5 digit else None
settler_of (letter ∷ digit ∷ more ∷ bytes) = None

-- reading `n0.0` to `n4.7`: the centre and the partition
unfoldable pub node_at : List ℕ → Option (ℕ × ℕ)
node_at [] = None
node_at (letter ∷ []) = None
node_at (letter ∷ centre ∷ []) = None
node_at (letter ∷ centre ∷ dot ∷ []) = None
node_at (letter ∷ centre ∷ dot ∷ part ∷ []) = if (letter == 110) && (dot == 46) then (digit_of 5 centre >>= λ c. digit_of 8 part >>= λ p. Some (c, p)) else None
node_at (letter ∷ centre ∷ dot ∷ part ∷ more ∷ bytes) = None

-- reading the word of a node
abbrev pub node_of : List ℕ → Option Actor
node_of bytes = node_at bytes >>= λ at. Some (Node at.0 at.1)

-- the first of two that is something
abbrev pub or_else : {A : Type 0} → Option A → Option A → Option A
or_else None other = other
or_else (Some x) other = Some x

-- reading an actor
unfoldable pub actor_of : List ℕ → Option Actor
actor_of bytes = or_else (option_map Gate (gate_of bytes)) (or_else (option_map Settler (settler_of bytes)) (node_of bytes))
