-- The functor of a key gives what the whole transaction gives.
use Rattle.std.proofs.Common.{◌≡◌, ℕ, Bool, true, false, ◌&&◌, Some, None, Option, List, [], ◌∷◌, map, refl, ◌∙◌, ap, subst, arith}
use Rattle.std.proofs.lemmas.Grind.{common_steps}
use Rattle.ov_base.specs.Lemmas.{key_eq-cases}
use Rattle.ov_base.specs.declared.value.Value.{Value}
use Rattle.ov_functor.specs.declared.effect.Effect.{Effect}
use Rattle.ov_functor.specs.declared.effect.Effect.TheVariants as effects
use Rattle.ov_functor.specs.declared.part.Move.{Move}
use Rattle.ov_functor.specs.declared.part.Part.{Part}
use Rattle.ov_functor.specs.declared.part.Part.TheVariants as parts
use Rattle.ov_functor.specs.Execution.{Map, changed, covers, moves_of, hold, written, all_written, exec}
use Rattle.ov_functor.specs.Functor.{effect_in, effect_of, or_else, functor_by, functor_of, move_keys, reads, inputs_hold, input_at, applied, apply}
use Rattle.ov_functor.specs.Placeholder.{Placeholder}

-- what an effect makes of a value, where there is one
abbrev pub changed_by : Option Effect → Value → Value
changed_by None previous = previous
changed_by (Some effect) previous = changed effect previous

-- where a map has at the key what the other parts make of it, it has what all make of it once this part has written
pub written-is-effect_in : (old : Map) (key : List ℕ) (part : Part) (new : Map) (rest : Option Effect) →
    new key ≡ changed_by rest (old key) → written old part new key ≡ changed_by (or_else (effect_in key part) rest) (old key)
written-is-effect_in old key (parts.Put other amount) new rest is = grind (arith, common_steps, key_eq-cases other key)
written-is-effect_in old key (parts.Del other) new rest is = grind (arith, common_steps, key_eq-cases other key)
written-is-effect_in old key (parts.Add other amount) new rest is = grind (arith, common_steps, key_eq-cases other key)
written-is-effect_in old key (parts.Least other amount) new rest is = grind (arith, common_steps, key_eq-cases other key)
written-is-effect_in old key (parts.Greatest other amount) new rest is = grind (arith, common_steps, key_eq-cases other key)
written-is-effect_in old key (parts.Move from to amount) new rest is = grind (arith, common_steps, key_eq-cases from key, key_eq-cases to key)
written-is-effect_in old key (parts.Get other) new rest is = is

-- all parts together make of each key what its effect makes of it
pub all_written-is-effect_of : (old : Map) (key : List ℕ) (transaction : List Part) → all_written old transaction key ≡ changed_by (effect_of key transaction) (old key)
all_written-is-effect_of old key [] = refl
all_written-is-effect_of old key (part ∷ others) = written-is-effect_in old key part (all_written old others) (effect_of key others) (all_written-is-effect_of old key others)

-- the moves hold on their inputs exactly where they hold on the map
pub inputs_hold-is-hold : (old : Map) (moves : List Move) → inputs_hold moves (map old (move_keys moves)) ≡ hold old moves
inputs_hold-is-hold old [] = refl
inputs_hold-is-hold old (move ∷ moves) = ap (λ holds. covers move.amount (old move.from) (old move.to) && holds) (inputs_hold-is-hold old moves)

-- whether an effect is one side of a move
abbrev pub is_one_side : Effect → Bool
is_one_side (effects.Out amount) = true
is_one_side (effects.In amount) = true
is_one_side effect = false

-- a key whose effect is one side of a move stands among the keys of the moves
pub input_at-of-a-side : (old : Map) (key : List ℕ) (effect : Effect) (transaction : List Part) → effect_of key transaction ≡ Some effect →
    is_one_side effect ≡ true → input_at key (moves_of transaction) (map old (move_keys (moves_of transaction))) ≡ old key
input_at-of-a-side old key effect [] is side = cc
input_at-of-a-side old key effect (parts.Put other amount ∷ others) is side = let rest = input_at-of-a-side old key effect others in grind (arith, common_steps)
input_at-of-a-side old key effect (parts.Del other ∷ others) is side = let rest = input_at-of-a-side old key effect others in grind (arith, common_steps)
input_at-of-a-side old key effect (parts.Add other amount ∷ others) is side = let rest = input_at-of-a-side old key effect others in grind (arith, common_steps)
input_at-of-a-side old key effect (parts.Least other amount ∷ others) is side = let rest = input_at-of-a-side old key effect others in grind (arith, common_steps)
input_at-of-a-side old key effect (parts.Greatest other amount ∷ others) is side = let rest = input_at-of-a-side old key effect others in grind (arith, common_steps)
input_at-of-a-side old key effect (parts.Move from to amount ∷ others) is side =
    let rest = input_at-of-a-side old key effect others in
    grind (arith, common_steps, key_eq-cases from key, key_eq-cases to key)
input_at-of-a-side old key effect (parts.Get other ∷ others) is side = input_at-of-a-side old key effect others is side

-- a functor on the values of a map gives its effect on the key's own value where the moves hold
pub apply-is-applied : (old : Map) (key : List ℕ) (effect : Effect) (moves : List Move) → (is_one_side effect ≡ true → input_at key moves (map old (move_keys moves)) ≡ old key) →
    apply (record { key = key; effect = effect; moves = moves }) (map old (reads (record { key = key; effect = effect; moves = moves }))) ≡ applied effect (hold old moves) (old key)
unfolding changed
apply-is-applied old key (effects.Put amount) [] own = refl
apply-is-applied old key effects.Del [] own = refl
apply-is-applied old key (effects.Put amount) (move ∷ moves) own = ap (λ holds. applied (effects.Put amount) holds (old key)) (inputs_hold-is-hold old (move ∷ moves))
apply-is-applied old key effects.Del (move ∷ moves) own = ap (λ holds. applied effects.Del holds (old key)) (inputs_hold-is-hold old (move ∷ moves))
apply-is-applied old key (effects.Add amount) moves own = ap (λ holds. applied (effects.Add amount) holds (old key)) (inputs_hold-is-hold old moves)
apply-is-applied old key (effects.Least amount) moves own = ap (λ holds. applied (effects.Least amount) holds (old key)) (inputs_hold-is-hold old moves)
apply-is-applied old key (effects.Greatest amount) moves own = ap (λ holds. applied (effects.Greatest amount) holds (old key)) (inputs_hold-is-hold old moves)
apply-is-applied old key (effects.Out amount) moves own = rw (inputs_hold-is-hold old moves, own refl) refl
apply-is-applied old key (effects.In amount) moves own = rw (inputs_hold-is-hold old moves, own refl) refl

-- the functor of a key on the old map gives what executing the whole transaction makes of the key
pub apply-is-exec : (old : Map) (transaction : List Part) (key : List ℕ) (functor : Placeholder) → functor_of transaction key ≡ Some functor →
    apply functor (map old (reads functor)) ≡ exec old transaction key
apply-is-exec old transaction key functor is = by (effect_of key transaction) refl is
  where
    by : (found : Option Effect) → effect_of key transaction ≡ found → functor_by key found (moves_of transaction) ≡ Some functor →
        apply functor (map old (reads functor)) ≡ exec old transaction key
    by None found_is is = cc
    by (Some effect) found_is is =
        let own = input_at-of-a-side old key effect transaction found_is in
        let same : record { key = key; effect = effect; moves = moves_of transaction } ≡ functor = cc in
        let value = apply-is-applied old key effect (moves_of transaction) own in
        let all = all_written-is-effect_of old key transaction in
        subst (λ one. apply one (map old (reads one)) ≡ exec old transaction key) same (value ∙ grind (arith, common_steps))

-- a key that has no functor keeps its value
pub exec-keeps-others : (old : Map) (transaction : List Part) (key : List ℕ) → functor_of transaction key ≡ None → exec old transaction key ≡ old key
exec-keeps-others old transaction key is = by (effect_of key transaction) refl is
  where
    by : (found : Option Effect) → effect_of key transaction ≡ found → functor_by key found (moves_of transaction) ≡ None → exec old transaction key ≡ old key
    by None found_is is = let all = all_written-is-effect_of old key transaction in grind (arith, common_steps)
    by (Some effect) found_is is = cc
