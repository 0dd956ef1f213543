-- The values of a transaction's items, set over the old map, are what executing it whole gives.
use Rattle.std.proofs.Common.{◌≡◌, ℕ, true, List, [], ◌∷◌, ◌++◌, map, Option, Some, None, refl, sym, ap, subst, ◌∙◌, inl, inr, ◌⊎◌}
use Rattle.std.proofs.lemmas.Bool.{cases_Bool}
use Rattle.ov_base.specs.Key.{key_eq}
use Rattle.ov_base.specs.Lemmas.{key_eq-equiv, key_eq-exact}
use Rattle.ov_functor.specs.declared.effect.Effect.{Effect}
use Rattle.ov_functor.specs.declared.effect.Effect.TheVariants as effects
use Rattle.ov_functor.specs.declared.part.Part.{Part}
use Rattle.ov_functor.specs.declared.part.Part.TheVariants.{Put, Del, Add, Least, Greatest, Move, Get}
use Rattle.ov_functor.specs.Placeholder.{Placeholder}
use Rattle.ov_functor.specs.Execution.{Map, set, exec, moves_of}
use Rattle.ov_functor.specs.Functor.{effect_at, effect_in, effect_of, or_else, functor_by, functor_of, reads, apply}
use Rattle.ov_functor.specs.Items.{keys_in, written_keys, item_by, items_at, items_of, set_all}
use Rattle.ov_functor.specs.Values.{valued}
use Rattle.ov_functor.specs.Windows.{Among}
use Rattle.ov_functor.proofs.Among.{among_front, among_back}
use Rattle.ov_functor.proofs.Agreement.{apply-is-exec, exec-keeps-others}

-- setting a key to what the transaction gives keeps what is right
set_right : (old : Map) (transaction : List Part) → (key : List ℕ) (functor : Placeholder) → functor_of transaction key ≡ Some functor
    → (now : Map) (other : List ℕ) → (key_eq key other ≡ true) ⊎ (now other ≡ exec old transaction other)
    → set key (apply functor (map old (reads functor))) now other ≡ exec old transaction other
set_right old transaction key functor is now other right =
    elim (cases_Bool (key_eq key other)) [
      | inl same ↦ rw same (apply-is-exec old transaction key functor is ∙ ap (exec old transaction) (key_eq-exact key other same))
      | inr different ↦ rw different (elim right [ inl same ↦ absurd cc | inr known ↦ known ])
    ]

-- a key that is right stays right
stays_right : (version : ℕ) (old : Map) (transaction : List Part) → (keys : List (List ℕ)) (now : Map) (other : List ℕ) → now other ≡ exec old transaction other
    → set_all now (map (valued old) (items_at version transaction keys)) other ≡ exec old transaction other
stays_right version old transaction [] now other right = right
stays_right version old transaction (key ∷ keys) now other right =
    by (functor_of transaction key) refl (λ (next : Map). stays_right version old transaction keys next other)
  where
    by : (found : Option Placeholder) → functor_of transaction key ≡ found
        → ((next : Map) → next other ≡ exec old transaction other → set_all next (map (valued old) (items_at version transaction keys)) other ≡ exec old transaction other)
        → set_all now (map (valued old) (item_by version key found ++ items_at version transaction keys)) other ≡ exec old transaction other
    by None is rest = rest now right
    by (Some functor) is rest = rest (set key (apply functor (map old (reads functor))) now) (set_right old transaction key functor is now other (inr right))

-- a written key among these becomes right
becomes_right : (version : ℕ) (old : Map) (transaction : List Part) → (keys : List (List ℕ)) (now : Map) (other : List ℕ) (functor : Placeholder)
    → functor_of transaction other ≡ Some functor → Among other keys
    → set_all now (map (valued old) (items_at version transaction keys)) other ≡ exec old transaction other
becomes_right version old transaction [] now other functor is stands = absurd stands
becomes_right version old transaction (key ∷ keys) now other functor is stands =
    by (functor_of transaction key) refl stands (λ (next : Map). becomes_right version old transaction keys next other functor is)
  where
    by : (found : Option Placeholder) → functor_of transaction key ≡ found → Among other (key ∷ keys)
        → ((next : Map) → Among other keys → set_all next (map (valued old) (items_at version transaction keys)) other ≡ exec old transaction other)
        → set_all now (map (valued old) (item_by version key found ++ items_at version transaction keys)) other ≡ exec old transaction other
    by None none (inl same) rest = let bad : ◌≡◌ {A = Option Placeholder} (Some functor) None = sym is ∙ ap (functor_of transaction) same ∙ none in absurd cc
    by None none (inr later) rest = rest now later
    by (Some found) some (inl same) rest =
        let here : key_eq key other ≡ true = subst (λ (k : List ℕ). key_eq k other ≡ true) same (key_eq-equiv.refl other) in
        stays_right version old transaction keys (set key (apply found (map old (reads found))) now) other
        (set_right old transaction key found some now other (inl here))
    by (Some found) some (inr later) rest = rest (set key (apply found (map old (reads found))) now) later

-- ---- a key with a functor is one of the written keys

at_is : (key written : List ℕ) (effect found : Effect) → effect_at key written effect ≡ Some found → key ≡ written
at_is key written effect found is =
    elim (cases_Bool (key_eq written key)) [
      | inl same ↦ sym (key_eq-exact written key same)
      | inr different ↦ let bad : ◌≡◌ {A = Option Effect} None (Some found) = rw different at is in absurd cc
    ]

-- one of two that is there
one_of : {P : Type 0} (this that : Option Effect) (found : Effect) → or_else this that ≡ Some found → ((e : Effect) → this ≡ Some e → P) → (that ≡ Some found → P) → P
one_of None that found is first second = second is
one_of (Some e) that found is first second = first e refl

in_part : (key : List ℕ) (part : Part) (found : Effect) → effect_in key part ≡ Some found → Among key (keys_in part)
in_part key (Put written amount) found is = inl (at_is key written (effects.Put amount) found is)
in_part key (Del written) found is = inl (at_is key written effects.Del found is)
in_part key (Add written amount) found is = inl (at_is key written (effects.Add amount) found is)
in_part key (Least written amount) found is = inl (at_is key written (effects.Least amount) found is)
in_part key (Greatest written amount) found is = inl (at_is key written (effects.Greatest amount) found is)
in_part key (Move from to amount) found is =
    one_of (effect_at key from (effects.Out amount)) (effect_at key to (effects.In amount)) found is
    (λ e one. inl (at_is key from (effects.Out amount) e one))
    (λ other. inr (inl (at_is key to (effects.In amount) found other)))
in_part key (Get got) found is = absurd cc

in_parts : (key : List ℕ) (parts : List Part) (found : Effect) → effect_of key parts ≡ Some found → Among key (written_keys parts)
in_parts key [] found is = absurd cc
in_parts key (part ∷ others) found is =
    one_of (effect_in key part) (effect_of key others) found is
    (λ e one. among_front key (keys_in part) (written_keys others) (in_part key part e one))
    (λ more. among_back key (keys_in part) (written_keys others) (in_parts key others found more))

-- a key with a functor is written
pub functor_writes : (key : List ℕ) (transaction : List Part) (functor : Placeholder) → functor_of transaction key ≡ Some functor → Among key (written_keys transaction)
functor_writes key transaction functor is = by (effect_of key transaction) refl is
  where
    by : (found : Option Effect) → effect_of key transaction ≡ found → functor_by key found (moves_of transaction) ≡ Some functor → Among key (written_keys transaction)
    by None e is = absurd cc
    by (Some effect) e is = in_parts key transaction effect e

-- the values of all items, set over the old map, are the map after the transaction
pub items_execute : (version : ℕ) (old : Map) (transaction : List Part) → set_all old (map (valued old) (items_of version transaction)) ≡ exec old transaction
items_execute version old transaction = λ i other. at other i
  where
    at : (other : List ℕ) → set_all old (map (valued old) (items_of version transaction)) other ≡ exec old transaction other
    at other = by (functor_of transaction other) refl
      where
        by : (found : Option Placeholder) → functor_of transaction other ≡ found → set_all old (map (valued old) (items_of version transaction)) other ≡ exec old transaction other
        by None none = stays_right version old transaction (written_keys transaction) old other (sym (exec-keeps-others old transaction other none))
        by (Some functor) is = becomes_right version old transaction (written_keys transaction) old other functor is (functor_writes other transaction functor is)
