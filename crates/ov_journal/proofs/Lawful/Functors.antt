-- The functors of a transaction in form are in form, and so are its items.
use Rattle.std.proofs.Common.{◌≡◌, ℕ, ℤ, suc, ◌≤◌, ◌⊎◌, inl, inr, Bool, true, false, ◌||◌, ltb, Option, Some, None, is_some, List, [], ◌∷◌, ◌++◌, length, refl, sym, ap, subst, ◌∙◌, arith}
use Rattle.std.specs.Prelude.{◌==◌, if◌then◌else◌}
use Rattle.std.specs.List.{AllByRecursion, list_all, list_any}
use Rattle.std.proofs.lemmas.Grind.{common_steps}
use Rattle.std.proofs.lemmas.Bool.{cases_Bool, le-leb}
use Rattle.std.proofs.lemmas.Option.{same_Some}
use Rattle.ov_base.specs.Amount.{amount_eq}
use Rattle.ov_base.specs.Key.{IsKey, key_eq}
use Rattle.ov_base.specs.Lemmas.{amount_eq-equiv, key_eq-equiv, key_eq-exact}
use Rattle.ov_base.specs.Version.{IsVersion}
use Rattle.ov_functor.specs.Execution.{moves_of}
use Rattle.ov_functor.specs.Form.{stands_in, are_apart, moves_some, goes_from, goes_to, effect_form, is_functor}
use Rattle.ov_functor.specs.Functor.{effect_at, or_else, effect_in, effect_of, functor_by, functor_of}
use Rattle.ov_functor.specs.Items.{keys_in, written_keys}
use Rattle.ov_functor.specs.Placeholder.{Placeholder}
use Rattle.ov_functor.specs.Transaction.{IsTransaction, is_written, key_if, repeated_in, or_key, repeated_from, key_error, most_parts}
use Rattle.ov_functor.specs.Windows.{Among}
use Rattle.ov_functor.specs.Words.{IsPart, IsParts}
use Rattle.ov_functor.specs.declared.effect.Effect.{Effect}
use Rattle.ov_functor.specs.declared.effect.Effect.TheVariants as effects
use Rattle.ov_functor.specs.declared.item.Item.{Item}
use Rattle.ov_functor.specs.declared.part.Part.{Part}
use Rattle.ov_functor.specs.declared.part.Part.TheVariants.{Put, Del, Add, Least, Greatest, Move, Get}
use Rattle.ov_functor.specs.declared.part.Move as moves
use Rattle.ov_functor.proofs.TransactionCode.{moves_below}
use Rattle.ov_functor.proofs.Agreement.{is_one_side}
use Rattle.ov_functor.proofs.Among.{among_either}
use Rattle.ov_functor.proofs.ItemValues.{functor_writes}
use Rattle.ov_functor.proofs.TransactionCode.{parts_few, moves_few}
use Rattle.ov_script.proofs.Bounds.{passed}
use Rattle.ov_event.specs.ItemWords.{IsEffect, IsMove, IsItem}
use Rattle.ov_journal.proofs.Lawful.Scripts.{each_part}

-- ---- a transaction repeats none of its keys

-- where no key is named, none repeats
no_key : (o : Option (List ℕ)) → key_error o ≡ None → o ≡ None
no_key None none = refl
no_key (Some key) none = absurd cc

-- a transaction repeats no key
unrepeated : (transaction : List Part) → IsTransaction transaction → repeated_from [] transaction ≡ None
unrepeated transaction is =
    let first = passed (length transaction == 0) _ _ is.form in
    let second = passed (ltb most_parts (length transaction)) _ _ first.1 in
    no_key (repeated_from [] transaction) second.1

-- neither of two keys is named
neither : (one other : Option (List ℕ)) → or_key one other ≡ None → (one ≡ None) × (other ≡ None)
neither None other none = (refl, none)
neither (Some key) other none = absurd cc

-- what is chosen of two effects is something exactly where one of them is
some_either : (one other : Option Effect) → is_some (or_else one other) ≡ (is_some one || is_some other)
some_either None other = refl
some_either (Some effect) other = refl

-- a key is written by parts with one more where it is by them or by that one
written_more : (key : List ℕ) (earlier : List Part) (part : Part) → is_written key (earlier ++ part ∷ []) ≡ (is_written key earlier || is_some (effect_in key part))
written_more key [] part = some_either (effect_in key part) None ∙ grind (arith, common_steps)
written_more key (first ∷ earlier) part =
    let rest : is_written key (earlier ++ part ∷ []) ≡ (is_written key earlier || is_some (effect_in key part)) = written_more key earlier part in
    let now = some_either (effect_in key first) (effect_of key (earlier ++ part ∷ [])) in
    let was = some_either (effect_in key first) (effect_of key earlier) in
    rw (now, was, rest) (grind (arith, common_steps))

-- what parts write, they write with one more
still_written : (key : List ℕ) (earlier : List Part) (part : Part) → is_written key earlier ≡ true → is_written key (earlier ++ part ∷ []) ≡ true
still_written key earlier part is = rw (written_more key earlier part, is) refl

-- what one more part writes is written
now_written : (key : List ℕ) (earlier : List Part) (part : Part) → is_some (effect_in key part) ≡ true → is_written key (earlier ++ part ∷ []) ≡ true
now_written key earlier part is = rw (written_more key earlier part, is) (grind (arith, common_steps))

-- an effect on a key that is not written yet is none on one that is written
unwritten_at : (key written : List ℕ) (effect : Effect) (earlier : List Part) → is_written key earlier ≡ true → is_written written earlier ≡ false → effect_at key written effect ≡ None
unwritten_at key written effect earlier is free = elim (cases_Bool (key_eq written key)) [
  | inl same ↦ let e : written ≡ key = key_eq-exact written key same in let bad : is_written key earlier ≡ false = subst (λ (k : List ℕ). is_written k earlier ≡ false) e free in absurd cc
  | inr other ↦ rw other refl
]

-- a test that named nothing failed
unnamed : (b : Bool) (key : List ℕ) → key_if b key ≡ None → b ≡ false
unnamed true key none = absurd cc
unnamed false key none = refl

-- a part that repeats no key does not write one that is written
unwritten_in : (key : List ℕ) (earlier : List Part) (part : Part) → repeated_in earlier part ≡ None → is_written key earlier ≡ true → effect_in key part ≡ None
unwritten_in key earlier (Put written amount) none is = unwritten_at key written _ earlier is (unnamed _ written none)
unwritten_in key earlier (Del written) none is = unwritten_at key written _ earlier is (unnamed _ written none)
unwritten_in key earlier (Add written amount) none is = unwritten_at key written _ earlier is (unnamed _ written none)
unwritten_in key earlier (Least written amount) none is = unwritten_at key written _ earlier is (unnamed _ written none)
unwritten_in key earlier (Greatest written amount) none is = unwritten_at key written _ earlier is (unnamed _ written none)
unwritten_in key earlier (Move from to amount) none is =
    let free = passed (is_written from earlier) _ _ none in
    let other : (key_eq from to || is_written to earlier) ≡ false = unnamed _ to free.1 in
    let last : is_written to earlier ≡ false = grind (arith, common_steps) in
    rw (unwritten_at key from (effects.Out amount) earlier is free.0, unwritten_at key to (effects.In amount) earlier is last) refl
unwritten_in key earlier (Get got) none is = refl

-- what is written is not written by later parts
unwritten_later : (key : List ℕ) (earlier others : List Part) → repeated_from earlier others ≡ None → is_written key earlier ≡ true → effect_of key others ≡ None
unwritten_later key earlier [] none is = refl
unwritten_later key earlier (part ∷ others) none is =
    let both = neither (repeated_in earlier part) (repeated_from (earlier ++ part ∷ []) others) none in
    rw (unwritten_in key earlier part both.0 is) (unwritten_later key (earlier ++ part ∷ []) others both.1 (still_written key earlier part is))

-- ---- moves

-- of two effects that are not there neither is
no_effect : (one other : Option Effect) → or_else one other ≡ None → (one ≡ None) × (other ≡ None)
no_effect None other none = (refl, none)
no_effect (Some effect) other none = absurd cc

-- no effect at a key where it is another
other_key : (key written : List ℕ) (effect : Effect) → effect_at key written effect ≡ None → key_eq written key ≡ false
other_key key written effect none = by (key_eq written key) none
  where
    by : (b : Bool) → ◌≡◌ {A = Option Effect} (if b then Some effect else None) None → b ≡ false
    by true bad = absurd cc
    by false is = refl

-- a key that is not written stands in no move
unwritten_stands : (key : List ℕ) (parts : List Part) → effect_of key parts ≡ None → stands_in key (moves_of parts) ≡ false
unwritten_stands key [] none = refl
unwritten_stands key (Move from to amount ∷ others) none =
    let both = no_effect (effect_in key (Move from to amount)) (effect_of key others) none in
    let sides = no_effect (effect_at key from (effects.Out amount)) (effect_at key to (effects.In amount)) both.0 in
    rw (other_key key from _ sides.0, other_key key to _ sides.1) (unwritten_stands key others both.1)
unwritten_stands key (part ∷ others) none = unwritten_stands key others (no_effect (effect_in key part) (effect_of key others) none).1

-- a key that a part writes stands in no move of later parts
later_apart : (key : List ℕ) (earlier : List Part) (part : Part) (others : List Part) → repeated_from (earlier ++ part ∷ []) others ≡ None → is_some (effect_in key part) ≡ true
    → stands_in key (moves_of others) ≡ false
later_apart key earlier part others none is = unwritten_stands key others (unwritten_later key (earlier ++ part ∷ []) others none (now_written key earlier part is))

-- the keys of the moves of parts that repeat none are distinct
apart_moves : (earlier parts : List Part) → repeated_from earlier parts ≡ None → are_apart (moves_of parts) ≡ true
apart_moves earlier [] none = refl
apart_moves earlier (Move from to amount ∷ others) none =
    let part = Move from to amount in
    let both = neither (repeated_in earlier part) (repeated_from (earlier ++ part ∷ []) others) none in
    let free = passed (is_written from earlier) _ _ both.0 in
    let two : (key_eq from to || is_written to earlier) ≡ false = unnamed _ to free.1 in
    let differ : key_eq from to ≡ false = grind (arith, common_steps) in
    let giver : is_some (effect_in from part) ≡ true = rw (key_eq-equiv.refl from) refl in
    let getter : is_some (effect_in to part) ≡ true = rw (some_either (effect_at to from (effects.Out amount)) (effect_at to to (effects.In amount)), key_eq-equiv.refl to) (grind (arith, common_steps)) in
    rw (differ, later_apart from earlier part others both.1 giver, later_apart to earlier part others both.1 getter) (apart_moves (earlier ++ part ∷ []) others both.1)
apart_moves earlier (part ∷ others) none = apart_moves (earlier ++ part ∷ []) others (neither (repeated_in earlier part) (repeated_from (earlier ++ part ∷ []) others) none).1

-- the moves of parts in form are of at least 1
some_moves : (parts : List Part) → AllByRecursion IsPart parts → list_all moves_some (moves_of parts) ≡ true
some_moves [] each = refl
some_moves (Move from to amount ∷ others) each = rw each.0.3 (some_moves others each.1)
some_moves (part ∷ others) each = some_moves others each.1

-- the moves of parts in form are in form
each_move : (parts : List Part) → AllByRecursion IsPart parts → AllByRecursion IsMove (moves_of parts)
each_move [] each = tt
each_move (Move from to amount ∷ others) each = ((each.0.0, each.0.1, each.0.2), each_move others each.1)
each_move (part ∷ others) each = each_move others each.1

-- ---- effects

-- an effect that is one of two is the first of them, or the second where there is no first
chosen_effect : (one other : Option Effect) (effect : Effect) → or_else one other ≡ Some effect → (one ≡ Some effect) ⊎ ((one ≡ None) × (other ≡ Some effect))
chosen_effect None other effect is = inr (refl, is)
chosen_effect (Some found) other effect is = inl is

-- an effect on a key is the one that is written, and the key is the written one
effect_there : (key written : List ℕ) (found effect : Effect) → effect_at key written found ≡ Some effect → (key_eq written key ≡ true) × (found ≡ effect)
effect_there key written found effect is = by (key_eq written key) is
  where
    by : (b : Bool) → ◌≡◌ {A = Option Effect} (if b then Some found else None) (Some effect) → (b ≡ true) × (found ≡ effect)
    by true same = (refl, same_Some found effect same)
    by false bad = absurd cc

-- the effect of a part in form is in form
part_effect : (key : List ℕ) (part : Part) (effect : Effect) → IsPart part → effect_in key part ≡ Some effect → IsEffect effect
part_effect key (Put written amount) effect form is = subst IsEffect (effect_there key written _ effect is).1 form.1
part_effect key (Del written) effect form is = subst IsEffect (effect_there key written _ effect is).1 tt
part_effect key (Add written amount) effect form is = subst IsEffect (effect_there key written _ effect is).1 form.1
part_effect key (Least written amount) effect form is = subst IsEffect (effect_there key written _ effect is).1 form.1
part_effect key (Greatest written amount) effect form is = subst IsEffect (effect_there key written _ effect is).1 form.1
part_effect key (Move from to amount) effect form is = elim (chosen_effect (effect_at key from (effects.Out amount)) (effect_at key to (effects.In amount)) effect is) [
  | inl one ↦ subst IsEffect (effect_there key from _ effect one).1 form.2
  | inr other ↦ subst IsEffect (effect_there key to _ effect other.1).1 form.2
]
part_effect key (Get got) effect form is = absurd cc

-- the effect of parts in form is in form
form_effect : (key : List ℕ) (parts : List Part) (effect : Effect) → AllByRecursion IsPart parts → effect_of key parts ≡ Some effect → IsEffect effect
form_effect key [] effect each is = absurd cc
form_effect key (part ∷ others) effect each is = elim (chosen_effect (effect_in key part) (effect_of key others) effect is) [
  | inl one ↦ part_effect key part effect each.0 one
  | inr other ↦ form_effect key others effect each.1 other.1
]

-- The effect hangs on no move of its key, and there is a part that is no move.
record IsPlain (key : List ℕ) (parts : List Part) : Type 0 where
  apart : stands_in key (moves_of parts) ≡ false
  fewer : suc (length (moves_of parts)) ≤ length parts

-- the part writes the key with an effect that is no side of a move
plain_here : (key : List ℕ) (earlier : List Part) (part : Part) (others : List Part) (effect : Effect) → repeated_from (earlier ++ part ∷ []) others ≡ None → effect_in key part ≡ Some effect
    → moves_of (part ∷ others) ≡ moves_of others → IsPlain key (part ∷ others)
plain_here key earlier part others effect none is same = record {
  apart = rw same (later_apart key earlier part others none (ap (λ (o : Option Effect). is_some o) is));
  fewer = rw same (let few = moves_below others in omega (arith, few));
}

-- where others are plain, they are with a part more that is no move
plain_more : (key : List ℕ) (part : Part) (others : List Part) → moves_of (part ∷ others) ≡ moves_of others → IsPlain key others → IsPlain key (part ∷ others)
plain_more key part others same plain = record {
  apart = rw same plain.apart;
  fewer = rw same (let few = plain.fewer in omega (arith, few));
}

-- an effect that is no side of a move hangs on no move of its key
plain_effect : (key : List ℕ) (earlier parts : List Part) (effect : Effect) → repeated_from earlier parts ≡ None → is_one_side effect ≡ false → effect_of key parts ≡ Some effect → IsPlain key parts
plain_effect key earlier [] effect none plain is = absurd cc
plain_effect key earlier (Move from to amount ∷ others) effect none plain is =
    let part = Move from to amount in
    let both = neither (repeated_in earlier part) (repeated_from (earlier ++ part ∷ []) others) none in
    elim (chosen_effect (effect_in key part) (effect_of key others) effect is) [
      | inl one ↦ elim (chosen_effect (effect_at key from (effects.Out amount)) (effect_at key to (effects.In amount)) effect one) [
        | inl out ↦ let bad : true ≡ false = ap is_one_side (effect_there key from (effects.Out amount) effect out).1 ∙ plain in absurd cc
        | inr into ↦ let bad : true ≡ false = ap is_one_side (effect_there key to (effects.In amount) effect into.1).1 ∙ plain in absurd cc
      ]
      | inr other ↦
          let sides = no_effect (effect_at key from (effects.Out amount)) (effect_at key to (effects.In amount)) other.0 in
          let rest = plain_effect key (earlier ++ part ∷ []) others effect both.1 plain other.1 in
          record {
            apart = rw (other_key key from _ sides.0, other_key key to _ sides.1) rest.apart;
            fewer = let few = rest.fewer in omega (arith, few);
          }
    ]
plain_effect key earlier (part ∷ others) effect none plain is =
    let both = neither (repeated_in earlier part) (repeated_from (earlier ++ part ∷ []) others) none in
    elim (chosen_effect (effect_in key part) (effect_of key others) effect is) [
      | inl one ↦ plain_here key earlier part others effect both.1 one refl
      | inr other ↦ plain_more key part others refl (plain_effect key (earlier ++ part ∷ []) others effect both.1 plain other.1)
    ]

-- equal amounts pass the test
same_amount : (a b : ℤ) → a ≡ b → amount_eq a b ≡ true
same_amount a b same = subst (λ (x : ℤ). amount_eq a x ≡ true) same (amount_eq-equiv.refl a)

-- a part whose effect on a key is to give is a move of that amount from the key
out_part : (key : List ℕ) (part : Part) (others : List Part) (amount : ℤ) → effect_in key part ≡ Some (effects.Out amount) → list_any (goes_from key amount) (moves_of (part ∷ others)) ≡ true
out_part key (Move from to a) others amount is = elim (chosen_effect (effect_at key from (effects.Out a)) (effect_at key to (effects.In a)) (effects.Out amount) is) [
  | inl one ↦ let it = effect_there key from (effects.Out a) (effects.Out amount) one in let same : a ≡ amount = cc in rw (it.0, same_amount a amount same) refl
  | inr other ↦ let it = effect_there key to (effects.In a) (effects.Out amount) other.1 in let bad = it.1 in absurd cc
]
out_part key part others amount is = absurd (grind (arith, common_steps))

-- a part whose effect on a key is to get is a move of that amount to the key
in_part : (key : List ℕ) (part : Part) (others : List Part) (amount : ℤ) → effect_in key part ≡ Some (effects.In amount) → list_any (goes_to key amount) (moves_of (part ∷ others)) ≡ true
in_part key (Move from to a) others amount is = elim (chosen_effect (effect_at key from (effects.Out a)) (effect_at key to (effects.In a)) (effects.In amount) is) [
  | inl one ↦ let it = effect_there key from (effects.Out a) (effects.In amount) one in let bad = it.1 in absurd cc
  | inr other ↦ let it = effect_there key to (effects.In a) (effects.In amount) other.1 in let same : a ≡ amount = cc in rw (it.0, same_amount a amount same) refl
]
in_part key part others amount is = absurd (grind (arith, common_steps))

-- what passes among the moves of parts passes among those of one more
any_more : (test : moves.Move → Bool) (part : Part) (others : List Part) → list_any test (moves_of others) ≡ true → list_any test (moves_of (part ∷ others)) ≡ true
any_more test (Move from to amount) others is = rw is (grind (arith, common_steps))
any_more test part others is = is

-- the giving side of a move is that of one of the moves
out_effect : (key : List ℕ) (parts : List Part) (amount : ℤ) → effect_of key parts ≡ Some (effects.Out amount) → list_any (goes_from key amount) (moves_of parts) ≡ true
out_effect key [] amount is = absurd cc
out_effect key (part ∷ others) amount is = elim (chosen_effect (effect_in key part) (effect_of key others) (effects.Out amount) is) [
  | inl one ↦ out_part key part others amount one
  | inr other ↦ any_more (goes_from key amount) part others (out_effect key others amount other.1)
]

-- the getting side of a move is that of one of the moves
in_effect : (key : List ℕ) (parts : List Part) (amount : ℤ) → effect_of key parts ≡ Some (effects.In amount) → list_any (goes_to key amount) (moves_of parts) ≡ true
in_effect key [] amount is = absurd cc
in_effect key (part ∷ others) amount is = elim (chosen_effect (effect_in key part) (effect_of key others) (effects.In amount) is) [
  | inl one ↦ in_part key part others amount one
  | inr other ↦ any_more (goes_to key amount) part others (in_effect key others amount other.1)
]

-- the effect of a transaction has the form of one beside its moves
effect_formed : (key : List ℕ) (parts : List Part) (effect : Effect) → repeated_from [] parts ≡ None → length parts ≤ 8 → effect_of key parts ≡ Some effect → effect_form key effect (moves_of parts) ≡ true
effect_formed key parts (effects.Out amount) none few is = out_effect key parts amount is
effect_formed key parts (effects.In amount) none few is = in_effect key parts amount is
effect_formed key parts effect none few is =
    let plain = plain_effect key [] parts effect none refl is in
    let fewer = plain.fewer in
    rw (plain.apart, le-leb (length (moves_of parts)) 7 (omega (arith, fewer, few))) refl

-- ---- items

-- what is among one key is a key, where that is
one_key : (key written : List ℕ) → IsKey written → Among key (written ∷ []) → IsKey key
one_key key written form (inl same) = subst IsKey (sym same) form
one_key key written form (inr more) = absurd more

-- the keys that a part in form writes are keys
part_keys : (key : List ℕ) (part : Part) → IsPart part → Among key (keys_in part) → IsKey key
part_keys key (Put written amount) form among = one_key key written form.0 among
part_keys key (Del written) form among = one_key key written form among
part_keys key (Add written amount) form among = one_key key written form.0 among
part_keys key (Least written amount) form among = one_key key written form.0 among
part_keys key (Greatest written amount) form among = one_key key written form.0 among
part_keys key (Move from to amount) form (inl same) = subst IsKey (sym same) form.0
part_keys key (Move from to amount) form (inr more) = one_key key to form.1 more
part_keys key (Get got) form among = absurd among

-- the keys that parts in form write are keys
key_written : (key : List ℕ) (parts : List Part) → AllByRecursion IsPart parts → Among key (written_keys parts) → IsKey key
key_written key [] each among = absurd among
key_written key (part ∷ others) each among = elim (among_either key (keys_in part) (written_keys others) among) [
  | inl here ↦ part_keys key part each.0 here
  | inr later ↦ key_written key others each.1 later
]

-- a key with a functor is one
pub functor_key : (key : List ℕ) (transaction : List Part) (functor : Placeholder) → IsParts transaction → functor_of transaction key ≡ Some functor → IsKey key
functor_key key transaction functor form is = key_written key transaction (each_part transaction form) (functor_writes key transaction functor is)

-- a functor is that of an effect
functor_effect : (key : List ℕ) (o : Option Effect) (list : List moves.Move) (functor : Placeholder) → functor_by key o list ≡ Some functor
    → (effect : Effect) × (o ≡ Some effect) × (◌≡◌ {A = Placeholder} (record { key = key; effect = effect; moves = list }) functor)
functor_effect key None list functor is = absurd cc
functor_effect key (Some effect) list functor is = (effect, refl, same_Some _ functor is)

-- an item of a transaction in form is in form, where its version is
pub item_form : (transaction : List Part) (item : Item) → IsParts transaction → IsTransaction transaction → IsVersion item.version → functor_of transaction item.key ≡ Some item.functor → IsItem item
item_form transaction item form is version functor_is =
    let each = each_part transaction form in
    let few = parts_few transaction is.form in
    let found = functor_effect item.key (effect_of item.key transaction) (moves_of transaction) item.functor functor_is in
    let none = unrepeated transaction is in
    let right : is_functor (record { key = item.key; effect = found.0; moves = moves_of transaction }) ≡ true
    = rw (le-leb (length (moves_of transaction)) 8 (moves_few transaction is.form), apart_moves [] transaction none, some_moves transaction each) (effect_formed item.key transaction found.0 none few found.1) in
    record {
      version = version;
      key = functor_key item.key transaction item.functor form functor_is;
      effect = subst (λ (f : Placeholder). IsEffect f.effect) found.2 (form_effect item.key transaction found.0 each found.1);
      moves = subst (λ (f : Placeholder). AllByRecursion IsMove f.moves) found.2 (each_move transaction each);
      own = sym (ap (λ (f : Placeholder). f.key) found.2);
      form = subst (λ (f : Placeholder). is_functor f ≡ true) found.2 right;
    }
