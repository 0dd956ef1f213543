-- The rule of the words, and what each step tells the seat that makes it. Word 0 is spare, and the place i has the word i + 1.
use Rattle.std.specs.Prelude.{ℕ, ◌≡◌, ◌≢◌, ◌==◌, ◌+◌, ◌-◌, ◌/◌, ◌^◌, ◌<◌, ◌≤◌, ◌⊎◌, ◌||◌, Bool, true, false, cond, List, [], ◌∷◌, length, get_or, slice_index}
use mathlib.Core.Option.{some}
use lib.ListN.{get_elem?}
use Rattle.atomic_table.specs.Table.{Step, Me}
use Rattle.ov_base.specs.Value.{IsValue}
use Rattle.ov_base.specs.declared.value.Value.{Value}
use Rattle.ov_base.specs.declared.value.Value.TheVariants.{Absent}
use Rattle.ov_cells.specs.Codes.{code}
use Rattle.ov_cells.specs.declared.rule.View.{View}

-- ---- what seats know

-- all parts of the right to close
abbrev pub all_parts : ℕ
all_parts = 2 ^ 62

-- whether a place is among these
abbrev pub has : List ℕ → ℕ → Bool
has [] place = false
has (one ∷ others) place = (one == place) || has others place

-- the known places with one more
abbrev pub learn : List ℕ → ℕ → List ℕ
learn known place = cond (has known place) known (place ∷ known)

-- the places of both
abbrev pub merge : List ℕ → List ℕ → List ℕ
merge known [] = known
merge known (place ∷ places) = learn (merge known places) place

abbrev pub view : List Value → List ℕ → ℕ → View
view values known parts = record { values = values; known = known; parts = parts }

-- the view of the first seat: it knows no place, and has all parts
abbrev pub fresh : List Value → View
fresh values = view values [] all_parts

-- the view with one more known place
abbrev pub learnt : View → ℕ → View
learnt v place = view v.values (learn v.known place) v.parts

-- the two views that a split leaves
abbrev pub left_half : View → View
left_half v = view v.values v.known (v.parts - v.parts / 2)

abbrev pub right_half : View → View
right_half v = view v.values v.known (v.parts / 2)

-- the view of a seat that took in another
abbrev pub joined : View → View → View
joined v w = view v.values (merge v.known w.known) (v.parts + w.parts)

-- the view of a seat that was taken in
abbrev pub spent : View
spent = view [] [] 0

-- ---- the rule

-- the word of a place
abbrev pub word_at : List ℕ → ℕ → ℕ
word_at words place = slice_index words (place + 1)

-- the value of a place among these
abbrev pub value_among : List Value → ℕ → Value
value_among values place = get_or values place Absent

-- a word is the code of a value, and the value is in its range
abbrev pub IsCodeOf : ℕ → Value → Type 0
IsCodeOf word value = IsValue value × (word ≡ code value)

-- the parts of all these views
abbrev pub total : List View → ℕ
total [] = 0
total (v ∷ vs) = v.parts + total vs

-- what holds of one view: unless it is spent it has the values of the plan, and what it knows to be set is set
abbrev pub IsSound : List Value → List ℕ → View → Type 0
IsSound values words v =
    (0 < v.parts → v.values ≡ values) × (v.parts ≡ 0 → v.known ≡ []) × ((place : ℕ) → has v.known place ≡ true → word_at words place ≢ 0)

-- some view knows that the place is set
abbrev pub IsKnown : List View → ℕ → Type 0
IsKnown views place = (id : ℕ) × (v : View) × (get_elem? views id ≡ some v) × (has v.known place ≡ true)

-- Between any two steps the spare word is 0, each other word is 0 or the code of its place's value, what a seat knows to be set is
-- set, of each word that is set a seat knows that it is, and the parts of all seats add up to all.
pub record IsKept (values : List Value) (words : List ℕ) (views : List View) : Type 0 where
  pub wide : length words ≡ length values + 1
  pub spare : slice_index words 0 ≡ 0
  pub each : (place : ℕ) → (word_at words place ≡ 0) ⊎ IsCodeOf (word_at words place) (value_among values place)
  pub seat : (id : ℕ) (v : View) → get_elem? views id ≡ some v → IsSound values words v
  pub told : (place : ℕ) → word_at words place ≢ 0 → IsKnown views place
  pub whole : total views ≡ all_parts

-- ---- what steps tell

module _ {S : Type 0} where
  -- a load of a place's word found 0, where the seat did not know the place, or the code of the place's value, and then the seat knows it
  abbrev pub HasLooked : Me S View → ℕ → ℕ → Me S View → Type 0
  HasLooked me place found me' =
      (me'.1 ≡ me.1)
      × (found ≡ 0 → (me'.0 ≡ me.0) × (has me.0.known place ≡ false))
      × (found ≢ 0 → (me'.0 ≡ learnt me.0 place) × IsCodeOf found (value_among me.0.values place))

  abbrev pub Looks : Step S → Me S View → ℕ → Me S View → Type 0
  Looks s me found me' = (place : ℕ) → s.word ≡ place + 1 → HasLooked me place found me'

  -- after an exchange of a place's word from 0 to the code of its value the seat knows the place, whatever was found
  abbrev pub Fills : Step S → Me S View → ℕ → Me S View → Type 0
  Fills s me found me' = (place : ℕ) → s.word ≡ place + 1 → me' ≡ (learnt me.0 place, me.1)

  -- the seat has no more parts than there are
  abbrev pub Counts : Step S → Me S View → ℕ → Me S View → Type 0
  Counts s me found me' = (me' ≡ me) × (me.0.parts ≤ all_parts)
