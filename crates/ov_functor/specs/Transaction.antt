-- Transactions, seen as the lists of their parts, and why a list of parts is none.
use Rattle.std.specs.Prelude.{◌≡◌, ℕ, pos, int_le, Bool, true, false, ◌||◌, nat_lt, ◌==◌, List, [], ◌∷◌, ◌++◌, length, Option, Some, None, is_some, Result, Ok, Err, if◌then◌else◌}
use Rattle.std.specs.List.{list_all, list_any}
use Rattle.ov_base.specs.Key.{key_eq}
use Rattle.ov_functor.specs.declared.part.Part.{Part}
use Rattle.ov_functor.specs.declared.part.Part.TheVariants.{Put, Del, Add, Least, Greatest, Move, Get}
use Rattle.ov_functor.specs.declared.error.TxnError.{TxnError}
use Rattle.ov_functor.specs.declared.error.TxnError.TheVariants.{Empty, TooMany, SameKey}
use Rattle.ov_functor.specs.Functor.{effect_of}

-- the most parts of a transaction
abbrev pub most_parts : ℕ
most_parts = 8

-- whether a part of these writes the key
abbrev pub is_written : List ℕ → List Part → Bool
is_written key parts = is_some (effect_of key parts)

abbrev pub gets : List ℕ → Part → Bool
gets key (Get got) = key_eq got key
gets key part = false

-- whether a part of these gets the key
abbrev pub is_got : List ℕ → List Part → Bool
is_got key parts = list_any (gets key) parts

-- the key, where it repeats
abbrev pub key_if : Bool → List ℕ → Option (List ℕ)
key_if repeats key = if repeats then Some key else None

-- the first key of a part that repeats an earlier one of its kind, written or got, where these parts stand before it
abbrev pub repeated_in : List Part → Part → Option (List ℕ)
repeated_in earlier (Put key amount) = key_if (is_written key earlier) key
repeated_in earlier (Del key) = key_if (is_written key earlier) key
repeated_in earlier (Add key amount) = key_if (is_written key earlier) key
repeated_in earlier (Least key amount) = key_if (is_written key earlier) key
repeated_in earlier (Greatest key amount) = key_if (is_written key earlier) key
repeated_in earlier (Move from to amount) = if is_written from earlier then Some from else key_if (key_eq from to || is_written to earlier) to
repeated_in earlier (Get key) = key_if (is_got key earlier) key

abbrev pub or_key : Option (List ℕ) → Option (List ℕ) → Option (List ℕ)
or_key None that = that
or_key (Some key) that = Some key

-- the first key in reading order that repeats an earlier one of its kind
abbrev pub repeated_from : List Part → List Part → Option (List ℕ)
repeated_from earlier [] = None
repeated_from earlier (part ∷ others) = or_key (repeated_in earlier part) (repeated_from (earlier ++ part ∷ []) others)

abbrev pub key_error : Option (List ℕ) → Option TxnError
key_error None = None
key_error (Some key) = Some (SameKey key)

-- why parts are no transaction, the first of the three that holds
abbrev pub transaction_error : List Part → Option TxnError
transaction_error parts = if length parts == 0 then Some Empty else (if nat_lt most_parts (length parts) then Some TooMany else key_error (repeated_from [] parts))

-- a move is of at least 1
abbrev pub is_positive : Part → Bool
is_positive (Move from to amount) = int_le (pos 1) amount
is_positive part = true

-- a list of parts that is a transaction
pub record IsTransaction (parts : List Part) : Type 0 where
  pub form : transaction_error parts ≡ None
  pub positive : list_all is_positive parts ≡ true

-- the transaction of these parts, or why they are none
abbrev pub made_by : Option TxnError → List Part → Result (List Part) TxnError
made_by None parts = Ok parts
made_by (Some error) parts = Err error
