-- The serial map: the begun transactions, executed one at a time in the order of their versions.
use Rattle.std.specs.Prelude.{ℕ, zero, suc, ◌<◌, ◌==◌, nat_lt, Option, Some, None, List, [], ◌∷◌, ◌++◌, if◌then◌else◌}
use Rattle.ov_functor.specs.declared.part.Part.{Part}
use Rattle.ov_functor.specs.declared.reply.Reply.{Reply}
use Rattle.ov_functor.specs.Execution.{Map, empty, exec, reply_of}

-- ---- by numbers, where `begun version` is the transaction of a version

-- the map after a transaction, where there is one
abbrev pub executed_at : Option (List Part) → Map → Map
executed_at None map = map
executed_at (Some transaction) map = exec map transaction

-- the map just below a number: all begun transactions with lower versions executed one at a time in version order
abbrev pub serial : (ℕ → Option (List Part)) → ℕ → Map
serial begun zero = empty
serial begun (suc version) = executed_at (begun version) (serial begun version)

-- ---- by lists, the greatest version first

-- A begun transaction with its version.
pub record Begun : Type 0 where
  pub version : ℕ
  pub transaction : List Part

-- the list with one more, in its place by version
abbrev pub insert : Begun → List Begun → List Begun
insert one [] = one ∷ []
insert one (next ∷ others) = if nat_lt one.version next.version then next ∷ insert one others else one ∷ next ∷ others

-- the list in the order of its versions
abbrev pub sorted : List Begun → List Begun
sorted [] = []
sorted (one ∷ others) = insert one (sorted others)

-- the map after executing, one at a time, those whose versions are below a number
abbrev pub folded : List Begun → ℕ → Map
folded [] below = empty
folded (last ∷ others) below = if nat_lt last.version below then exec (folded others below) last.transaction else folded others below

-- the replies, that of the least version first; each transaction is executed on the map just below its version
abbrev pub replies_of : List Begun → List Reply
replies_of [] = []
replies_of (last ∷ others) = replies_of others ++ reply_of (folded others last.version) last.version last.transaction ∷ []

-- the transaction of a version, where the list has one
abbrev pub found : List Begun → ℕ → Option (List Part)
found [] version = None
found (last ∷ others) version = if last.version == version then Some last.transaction else found others version

-- the versions are below a number and fall
abbrev pub Falls : ℕ → List Begun → Type 0
Falls below [] = Unit {0}
Falls below (last ∷ others) = (last.version < below) × Falls last.version others
