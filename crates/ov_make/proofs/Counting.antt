-- What lines say of sessions and commands, part by part.
use Rattle.std.proofs.Common.{◌≡◌, ℕ, ◌+◌, List, [], ◌∷◌, ◌++◌, map, length, refl, ap, ◌∙◌, length-append, arith}
use Rattle.std.specs.List.{flat_map}
use Rattle.ov_script.specs.Sessions.{sessions_of, commands_in, order_by, order_from, order_of}
use Rattle.ov_script.specs.declared.line.ScriptLine.{ScriptLine}
use Rattle.ov_script.specs.declared.line.ScriptLine.TheVariants.{Session, Do, Snap, After}

-- ---- sessions

pub sessions_append : (xs ys : List ScriptLine) → sessions_of (xs ++ ys) ≡ sessions_of xs ++ sessions_of ys
sessions_append [] ys = refl
sessions_append (Session name gate ∷ xs) ys = ap (λ (t : List (List ℕ × ℕ)). (name, gate) ∷ t) (sessions_append xs ys)
sessions_append (Do session parts ∷ xs) ys = sessions_append xs ys
sessions_append (Snap session keys ∷ xs) ys = sessions_append xs ys
sessions_append (After session other seq ∷ xs) ys = sessions_append xs ys

-- lines of which none declares a session
pub sessions_none : (f : ℕ → ScriptLine) (numbers : List ℕ) → ((i : ℕ) → sessions_of (f i ∷ []) ≡ []) → sessions_of (map f numbers) ≡ []
sessions_none f [] each = refl
sessions_none f (i ∷ numbers) each = sessions_append (f i ∷ []) (map f numbers) ∙ rw (each i) (sessions_none f numbers each)

pub sessions_none_all : (f : ℕ → List ScriptLine) (numbers : List ℕ) → ((i : ℕ) → sessions_of (f i) ≡ []) → sessions_of (flat_map f numbers) ≡ []
sessions_none_all f [] each = refl
sessions_none_all f (i ∷ numbers) each = sessions_append (f i) (flat_map f numbers) ∙ rw (each i) (sessions_none_all f numbers each)

-- ---- the commands of one session

pub commands_append : (name : List ℕ) (xs ys : List ScriptLine) → commands_in name (xs ++ ys) ≡ commands_in name xs + commands_in name ys
commands_append name [] ys = omega arith
commands_append name (line ∷ xs) ys = omega (arith, commands_append name xs ys)

pub commands_none_all : (name : List ℕ) (f : ℕ → List ScriptLine) (numbers : List ℕ) → ((i : ℕ) → commands_in name (f i) ≡ 0) → commands_in name (flat_map f numbers) ≡ 0
commands_none_all name f [] each = refl
commands_none_all name f (i ∷ numbers) each = omega (arith, commands_append name (f i) (flat_map f numbers), each i, commands_none_all name f numbers each)

-- ---- all commands

-- how many of the lines are commands
abbrev pub commands_on : List ScriptLine → ℕ
commands_on [] = 0
commands_on (line ∷ lines) = length (order_by [] line) + commands_on lines

ordered : (before : List ScriptLine) (line : ScriptLine) → length (order_by before line) ≡ length (order_by [] line)
ordered before (Session name gate) = refl
ordered before (Do session parts) = refl
ordered before (Snap session keys) = refl
ordered before (After session other seq) = refl

ordered_all : (before lines : List ScriptLine) → length (order_from before lines) ≡ commands_on lines
ordered_all before [] = refl
ordered_all before (line ∷ lines) =
    omega (arith, length-append (order_by before line) (order_from (before ++ line ∷ []) lines), ordered before line, ordered_all (before ++ line ∷ []) lines)

-- the order has a place for each of them
pub order_length : (lines : List ScriptLine) → length (order_of lines) ≡ commands_on lines
order_length lines = ordered_all [] lines

pub on_append : (xs ys : List ScriptLine) → commands_on (xs ++ ys) ≡ commands_on xs + commands_on ys
on_append [] ys = omega arith
on_append (line ∷ xs) ys = omega (arith, on_append xs ys)

-- lines of which none is a command
pub on_none : (f : ℕ → ScriptLine) (numbers : List ℕ) → ((i : ℕ) → commands_on (f i ∷ []) ≡ 0) → commands_on (map f numbers) ≡ 0
on_none f [] each = refl
on_none f (i ∷ numbers) each = omega (arith, each i, on_none f numbers each)

pub on_none_all : (f : ℕ → List ScriptLine) (numbers : List ℕ) → ((i : ℕ) → commands_on (f i) ≡ 0) → commands_on (flat_map f numbers) ≡ 0
on_none_all f [] each = refl
on_none_all f (i ∷ numbers) each = omega (arith, on_append (f i) (flat_map f numbers), each i, on_none_all f numbers each)

-- lines of which each is a command
pub on_each : (f : ℕ → ScriptLine) (numbers : List ℕ) → ((i : ℕ) → commands_on (f i ∷ []) ≡ 1) → commands_on (map f numbers) ≡ length numbers
on_each f [] each = refl
on_each f (i ∷ numbers) each = omega (arith, each i, on_each f numbers each)
