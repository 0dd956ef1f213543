-- The made script: a workload of any size, made of a number and of how many commands there are. Session 0 gives each key a balance, the other
-- sessions move amounts between the keys, some of them more than there is, and take snapshots, and at the end session 0 gets all balances.
use Rattle.std.specs.Prelude.{ℕ, zero, suc, pos, ◌+◌, ◌-◌, ◌*◌, ◌/◌, ◌%◌, ◌^◌, ◌==◌, nat_le, List, [], ◌∷◌, ◌++◌, map, codes, if◌then◌else◌}
use Rattle.std.specs.List.{range_with_len, flat_map}
use Rattle.std.specs.Fmt.{decimal}
use Rattle.ov_functor.specs.declared.part.Part.{Part}
use Rattle.ov_functor.specs.declared.part.Part.TheVariants.{Put, Move, Get}
use Rattle.ov_topology.specs.Shape.{Shape}
use Rattle.ov_script.specs.Script.{Content}
use Rattle.ov_script.specs.Sessions.{commands_in}
use Rattle.ov_script.specs.declared.line.ScriptLine.{ScriptLine}
use Rattle.ov_script.specs.declared.line.ScriptLine.TheVariants.{Session, Do, Snap, After}

-- three centres with a gateway in each, four partitions, and quorums of two
abbrev pub made_topology : Shape
made_topology = record { centres = 3; partitions = 4; gateways = 0 ∷ 1 ∷ 2 ∷ []; write = 2; read = 2 }

-- ---- sessions and keys

-- how many sessions there are
abbrev pub sessions : ℕ
sessions = 19

-- how many of them move amounts: all but session 0
abbrev pub movers : ℕ
movers = 18

-- how many keys there are
abbrev pub keys : ℕ
keys = 8

-- what each key has at first
abbrev pub opening_balance : ℕ
opening_balance = 1000000

-- an amount that no key ever has, so that a move of it aborts
abbrev pub too_much : ℕ
too_much = 100000000000000000

-- the name of a session: `s` and its number
unfoldable pub session_name : ℕ → List ℕ
session_name j = codes "s" ++ decimal j

-- the name of a key: `k` and its number
unfoldable pub key_name : ℕ → List ℕ
key_name k = codes "k" ++ decimal k

-- ---- numbers, and what they choose

-- the number behind a number
abbrev pub next_number : ℕ → ℕ
next_number x = (x * 6364136223846793005 + 1442695040888963407) % 2 ^ 64

-- the i-th number behind this one
abbrev pub number_behind : ℕ → ℕ → ℕ
number_behind number zero = number
number_behind number (suc i) = next_number (number_behind number i)

-- the key that a number chooses
abbrev pub first_key : ℕ → ℕ
first_key x = (x / 2 ^ 33) % 8

-- another key
abbrev pub second_key : ℕ → ℕ
second_key x = (first_key x + 1 + (x / 2 ^ 40) % 7) % 8

-- an amount from 1 to 100
abbrev pub chosen_amount : ℕ → ℕ
chosen_amount x = 1 + (x / 2 ^ 48) % 100

-- ---- the lines

-- session j is at gateway j mod 3
abbrev pub session_line : ℕ → ScriptLine
session_line j = Session (session_name j) (j % 3)

-- all sessions
unfoldable pub session_lines : List ScriptLine
session_lines = map session_line (range_with_len 0 sessions)

-- each key gets the opening balance
unfoldable pub puts : List Part
puts = map (λ k. Put (key_name k) (pos opening_balance)) (range_with_len 0 keys)

-- session 0 does so
abbrev pub puts_line : ScriptLine
puts_line = Do (session_name 0) puts

-- each mover waits for the puts
abbrev pub first_wait : ℕ → ScriptLine
first_wait j = After (session_name j) (session_name 0) 1

-- all of them wait
unfoldable pub first_waits : List ScriptLine
first_waits = map first_wait (range_with_len 1 movers)

-- the i-th middle command is of this session: the movers take turns
abbrev pub mover_of : ℕ → ℕ
mover_of i = 1 + (i - 1) % movers

-- session j moves the amount between the keys that x chooses
abbrev pub move_line : ℕ → ℕ → ℕ → ScriptLine
move_line j x amount = Do (session_name j) (Move (key_name (first_key x)) (key_name (second_key x)) (pos amount) ∷ [])

-- session j takes a snapshot of the keys that x chooses
abbrev pub snap_line : ℕ → ℕ → ScriptLine
snap_line j x = Snap (session_name j) (key_name (first_key x) ∷ key_name (second_key x) ∷ [])

-- the i-th middle command, where x is the i-th number: of each ten commands the tenth aborts and the fifth is a snapshot
abbrev pub middle_by : ℕ → ℕ → ScriptLine
middle_by i x =
    if i % 10 == 0 then move_line (mover_of i) x too_much
    else (if i % 10 == 5 then snap_line (mover_of i) x else move_line (mover_of i) x (chosen_amount x))

-- the i-th middle command
unfoldable pub middle_line : ℕ → ℕ → ScriptLine
middle_line number i = middle_by i (number_behind number i)

-- the first so many middle commands
abbrev pub middle_lines : ℕ → ℕ → List ScriptLine
middle_lines number count = map (middle_line number) (range_with_len 1 count)

-- session 0 waits for the last of the c commands of session j, if there is one
abbrev pub wait_for : ℕ → ℕ → List ScriptLine
wait_for j c = if nat_le 1 c then After (session_name 0) (session_name j) c ∷ [] else []

-- session 0 waits for the last command of session j on these lines
abbrev pub last_wait : List ScriptLine → ℕ → List ScriptLine
last_wait lines j = wait_for j (commands_in (session_name j) lines)

-- it waits for all movers
abbrev pub last_waits : List ScriptLine → List ScriptLine
last_waits lines = flat_map (last_wait lines) (range_with_len 1 movers)

-- the reply shows each key
unfoldable pub gets : List Part
gets = map (λ k. Get (key_name k)) (range_with_len 0 keys)

-- session 0 asks for that
abbrev pub gets_line : ScriptLine
gets_line = Do (session_name 0) gets

-- ---- the script

-- the lines up to the last middle command
abbrev pub lines_ahead : ℕ → ℕ → List ScriptLine
lines_ahead number commands =
    session_lines
    ++ puts_line ∷ []
    ++ first_waits
    ++ middle_lines number (commands - 2)

-- all lines, so many of them commands
abbrev pub made_lines : ℕ → ℕ → List ScriptLine
made_lines number commands =
    lines_ahead number commands
    ++ last_waits (lines_ahead number commands)
    ++ gets_line ∷ []

-- the made script, for the gateways of the made topology
unfoldable pub made_script : ℕ → ℕ → Content
made_script number commands = record { gateways = 3; lines = made_lines number commands }
