-- The faults of a line behind others: the tests of its kind in their order.
use Rattle.std.specs.Prelude.{ℕ, Bool, not, nat_le, nat_lt, List, length, Option, Some, None, is_some, if◌then◌else◌}
use Rattle.ov_base.specs.Key.{repeats}
use Rattle.ov_functor.specs.declared.error.TxnError.{TxnError}
use Rattle.ov_functor.specs.declared.error.TxnError.TheVariants as txn
use Rattle.ov_functor.specs.declared.part.Part.{Part}
use Rattle.ov_functor.specs.Transaction.{transaction_error}
use Rattle.ov_session.specs.Standing.{most_commands, most_sessions}
use Rattle.ov_script.specs.Sessions.{names_of, place_in, commands_in, order_of}
use Rattle.ov_script.specs.declared.line.ScriptLine.{ScriptLine}
use Rattle.ov_script.specs.declared.line.ScriptLine.TheVariants.{Session, Do, Snap, After}
use Rattle.ov_script.specs.declared.fault.ScriptFault.{ScriptFault}
use Rattle.ov_script.specs.declared.fault.ScriptFault.TheVariants.{Form, SessionTwice, NoGate, Sessions, NoSession, TooManyParts, TooManyKeys, SameKey, Commands, NoCommand}

-- the most keys of a snapshot
abbrev pub most_keys : ℕ
most_keys = 8

-- whether a session of this name is declared
abbrev pub is_declared : List ℕ → List ScriptLine → Bool
is_declared name lines = is_some (place_in name (names_of lines))

-- the script is full of commands
abbrev pub commands_fault : List ScriptLine → Option ScriptFault
commands_fault lines = if nat_le most_commands (length (order_of lines)) then Some Commands else None

abbrev pub session_fault : ℕ → List ScriptLine → List ℕ → ℕ → Option ScriptFault
session_fault gateways lines name gate =
    if is_declared name lines then Some SessionTwice
    else (if nat_le gateways gate then Some NoGate
    else (if nat_le most_sessions (length (names_of lines)) then Some Sessions else None))

-- why parts are no transaction
abbrev pub txn_fault : TxnError → ScriptFault
txn_fault txn.Empty = Form
txn_fault txn.TooMany = TooManyParts
txn_fault (txn.SameKey key) = SameKey

-- why parts are no transaction, or why there is no room for one
abbrev pub parts_fault : List ScriptLine → Option TxnError → Option ScriptFault
parts_fault lines (Some error) = Some (txn_fault error)
parts_fault lines None = commands_fault lines

abbrev pub do_fault : List ScriptLine → List ℕ → List Part → Option ScriptFault
do_fault lines session parts = if is_declared session lines then parts_fault lines (transaction_error parts) else Some NoSession

abbrev pub keys_fault : List ScriptLine → List (List ℕ) → Option ScriptFault
keys_fault lines keys =
    if nat_lt most_keys (length keys) then Some TooManyKeys
    else (if repeats keys then Some SameKey else commands_fault lines)

abbrev pub snap_fault : List ScriptLine → List ℕ → List (List ℕ) → Option ScriptFault
snap_fault lines session keys = if is_declared session lines then keys_fault lines keys else Some NoSession

abbrev pub after_fault : List ScriptLine → List ℕ → List ℕ → ℕ → Option ScriptFault
after_fault lines session other seq =
    if not (is_declared session lines) then Some NoSession
    else (if not (is_declared other lines) then Some NoSession
    else (if nat_lt (commands_in other lines) seq then Some NoCommand else None))

-- the first fault of a line behind these lines, where there are so many gateways
abbrev pub fault_of : ℕ → List ScriptLine → ScriptLine → Option ScriptFault
fault_of gateways lines (Session name gate) = session_fault gateways lines name gate
fault_of gateways lines (Do session parts) = do_fault lines session parts
fault_of gateways lines (Snap session keys) = snap_fault lines session keys
fault_of gateways lines (After session other seq) = after_fault lines session other seq
