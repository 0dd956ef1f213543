-- The made script while its lines are added: what is true of the lines so far, so that the next one has no fault.
use Rattle.std.specs.Prelude.{◌≡◌, ℕ, ◌+◌, ◌≤◌, List, ◌++◌, length}
use Rattle.ov_session.specs.Standing.{most_commands}
use Rattle.ov_script.specs.Script.{Content}
use Rattle.ov_script.specs.Sessions.{sessions_of, order_of}
use Rattle.ov_script.specs.declared.line.ScriptLine.{ScriptLine}
use Rattle.ov_make.specs.Made.{session_lines}

-- the script of these lines, for the three gateways of the made topology
abbrev pub holding : List ScriptLine → Content
holding lines = record { gateways = 3; lines = lines }

-- A script for these gateways, on whose lines the made sessions are declared and no others, and which has room for so many commands more.
pub record IsOpen (script : Content) (more : ℕ) : Type 0 where
  pub gateways : script.gateways ≡ 3
  pub sessions : sessions_of script.lines ≡ sessions_of session_lines
  pub room : length (order_of script.lines) + more ≤ most_commands

-- the script with these lines at the end
abbrev pub with_lines : Content → List ScriptLine → Content
with_lines script lines = record { gateways = script.gateways; lines = script.lines ++ lines }
