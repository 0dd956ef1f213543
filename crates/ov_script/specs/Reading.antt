-- What the functions that read a script line by line return.
use Rattle.std.specs.Prelude.{ℕ, List, Result, Ok, Err}
use Rattle.ov_base.specs.Lines.{shown_as}
use Rattle.ov_base.specs.declared.lines.LineError.{LineError}
use Rattle.ov_base.specs.declared.lines.LineError.TheVariants as errors
use Rattle.ov_script.specs.Script.{Content, step}
use Rattle.ov_script.specs.declared.fault.AddError.{AddError}
use Rattle.ov_script.specs.declared.fault.AddError.TheVariants as adds
use Rattle.ov_script.specs.declared.fault.ScriptFault.{ScriptFault}
use Rattle.ov_script.specs.declared.line.ScriptLine.{ScriptLine}

-- the script of these lines, where there are so many gateways
abbrev pub with_lines : ℕ → List ScriptLine → Content
with_lines gateways lines = record { gateways = gateways; lines = lines }

-- what the bytes of one more line make of a script
abbrev pub line_taken : Content → ℕ → List ℕ → Result Content ScriptFault
line_taken script k text = shown_as (with_lines script.gateways) (step script.gateways script.lines k text)

-- the result of adding line k
abbrev pub error_at : {T : Type 0} → ℕ → Result T AddError → Result T (LineError ScriptFault)
error_at k (Ok done) = Ok done
error_at k (Err adds.Memory) = Err errors.Memory
error_at k (Err (adds.Fault fault)) = Err (errors.Line k fault)
