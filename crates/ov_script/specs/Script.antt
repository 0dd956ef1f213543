-- Scripts: what contracts see of one, which lines are one, and how a text is read.
use Rattle.std.specs.Prelude.{◌≡◌, ℕ, List, [], ◌∷◌, ◌++◌, Option, Some, None, Result, Ok, Err}
use Rattle.ov_script.specs.Line.{IsLine, line_of, line_text}
use Rattle.ov_base.specs.Lines.{Fault, read_text, lines_text}
use Rattle.ov_script.specs.Faults.{fault_of}
use Rattle.ov_script.specs.declared.line.ScriptLine.{ScriptLine}
use Rattle.ov_script.specs.declared.fault.ScriptFault.{ScriptFault}
use Rattle.ov_script.specs.declared.fault.ScriptFault.TheVariants.{Form}
use Rattle.ov_script.specs.declared.fault.ScriptError.{ScriptError}
use Rattle.ov_script.specs.declared.fault.ScriptError.TheVariants as errors
use Rattle.ov_script.specs.declared.fault.AddError.{AddError}
use Rattle.ov_script.specs.declared.fault.AddError.TheVariants as adds

-- What contracts see of a script: how many gateways there are, and its lines.
pub record Content : Type 0 where
  pub gateways : ℕ
  pub lines : List ScriptLine

-- each of the lines is in form and has no fault behind those before it
abbrev pub Follow : ℕ → List ScriptLine → List ScriptLine → Type 0
Follow gateways before [] = Unit {0}
Follow gateways before (line ∷ lines) = IsLine line × (fault_of gateways before line ≡ None) × Follow gateways (before ++ line ∷ []) lines

-- the lines are a script
abbrev pub IsScript : Content → Type 0
IsScript script = Follow script.gateways [] script.lines

-- the text of a script
abbrev pub script_text : List ScriptLine → List ℕ
script_text lines = lines_text line_text lines

-- a line more, where it has no fault
abbrev pub added : List ScriptLine → ScriptLine → Option ScriptFault → Result (List ScriptLine) ScriptFault
added lines line None = Ok (lines ++ line ∷ [])
added lines line (Some fault) = Err fault

abbrev pub add_read : ℕ → List ScriptLine → Option ScriptLine → Result (List ScriptLine) ScriptFault
add_read gateways lines None = Err Form
add_read gateways lines (Some line) = added lines line (fault_of gateways lines line)

-- what the bytes of one more line make of the lines before it
abbrev pub step : ℕ → List ScriptLine → ℕ → List ℕ → Result (List ScriptLine) ScriptFault
step gateways lines k text = add_read gateways lines (line_of text)

-- the script of a text, or its first fault
abbrev pub script_of : ℕ → List ℕ → Result (List ScriptLine) (Fault ScriptFault)
script_of gateways bytes = read_text (step gateways) (λ k. Form) [] bytes

-- what a refusal says is what reading gives, unless memory ran out
abbrev pub Fails : {S : Type 0} → ScriptError → Result S (Fault ScriptFault) → Type 0
Fails errors.Memory read = Unit {0}
Fails (errors.Line line fault) read = read ≡ Err (record { line = line; fault = fault })

-- what a call returned is what reading gives, unless memory ran out
abbrev pub Gives : ℕ → Result Content ScriptError → Result (List ScriptLine) (Fault ScriptFault) → Type 0
Gives gateways (Ok script) read = (read ≡ Ok script.lines) × (script.gateways ≡ gateways)
Gives gateways (Err error) read = Fails error read

-- a refusal names this fault, unless memory ran out
abbrev pub IsFaultOf : AddError → Option ScriptFault → Type 0
IsFaultOf adds.Memory fault = Unit {0}
IsFaultOf (adds.Fault named) fault = fault ≡ Some named
