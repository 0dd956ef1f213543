-- A script that is read is written so, and what is written is read again.
use Rattle.std.proofs.Common.{◌≡◌, ℕ, ◌+◌, List, [], ◌∷◌, ◌++◌, eqb, Option, Some, None, Result, Ok, Err, refl, sym, ap, ◌∙◌}
use Rattle.std.specs.Prelude.{IfOk}
use Rattle.std.specs.List.{slice_split}
use Rattle.ov_base.specs.Lines.{Fault, read_text, shown_as}
use Rattle.ov_script.specs.Line.{IsLine, line_of, line_text}
use Rattle.ov_script.specs.Faults.{fault_of}
use Rattle.ov_script.specs.Reading.{line_taken, with_lines}
use Rattle.ov_script.specs.Script.{Content, Follow, script_text, added, add_read, step, script_of, Gives}
use Rattle.ov_script.specs.declared.line.ScriptLine.{ScriptLine}
use Rattle.ov_script.specs.declared.fault.ScriptFault.{ScriptFault}
use Rattle.ov_script.specs.declared.fault.ScriptFault.TheVariants.{Form}
use Rattle.ov_script.specs.declared.fault.ScriptError.{ScriptError}
use Rattle.ov_base.proofs.LineTexts.{Follows, Adds, text_takes, text_again, read_shown}
use Rattle.ov_script.proofs.LineWords.{line_takes}
use Rattle.ov_script.proofs.LineWordsAgain.{line_again, line_lacks}

-- a line in form and without a fault
abbrev Fits : ℕ → List ScriptLine → ℕ → ScriptLine → Type 0
Fits gateways before k line = IsLine line × (fault_of gateways before line ≡ None)

-- ---- what is read

added_takes : (before : List ScriptLine) (line : ScriptLine) (after : List ScriptLine) (o : Option ScriptFault) → added before line o ≡ Ok after → (o ≡ None) × (after ≡ before ++ line ∷ [])
added_takes before line after None e = (refl, cc)
added_takes before line after (Some fault) e = absurd cc

read_takes : (gateways : ℕ) (before : List ScriptLine) (k : ℕ) (text : List ℕ) (after : List ScriptLine) (o : Option ScriptLine) → line_of text ≡ o → add_read gateways before o ≡ Ok after
    → Adds line_text (Fits gateways) before k text after
read_takes gateways before k text after None is e = absurd cc
read_takes gateways before k text after (Some line) is e =
    let t = line_takes text line is in
    let a = added_takes before line after (fault_of gateways before line) e in
    record { item = line; fits = (t.0, a.0); added = a.1; spelled = t.1 }

step_takes : (gateways : ℕ) (before : List ScriptLine) (k : ℕ) (text : List ℕ) (after : List ScriptLine) → step gateways before k text ≡ Ok after
    → Adds line_text (Fits gateways) before k text after
step_takes gateways before k text after e = read_takes gateways before k text after (line_of text) refl e

-- the bytes of a script that is read are its text
pub script_takes : (gateways : ℕ) (bytes : List ℕ) (lines : List ScriptLine) → script_of gateways bytes ≡ Ok lines → bytes ≡ script_text lines
script_takes gateways bytes lines e = (text_takes (step gateways) (λ k. Form) line_text (Fits gateways) (step_takes gateways) bytes lines e).1

-- lines that fit behind those before them follow them
follow_of : (gateways : ℕ) (before : List ScriptLine) (k : ℕ) (lines : List ScriptLine) → Follows (Fits gateways) before k lines → Follow gateways before lines
follow_of gateways before k [] h = tt
follow_of gateways before k (line ∷ lines) h = (h.0.0, h.0.1, follow_of gateways (before ++ line ∷ []) (k + 1) lines h.1)

-- the lines of a text that is read are a script
pub script_accepted : (gateways : ℕ) (bytes : List ℕ) (lines : List ScriptLine) → script_of gateways bytes ≡ Ok lines → Follow gateways [] lines
script_accepted gateways bytes lines e = follow_of gateways [] 1 lines (text_takes (step gateways) (λ k. Form) line_text (Fits gateways) (step_takes gateways) bytes lines e).0

pub spelled_by : (gateways : ℕ) (bytes : List ℕ) (r : Result Content ScriptError) → Gives gateways r (script_of gateways bytes) → IfOk r (λ s. bytes ≡ script_text s.lines)
spelled_by gateways bytes (Ok script) h = script_takes gateways bytes script.lines h.0
spelled_by gateways bytes (Err error) h = tt

-- ---- what is written is read again

step_again : (gateways : ℕ) (before : List ScriptLine) (k : ℕ) (line : ScriptLine) → Fits gateways before k line → step gateways before k (line_text line) ≡ Ok (before ++ line ∷ [])
step_again gateways before k line h = rw (line_again line h.0, h.1) refl

follows : (gateways : ℕ) (before : List ScriptLine) (k : ℕ) (lines : List ScriptLine) → Follow gateways before lines → Follows (Fits gateways) before k lines
follows gateways before k [] h = tt
follows gateways before k (line ∷ lines) h = ((h.0, h.1), follows gateways (before ++ line ∷ []) (k + 1) lines h.2)

-- the text of a script is read as that script
pub script_again : (gateways : ℕ) (lines : List ScriptLine) → Follow gateways [] lines → script_of gateways (script_text lines) ≡ Ok lines
script_again gateways lines h =
    text_again (step gateways) (λ k. Form) line_text (Fits gateways) (step_again gateways) (λ before k line fits. line_lacks line fits.0) lines (follows gateways [] 1 lines h)

-- ---- the script that is read line by line

-- a text read into a script gives the script of the lines that it is read as
pub read_as_lines : (gateways : ℕ) (bytes : List ℕ)
    → read_text line_taken (λ k. Form) (record { gateways = gateways; lines = [] }) bytes ≡ shown_as (with_lines gateways) (script_of gateways bytes)
read_as_lines gateways bytes = read_shown (with_lines gateways) (step gateways) line_taken (λ k. Form) (λ before k text. refl) [] 1 (slice_split (λ b. eqb b 10) bytes)

shown_ok : (gateways : ℕ) (read : Result (List ScriptLine) (Fault ScriptFault)) (script : Content) → shown_as (with_lines gateways) read ≡ Ok script → (read ≡ Ok script.lines) × (script.gateways ≡ gateways)
shown_ok gateways (Ok lines) script e = let same : ◌≡◌ {A = Content} (with_lines gateways lines) script = cc in (ap (λ (c : Content). Ok c.lines) same, sym (ap (λ (c : Content). c.gateways) same))
shown_ok gateways (Err fault) script e = absurd cc

shown_err : (gateways : ℕ) (read : Result (List ScriptLine) (Fault ScriptFault)) (fault : Fault ScriptFault) → shown_as (with_lines gateways) read ≡ Err fault → read ≡ Err fault
shown_err gateways (Ok lines) fault e = absurd cc
shown_err gateways (Err other) fault e = cc

-- a script that was read
pub read_gives : (gateways : ℕ) (bytes : List ℕ) (script : Content) → read_text line_taken (λ k. Form) (record { gateways = gateways; lines = [] }) bytes ≡ Ok script
    → Gives gateways (Ok script) (script_of gateways bytes)
read_gives gateways bytes script e = shown_ok gateways (script_of gateways bytes) script (sym (read_as_lines gateways bytes) ∙ e)

-- a line with a fault
pub read_fails : (gateways : ℕ) (bytes : List ℕ) (line : ℕ) (fault : ScriptFault)
    → read_text line_taken (λ k. Form) (record { gateways = gateways; lines = [] }) bytes ≡ Err (record { line = line; fault = fault })
    → script_of gateways bytes ≡ Err (record { line = line; fault = fault })
read_fails gateways bytes line fault e = shown_err gateways (script_of gateways bytes) (record { line = line; fault = fault }) (sym (read_as_lines gateways bytes) ∙ e)
