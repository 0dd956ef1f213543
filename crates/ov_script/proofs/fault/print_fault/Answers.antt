use Rattle.std.proofs.Common.{◌≡◌, ℕ, List, ◌++◌, decimal, rules, sym, subst, ap, ◌∙◌, append_assoc}
use Rattle.std.specs.Prelude.{codes}
use Rattle.std.proofs.lemmas.Result.{err_from_is_err_and}
use Rattle.ov_base.specs.Word.{AddsFront, Printed}
use Rattle.ov_base.proofs.Printing.{printed_nothing, printed_front, printed_then}
use Rattle.ov_script.specs.FaultLines.{fault_line}
use Rattle.ov_script.proofs.fault.print_fault.Goals as goal

-- the line from its end
line_behind : (name : List ℕ) (line : ℕ) (words : List ℕ) → fault_line name line words ≡ name ++ (codes ": line " ++ (decimal line ++ codes ": " ++ words))
line_behind name line words =
    append_assoc (name ++ codes ": line " ++ decimal line) (codes ": ") words
    ∙ append_assoc (name ++ codes ": line ") (decimal line) (codes ": " ++ words)
    ∙ append_assoc name (codes ": line ") (decimal line ++ (codes ": " ++ words))
    ∙ ap (λ (t : List ℕ). name ++ (codes ": line " ++ t)) (sym (append_assoc (decimal line) (codes ": ") words))

pub returns-in_err-extend_from_slice : goal.returns-in_err-extend_from_slice
returns-in_err-extend_from_slice c =
    let p = err_from_is_err_and c.from_residual.result c.from_residual.ensures.1 in
    let same : c.extend_from_slice.new.self.items ≡ c.args.text.now.items = search rules in
    rw (p.1, same) (printed_nothing c.args.text.now.items (fault_line c.args.name.now c.args.line c.args.words.now))

pub returns-in_err-extend_from_slice-2 : goal.returns-in_err-extend_from_slice-2
returns-in_err-extend_from_slice-2 c =
    let p = err_from_is_err_and c.from_residual-in_err-extend_from_slice-2.result c.from_residual-in_err-extend_from_slice-2.ensures.1 in
    let name : c.extend_from_slice.new.self.items ≡ c.args.text.now.items ++ c.args.name.now = search rules in
    let same : c.extend_from_slice-2.new.self.items ≡ c.extend_from_slice.new.self.items = search rules in
    rw p.1 (subst (AddsFront c.args.text.now.items c.extend_from_slice-2.new.self.items) (sym (line_behind c.args.name.now c.args.line c.args.words.now))
    (printed_front c.args.text.now.items c.extend_from_slice-2.new.self.items c.args.name.now _ (same ∙ name)))

pub returns : goal.returns
returns c =
    let numbered = decimal c.args.line ++ codes ": " ++ c.args.words.now in
    let name : c.extend_from_slice.new.self.items ≡ c.args.text.now.items ++ c.args.name.now = search rules in
    let word : c.extend_from_slice-2.new.self.items ≡ c.extend_from_slice.new.self.items ++ codes ": line " = search rules in
    subst (Printed c.print_numbered.result c.args.text.now.items c.print_numbered.new.text.items) (sym (line_behind c.args.name.now c.args.line c.args.words.now))
    (printed_then c.print_numbered.result _ c.extend_from_slice.new.self.items _ c.args.name.now (codes ": line " ++ numbered) name
    (printed_then c.print_numbered.result _ c.extend_from_slice-2.new.self.items _ (codes ": line ") numbered word c.print_numbered.ensures))
