use Rattle.std.proofs.Common.{◌≡◌, ℕ, Err, ◌∷◌, ◌++◌, decimal, codes, rules}
use Rattle.std.proofs.lemmas.Result.{err_from_is_err_and}
use Rattle.ov_base.proofs.Printing.{printed_then, printed_before}
use Rattle.ov_topology.specs.Actor.{gate_text}
use Rattle.ov_script.proofs.step.print_publish.Goals as goal

pub returns-in_err-print_gate : goal.returns-in_err-print_gate
returns-in_err-print_gate c =
    let p = err_from_is_err_and c.from_residual-in_err-print_gate.result c.from_residual-in_err-print_gate.ensures.1 in
    let word : c.extend_from_slice.new.self.items ≡ c.args.text.now.items ++ codes "publish " = search rules in
    rw p.1 (printed_then {T = ℕ} {E = ℕ} (Err 0) _ c.extend_from_slice.new.self.items _ (codes "publish ") (gate_text c.args.gate ++ 32 ∷ decimal c.args.clock) word
    (printed_before c.extend_from_slice.new.self.items c.print_gate.new.text.items (gate_text c.args.gate) (32 ∷ decimal c.args.clock) c.in_err-print_gate.ensures))

pub returns : goal.returns
returns c =
    let word : c.extend_from_slice.new.self.items ≡ c.args.text.now.items ++ codes "publish " = search rules in
    let name : c.print_gate.new.text.items ≡ c.extend_from_slice.new.self.items ++ gate_text c.args.gate = search rules in
    printed_then c.print_clock.result _ c.extend_from_slice.new.self.items _ (codes "publish ") (gate_text c.args.gate ++ 32 ∷ decimal c.args.clock) word
    (printed_then c.print_clock.result _ c.print_gate.new.text.items _ (gate_text c.args.gate) (32 ∷ decimal c.args.clock) name c.print_clock.ensures)
