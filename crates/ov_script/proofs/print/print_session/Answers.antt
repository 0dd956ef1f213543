use Rattle.std.proofs.Common.{◌≡◌, [], ◌∷◌, ◌++◌, codes, rules}
use Rattle.ov_base.proofs.Printing.{printed_then}
use Rattle.ov_topology.specs.Actor.{gate_text}
use Rattle.ov_script.proofs.print.print_session.Goals as goal

pub returns : goal.returns
returns c =
    let word : c.extend_from_slice.new.self.items ≡ c.args.text.now.items ++ codes "session " = search rules in
    let name : c.extend_from_slice-2.new.self.items ≡ c.extend_from_slice.new.self.items ++ c.args.name.now = search rules in
    let space : c.push.new.self.items ≡ c.extend_from_slice-2.new.self.items ++ 32 ∷ [] = search rules in
    printed_then c.print_gate.result _ c.extend_from_slice.new.self.items _ (codes "session ") (c.args.name.now ++ 32 ∷ gate_text c.args.gate) word
    (printed_then c.print_gate.result _ c.extend_from_slice-2.new.self.items _ c.args.name.now (32 ∷ gate_text c.args.gate) name
    (printed_then c.print_gate.result _ c.push.new.self.items _ (32 ∷ []) (gate_text c.args.gate) space c.print_gate.ensures))
