use Rattle.std.proofs.Common.{◌≡◌, [], ◌∷◌, ◌++◌, decimal, rules}
use Rattle.ov_base.proofs.Printing.{printed_then}
use Rattle.ov_topology.proofs.fault.print_numbers.Goals as goal

pub returns : goal.returns
returns c =
    let first : c.print_number.new.text.items ≡ c.args.text.now.items ++ decimal c.args.write = search rules in
    let space : c.push.new.self.items ≡ c.print_number.new.text.items ++ 32 ∷ [] = search rules in
    printed_then c.print_pair.result _ c.print_number.new.text.items _ (decimal c.args.write) (32 ∷ (decimal c.args.read ++ 32 ∷ decimal c.args.centres)) first
    (printed_then c.print_pair.result _ c.push.new.self.items _ (32 ∷ []) (decimal c.args.read ++ 32 ∷ decimal c.args.centres) space c.print_pair.ensures)
