use Rattle.std.proofs.Common.{◌≡◌, ◌∷◌, ◌++◌, decimal, rules}
use Rattle.ov_base.proofs.Printing.{printed_then}
use Rattle.ov_topology.proofs.fault.print_quorum.Goals as goal

pub returns : goal.returns
returns c =
    let words : c.extend_from_slice.new.self.items ≡ c.args.text.now.items ++ c.args.words.now = search rules in
    printed_then c.print_numbers.result _ c.extend_from_slice.new.self.items _ c.args.words.now (decimal c.args.write ++ 32 ∷ (decimal c.args.read ++ 32 ∷ decimal c.args.centres)) words c.print_numbers.ensures
