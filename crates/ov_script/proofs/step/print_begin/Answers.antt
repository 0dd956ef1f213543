use Rattle.std.proofs.Common.{◌≡◌, ◌∷◌, ◌++◌, decimal, codes, rules}
use Rattle.ov_base.proofs.Printing.{printed_then}
use Rattle.ov_script.proofs.step.print_begin.Goals as goal

pub returns : goal.returns
returns c =
    let word : c.extend_from_slice.new.self.items ≡ c.args.text.now.items ++ codes "begin " = search rules in
    let name : c.extend_from_slice-2.new.self.items ≡ c.extend_from_slice.new.self.items ++ c.args.session.now = search rules in
    printed_then c.print_clock.result _ c.extend_from_slice.new.self.items _ (codes "begin ") (c.args.session.now ++ 32 ∷ decimal c.args.clock) word
    (printed_then c.print_clock.result _ c.extend_from_slice-2.new.self.items _ c.args.session.now (32 ∷ decimal c.args.clock) name c.print_clock.ensures)
