use Rattle.std.proofs.Common.{◌≡◌, ◌∷◌, ◌++◌, rules}
use Rattle.std.specs.Fmt.{decimal}
use Rattle.ov_base.proofs.Printing.{printed_then}
use Rattle.ov_script.proofs.print.print_awaited.Goals as goal

pub returns : goal.returns
returns c =
    let name : c.extend_from_slice.new.self.items ≡ c.args.text.now.items ++ c.args.session.now = search rules in
    printed_then c.print_seq.result _ c.extend_from_slice.new.self.items _ c.args.session.now (32 ∷ decimal c.args.seq) name c.print_seq.ensures
