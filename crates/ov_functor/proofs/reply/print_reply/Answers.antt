use Rattle.std.proofs.Common.{◌≡◌, ◌++◌, rules}
use Rattle.ov_base.specs.Version.{version_text}
use Rattle.ov_base.proofs.Printing.{printed_then}
use Rattle.ov_functor.specs.Reply.{showns_text}
use Rattle.ov_functor.proofs.reply.print_reply.Goals as goal

pub returns : goal.returns
returns c =
    let word : c.extend_from_slice.new.self.items ≡ c.args.text.now.items ++ c.args.word.now = search rules in
    let mark : c.print_mark.new.text.items ≡ c.extend_from_slice.new.self.items ++ version_text c.args.mark = search rules in
    printed_then c.print_showns.result _ c.extend_from_slice.new.self.items _ c.args.word.now (version_text c.args.mark ++ showns_text c.args.list.now) word
    (printed_then c.print_showns.result _ c.print_mark.new.text.items _ (version_text c.args.mark) (showns_text c.args.list.now) mark c.print_showns.ensures)
