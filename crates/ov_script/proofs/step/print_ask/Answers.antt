use Rattle.std.proofs.Common.{◌≡◌, ℕ, Err, [], ◌∷◌, ◌++◌, codes, rules}
use Rattle.std.proofs.lemmas.Result.{err_from_is_err_and}
use Rattle.ov_base.proofs.Printing.{printed_then, printed_before}
use Rattle.ov_topology.specs.Actor.{settler_text}
use Rattle.ov_topology.specs.Mode.{mode_text}
use Rattle.ov_script.proofs.step.print_ask.Goals as goal

pub returns-in_err-print_settler : goal.returns-in_err-print_settler
returns-in_err-print_settler c =
    let p = err_from_is_err_and c.from_residual-in_err-print_settler.result c.from_residual-in_err-print_settler.ensures.1 in
    let word : c.extend_from_slice.new.self.items ≡ c.args.text.now.items ++ codes "ask " = search rules in
    rw p.1 (printed_then {T = ℕ} {E = ℕ} (Err 0) _ c.extend_from_slice.new.self.items _ (codes "ask ") (settler_text c.args.settler ++ 32 ∷ mode_text c.args.mode) word
    (printed_before c.extend_from_slice.new.self.items c.print_settler.new.text.items (settler_text c.args.settler) (32 ∷ mode_text c.args.mode) c.in_err-print_settler.ensures))

pub returns : goal.returns
returns c =
    let word : c.extend_from_slice.new.self.items ≡ c.args.text.now.items ++ codes "ask " = search rules in
    let name : c.print_settler.new.text.items ≡ c.extend_from_slice.new.self.items ++ settler_text c.args.settler = search rules in
    let space : c.push.new.self.items ≡ c.print_settler.new.text.items ++ 32 ∷ [] = search rules in
    printed_then c.print_to.result _ c.extend_from_slice.new.self.items _ (codes "ask ") (settler_text c.args.settler ++ 32 ∷ mode_text c.args.mode) word
    (printed_then c.print_to.result _ c.print_settler.new.text.items _ (settler_text c.args.settler) (32 ∷ mode_text c.args.mode) name
    (printed_then c.print_to.result _ c.push.new.self.items _ (32 ∷ []) (mode_text c.args.mode) space c.print_to.ensures))
