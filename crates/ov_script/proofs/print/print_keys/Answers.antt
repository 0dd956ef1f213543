use Rattle.std.proofs.Common.{◌≡◌, ◌∷◌, ◌++◌, ℕ, ◌-◌, List, length, take, drop, subst, arith, rules}
use Rattle.std.specs.List.{flat_map}
use Rattle.ov_base.specs.Word.{Printed}
use Rattle.ov_base.proofs.Printing.{printed_then}
use Rattle.ov_script.proofs.LineWords.{first_key}
use Rattle.ov_script.proofs.print.print_keys.Goals as goal

pub returns-in_ok-extend_from_slice-in-len1-up : goal.returns-in_ok-extend_from_slice-in-len1-up
returns-in_ok-extend_from_slice-in-len1-up c =
    let keys = c.args.keys.now in
    let front : c.extend_from_slice.new.self.items ≡ c.args.text.now.items ++ c.first-item.result = search rules in
    subst (λ (t : List ℕ). Printed c.print_further.result c.args.text.now.items c.print_further.new.text.items t) (first_key keys c.first-item.result (omega arith) c.first-item.is)
    (printed_then c.print_further.result c.args.text.now.items c.extend_from_slice.new.self.items c.print_further.new.text.items c.first-item.result
    (flat_map (λ (key : List ℕ). 32 ∷ key) (take (length keys - 1) (drop 1 keys))) front c.print_further.ensures)
