use Rattle.std.proofs.Common.{◌≡◌, ℕ, ◌-◌, ◌<◌, List, [], ◌∷◌, ◌++◌, length, get_or, take, drop, ap, subst, ◌∙◌, arith}
use Rattle.std.specs.List.{flat_map}
use Rattle.std.proofs.lemmas.List.{take_all}
use Rattle.std.proofs.lemmas.Result.{err_from_is_err_and}
use Rattle.ov_base.specs.Word.{Printed, AddsFront}
use Rattle.ov_base.proofs.Printing.{printed_then, printed_before}
use Rattle.ov_functor.specs.declared.part.Part.{Part}
use Rattle.ov_functor.specs.Words.{part_text, further_text, parts_text}
use Rattle.ov_functor.proofs.words.print_parts.Goals as goal

-- the parts but the first
abbrev others_of : List Part → List Part
others_of parts = take (length parts - 1) (drop 1 parts)

first_apart : (parts : List Part) (first : Part) → 0 < length parts → first ≡ get_or parts 0 first → part_text first ++ flat_map further_text (others_of parts) ≡ parts_text parts
first_apart [] first some is = absurd (omega arith)
first_apart (part ∷ others) first some is =
    ap (λ (t : List Part). part_text first ++ flat_map further_text t) (take_all (length (part ∷ others) - 1) others (omega arith))
    ∙ ap (λ (p : Part). part_text p ++ flat_map further_text others) is

pub returns-in_err-print_part-in-len1-up : goal.returns-in_err-print_part-in-len1-up
returns-in_err-print_part-in-len1-up c =
    let p = err_from_is_err_and c.from_residual.result c.from_residual.ensures.1 in
    let apart = first_apart c.args.parts.now c.first-item.result (omega arith) c.first-item.is in
    rw p.1 (subst (λ (t : List ℕ). AddsFront c.args.text.now.items c.print_part.new.text.items t) apart
    (printed_before c.args.text.now.items c.print_part.new.text.items (part_text c.first-item.result) (flat_map further_text (others_of c.args.parts.now))
    c.in_err-print_part-in-len1-up.ensures))

pub returns-in_ok-print_part-in-len1-up : goal.returns-in_ok-print_part-in-len1-up
returns-in_ok-print_part-in-len1-up c =
    let apart = first_apart c.args.parts.now c.first-item.result (omega arith) c.first-item.is in
    subst (λ (t : List ℕ). Printed c.print_further.result c.args.text.now.items c.print_further.new.text.items t) apart
    (printed_then c.print_further.result c.args.text.now.items c.print_part.new.text.items c.print_further.new.text.items (part_text c.first-item.result)
    (flat_map further_text (others_of c.args.parts.now)) c.in_ok-print_part-in-len1-up.ensures c.print_further.ensures)
