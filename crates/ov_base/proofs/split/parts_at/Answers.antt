use Rattle.std.proofs.Common.{List, [], ◌∷◌, ◌++◌, ◌==◌, map, sym, ap, ◌∙◌, append_assoc}
use Rattle.std.specs.List.{slice_split}
use Rattle.std.proofs.lemmas.List.{map-append}
use Rattle.ov_base.proofs.Joins.{split_cut, split_uncut}
use Rattle.ov_base.proofs.Splits.{cut_shorter}
use Rattle.ov_base.proofs.split.parts_at.Goals as goal

pub loop-part-smaller : goal.loop-part-smaller
loop-part-smaller c = cut_shorter c.args.byte c.loop-part.rest.now c.in-Some.part.now c.in-Some.others.now (sym c.in-Some.ensures)

pub loop-part-preserved : goal.loop-part-preserved
loop-part-preserved c =
    let cut = split_cut c.args.byte c.loop-part.rest.now c.in-Some.part.now c.in-Some.others.now (sym c.in-Some.ensures) in
    let others = slice_split (λ b. b == c.args.byte) c.in-Some.others.now in
    ap (λ (l : List _). map (λ x. x.now) l ++ others) c.in_ok-push.ensures.items
    ∙ ap (λ (l : List _). l ++ others) (map-append (λ x. x.now) c.loop-part.parts.items (c.in-Some.part ∷ []))
    ∙ append_assoc (map (λ x. x.now) c.loop-part.parts.items) (c.in-Some.part.now ∷ []) others
    ∙ ap (λ (l : List _). map (λ x. x.now) c.loop-part.parts.items ++ l) (sym cut)
    ∙ c.loop-part.invariant

pub returns : goal.returns
returns c =
    ap (map (λ x. x.now)) c.in_ok-push-2.ensures.items
    ∙ map-append (λ x. x.now) c.loop-part.parts.items (c.loop-part.rest ∷ [])
    ∙ ap (λ (l : List _). map (λ x. x.now) c.loop-part.parts.items ++ l) (sym (split_uncut c.args.byte c.loop-part.rest.now (sym c.in_default.ensures)))
    ∙ c.loop-part.invariant
