use Rattle.std.proofs.Common.{◌≡◌, ◌+◌, ◌-◌, ℕ, List, insert, set, take, drop, suc, ap, ◌∙◌, arith}
use Rattle.ov_lists.specs.Parts.{flat, part_at}
use Rattle.ov_lists.proofs.Parts.{in_two, put_lower, put_upper}
use Rattle.ov_lists.proofs.filing.insert_inside.Goals as goal

-- what is split is in two
in_two_is : (parts cut : List (List ℕ)) (at : ℕ) → cut ≡ insert (set parts at (take 16 (part_at parts at))) (at + 1) (drop 16 (part_at parts at)) → cut ≡ in_two parts at 16
in_two_is parts cut at is =
    let next : at + 1 ≡ suc at = omega arith in
    is ∙ ap (λ k. insert (set parts at (take 16 (part_at parts at))) k (drop 16 (part_at parts at))) next

pub returns-then-at-le-HALF_ROOM-clause-places : goal.returns-then-at-le-HALF_ROOM-clause-places
returns-then-at-le-HALF_ROOM-clause-places c =
    ap flat c.put.ensures.parts
    ∙ put_lower c.args.blocks.now.parts c.args.at.block 16 c.args.at.offset c.args.place c.requires.there (omega (arith, c.requires.full)) c.split-next.new.self.parts
    (in_two_is c.args.blocks.now.parts c.split-next.new.self.parts c.args.at.block c.split-next.ensures.parts) (omega (arith, c.if-at-le-HALF_ROOM.true))

pub returns-else-at-le-HALF_ROOM-clause-places : goal.returns-else-at-le-HALF_ROOM-clause-places
returns-else-at-le-HALF_ROOM-clause-places c =
    ap flat c.put-else-at-le-HALF_ROOM.ensures.parts
    ∙ put_upper c.args.blocks.now.parts c.args.at.block 16 c.args.at.offset c.args.place c.requires.there (omega (arith, c.requires.full)) c.split-next.new.self.parts
    c.split-next.result (c.args.at.offset - 16)
    (in_two_is c.args.blocks.now.parts c.split-next.new.self.parts c.args.at.block c.split-next.ensures.parts) c.split-next.ensures.next
    (omega (arith, c.if-at-le-HALF_ROOM.false)) (omega (arith, c.requires.full, c.requires.within))
