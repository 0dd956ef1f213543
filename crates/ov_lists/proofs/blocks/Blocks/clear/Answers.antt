use Rattle.std.proofs.Common.{◌≤◌, ◌<◌, ℕ, List, length, ap, subst}
use Rattle.std.specs.List.{AllByRecursion}
use Rattle.ov_lists.specs.Parts.{Cut}
use Rattle.ov_lists.proofs.Parts.{most_flat}
use Rattle.ov_lists.proofs.blocks.Blocks.clear.Goals as goal

pub returns-clause-most : goal.returns-clause-most
returns-clause-most c =
    most_flat c.args.self.now.parts
    (subst (λ (t : List (List ℕ)). AllByRecursion (λ part. (0 < length part) × (length part ≤ 32)) t) (ap (λ (s : Cut). s.parts) c.self.view_is) c.self.invariant.some)
