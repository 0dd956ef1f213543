use Rattle.std.proofs.Common.{List, sym, subst}
use Rattle.ov_lists.specs.Entries.{Entry, IsOrdered, is_inside}
use Rattle.ov_lists.specs.Parts.{listed}
use Rattle.ov_lists.proofs.Entries.{ordered_filter}
use Rattle.ov_lists.proofs.lists.VersionLists.window.Goals as goal

pub sort_found-requires : goal.sort_found-requires
sort_found-requires g c =
    let ordered = subst (λ (t : List (Entry _)). IsOrdered (listed t c.self.inside.blocks.parts)) (sym c.as_slice.ensures.value) c.self.invariant.0.ordered in
    rw c.in_ok-found.ensures (ordered_filter (is_inside c.args.from c.args.below) (listed c.as_slice.result.now c.self.inside.blocks.parts) ordered)
