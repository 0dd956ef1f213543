use Rattle.std.proofs.Common.{◌∙◌, ap₂, nat_cmp}
use Rattle.std.specs.Cmp.Lexicographic.{slice_cmp}
use Rattle.ov_base.proofs.Keys.{cells_ordered}
use Rattle.ov_base.proofs.key.KeyOrd.cmp.Goals as goal

pub returns : goal.returns
returns c =
    c.cells_order.ensures ∙ cells_ordered c.self.inside.cells c.other.inside.cells c.self.inside.len c.other.inside.len c.self.invariant c.other.invariant
    ∙ ap₂ (slice_cmp nat_cmp) c.self.view_is c.other.view_is
