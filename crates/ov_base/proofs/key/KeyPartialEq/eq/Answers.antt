use Rattle.std.proofs.Common.{◌∙◌, ap₂}
use Rattle.ov_base.specs.Key.{key_eq}
use Rattle.ov_base.proofs.Keys.{cells_tied}
use Rattle.ov_base.proofs.key.KeyPartialEq.eq.Goals as goal

pub returns : goal.returns
returns c =
    c.same_cells.ensures ∙ cells_tied c.self.inside.cells c.other.inside.cells c.self.inside.len c.other.inside.len c.self.invariant c.other.invariant
    ∙ ap₂ key_eq c.self.view_is c.other.view_is
