use Rattle.std.proofs.Common.{◌≡◌, ◌<◌, length, ap, ◌∙◌, arith}
use Rattle.ov_gossip.specs.Marks.{least, low_of}
use Rattle.ov_gossip.proofs.Leasts.{least_is}
use Rattle.ov_gossip.proofs.vector.Vector.visible.Goals as goal

pub returns-clause-least : goal.returns-clause-least
returns-clause-least c =
    let e : c.least_of.result ≡ least low_of c.args.self.now = c.least_of.ensures ∙ ap (least low_of) c.listed.ensures.marks in
    let some : 0 < length c.args.self.now = omega (arith, c.listed.ensures.form.some) in
    rw e (least_is low_of c.args.self.now some)
