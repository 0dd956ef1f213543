use Rattle.std.proofs.Common.{◌≡◌, ◌<◌, length, ap, ◌∙◌, arith}
use Rattle.ov_gossip.specs.Marks.{least, done_of}
use Rattle.ov_gossip.proofs.Leasts.{least_is}
use Rattle.ov_gossip.proofs.vector.Vector.finished.Goals as goal

pub returns-clause-least : goal.returns-clause-least
returns-clause-least c =
    let e : c.least_of.result ≡ least done_of c.args.self.now = c.least_of.ensures ∙ ap (least done_of) c.listed.ensures.marks in
    let some : 0 < length c.args.self.now = omega (arith, c.listed.ensures.form.some) in
    rw e (least_is done_of c.args.self.now some)
