use Rattle.std.proofs.Common.{◌≡◌, ◌<◌, length, ap, ◌∙◌, arith}
use Rattle.ov_gossip.specs.Marks.{greatest, low_time}
use Rattle.ov_gossip.proofs.Leasts.{greatest_is}
use Rattle.ov_gossip.proofs.vector.Vector.top_time.Goals as goal

pub returns-clause-greatest : goal.returns-clause-greatest
returns-clause-greatest c =
    let e : c.greatest_time.result ≡ greatest low_time c.args.self.now = c.greatest_time.ensures ∙ ap (greatest low_time) c.listed.ensures.marks in
    let some : 0 < length c.args.self.now = omega (arith, c.listed.ensures.form.some) in
    rw e (greatest_is low_time c.args.self.now some)
