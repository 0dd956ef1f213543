use Rattle.std.proofs.Common.{◌<◌, length, sym, arith}
use Rattle.std.specs.Prelude.{reverse}
use Rattle.ov_world.specs.World.{setting_by}
use Rattle.ov_world.proofs.Standing.{core_stands, outside_runs}
use Rattle.ov_world.proofs.world.World.has_stopped.Goals as goal

pub returns-in-None : goal.returns-in-None
returns-in-None c =
    let t = setting_by c.self.inside.topology c.self.inside.script in
    rw (← c.self.view_is) (sym (outside_runs t (reverse c.self.inside.entries.items) c.args.actor c.self.invariant.world.run.1 (rw (← c.number_of.ensures.value) c.in-None.is)))

pub returns-in-Some : goal.returns-in-Some
returns-in-Some c =
    let t = setting_by c.self.inside.topology c.self.inside.script in
    let h = reverse c.self.inside.entries.items in
    let cores = c.self.inside.cores.items in
    let within : c.in-Some.number < length cores = omega (arith, c.in-Some.ensures.there, c.self.invariant.world.stand.all) in
    let stands = core_stands t h cores c.in-Some.number c.args.actor c.index.result.now c.self.invariant.world c.in-Some.ensures.inverse within c.index.ensures in
    rw (← c.self.view_is) (c.has_stopped.ensures t h c.args.actor stands)
