use Rattle.std.proofs.Common.{◌<◌, length, refl, sym, ◌∙◌, arith}
use Rattle.std.specs.Prelude.{reverse}
use Rattle.ov_world.specs.World.{setting_by}
use Rattle.ov_world.proofs.Standing.{core_stands}
use Rattle.ov_world.proofs.world.World.may_follow.Goals as goal

pub returns-clause-may : goal.returns-clause-may
returns-clause-may c =
    let t = setting_by c.self.inside.topology c.self.inside.script in
    let h = reverse c.self.inside.entries.items in
    let cores = c.self.inside.cores.items in
    let within : c.in-Some.number < length cores = omega (arith, c.in-Some.ensures.there, c.self.invariant.world.stand.all) in
    let stands = core_stands t h cores c.in-Some.number c.args.entry.now.actor c.index-core.result.now c.self.invariant.world c.in-Some.ensures.inverse within c.index-core.ensures in
    rw (← c.self.view_is) (c.in_ok-may.ensures t h c.args.entry.now.actor (sym c.roster.ensures.value) stands refl ((rw c.requires at c.kept_letter-letter.ensures) ∙ (rw (c.as_slice-entries.ensures.value, c.requires) at c.in_ok-keep_letter.ensures.taken)))
