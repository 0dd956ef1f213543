use Rattle.std.proofs.Common.{◌<◌, length, refl, sym, ◌∙◌, arith}
use Rattle.std.specs.Prelude.{reverse}
use Rattle.ov_world.specs.Acts.{act_in}
use Rattle.ov_world.specs.World.{setting_by}
use Rattle.ov_world.proofs.Numbered.{letter_stays, reverse_more}
use Rattle.ov_world.proofs.Standing.{core_stands, world_more}
use Rattle.ov_world.proofs.world.World.perform.Goals as goal

pub invariant_of-self-in-Some-2 : goal.invariant_of-self-in-Some-2
invariant_of-self-in-Some-2 c =
    let t = setting_by c.self.inside.topology c.self.inside.script in
    let h = reverse c.self.inside.entries.items in
    let cores = c.self.inside.cores.items in
    let within : c.in-Some.number < length cores = omega (arith, c.in-Some.ensures.there, c.self.invariant.world.stand.all) in
    let stands = core_stands t h cores c.in-Some.number c.args.actor c.index_mut-core.result.now c.self.invariant.world c.in-Some.ensures.inverse within c.index_mut-core.ensures.value in
    let does = c.in_ok-act.ensures.does t h c.args.actor (sym c.roster.ensures.value) c.self.invariant.world.run.1 stands (c.kept_letter-letter.ensures ∙ (rw (c.as_slice-entries.ensures.value, c.in_ok-reserve.ensures.items) at c.in_ok-keep_letter.ensures.taken)) in
    rw (c.push_within.ensures, reverse_more c.reserve.new.self.items c.in-Some-2.entry, c.in_ok-reserve.ensures.items)
    (record {
      world = world_more t h cores c.in-Some.number c.args.actor (act_in c.args.act) c.in-Some-2.entry c.act.new.self c.self.invariant.world c.in-Some.ensures.inverse within (rw c.in-Some-2.is at does);
      letter = letter_stays t.topology h c.in-Some-2.entry c.keep_letter.new.last (rw (c.as_slice-entries.ensures.value, c.in_ok-reserve.ensures.items) at c.in_ok-keep_letter.ensures.kept);
    })

pub returns-in-None-clause-gives : goal.returns-in-None-clause-gives
returns-in-None-clause-gives c =
    let t = setting_by c.self.inside.topology c.self.inside.script in
    let h = reverse c.self.inside.entries.items in
    let cores = c.self.inside.cores.items in
    let within : c.in-Some.number < length cores = omega (arith, c.in-Some.ensures.there, c.self.invariant.world.stand.all) in
    let stands = core_stands t h cores c.in-Some.number c.args.actor c.index_mut-core.result.now c.self.invariant.world c.in-Some.ensures.inverse within c.index_mut-core.ensures.value in
    let does = c.in_ok-act.ensures.does t h c.args.actor (sym c.roster.ensures.value) c.self.invariant.world.run.1 stands (c.kept_letter-letter.ensures ∙ (rw (c.as_slice-entries.ensures.value, c.in_ok-reserve.ensures.items) at c.in_ok-keep_letter.ensures.taken)) in
    rw (← c.self.view_is, c.in_ok-reserve.ensures.items, sym (rw c.in-None.is at does.given)) refl

pub returns-in-Some-2-clause-gives : goal.returns-in-Some-2-clause-gives
returns-in-Some-2-clause-gives c =
    let t = setting_by c.self.inside.topology c.self.inside.script in
    let h = reverse c.self.inside.entries.items in
    let cores = c.self.inside.cores.items in
    let within : c.in-Some.number < length cores = omega (arith, c.in-Some.ensures.there, c.self.invariant.world.stand.all) in
    let stands = core_stands t h cores c.in-Some.number c.args.actor c.index_mut-core.result.now c.self.invariant.world c.in-Some.ensures.inverse within c.index_mut-core.ensures.value in
    let does = c.in_ok-act.ensures.does t h c.args.actor (sym c.roster.ensures.value) c.self.invariant.world.run.1 stands (c.kept_letter-letter.ensures ∙ (rw (c.as_slice-entries.ensures.value, c.in_ok-reserve.ensures.items) at c.in_ok-keep_letter.ensures.taken)) in
    rw (← c.self.view_is, c.push_within.ensures, reverse_more c.reserve.new.self.items c.in-Some-2.entry, c.in_ok-reserve.ensures.items, sym (rw c.in-Some-2.is at does.given)) refl
