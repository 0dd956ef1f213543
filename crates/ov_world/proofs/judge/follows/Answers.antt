use Rattle.std.proofs.Common.{◌<◌, ◌∷◌, length, refl, subst, ◌∙◌, arith}
use Rattle.std.specs.Prelude.{reverse, slice_set}
use Rattle.ov_event.specs.declared.entry.Entry.{Entry}
use Rattle.ov_history.specs.May.{Setting}
use Rattle.ov_world.specs.Acts.{act_in}
use Rattle.ov_world.specs.World.{Keeps}
use Rattle.ov_world.proofs.Judging.{given_may, none_may_not}
use Rattle.ov_world.proofs.Numbered.{letter_stays}
use Rattle.ov_world.proofs.Standing.{core_stands, world_more}
use Rattle.ov_world.proofs.judge.follows.Goals as goal

pub returns-in-None-clause-may : goal.returns-in-None-clause-may
returns-in-None-clause-may c =
    let t : Setting = record { topology = c.args.topology.now; roster = c.args.roster.now } in
    let h = reverse c.args.before.now in
    let e = c.args.entry.now in
    let cores = c.args.cores.now.items in
    let within : c.in-Some.number < length cores = omega (arith, c.in-Some.ensures.there, c.requires.keeps.world.stand.all) in
    let stands = core_stands t h cores c.in-Some.number e.actor c.index_mut-core.result.now c.requires.keeps.world c.in-Some.ensures.inverse within c.index_mut-core.ensures.value in
    let does = c.in_ok-act.ensures.does t h e.actor refl c.requires.keeps.world.run.1 stands (c.kept_letter-letter.ensures ∙ c.in_ok-keep_letter.ensures.taken) in
    (λ never. absurd cc, λ may. absurd (none_may_not t h e (rw (c.in-None.is, c.act_of-act.ensures) at does.given) may))

pub returns-in-Some-2-clause-may : goal.returns-in-Some-2-clause-may
returns-in-Some-2-clause-may c =
    let t : Setting = record { topology = c.args.topology.now; roster = c.args.roster.now } in
    let h = reverse c.args.before.now in
    let e = c.args.entry.now in
    let cores = c.args.cores.now.items in
    let within : c.in-Some.number < length cores = omega (arith, c.in-Some.ensures.there, c.requires.keeps.world.stand.all) in
    let stands = core_stands t h cores c.in-Some.number e.actor c.index_mut-core.result.now c.requires.keeps.world c.in-Some.ensures.inverse within c.index_mut-core.ensures.value in
    let does = c.in_ok-act.ensures.does t h e.actor refl c.requires.keeps.world.run.1 stands (c.kept_letter-letter.ensures ∙ c.in_ok-keep_letter.ensures.taken) in
    let both = given_may t h e c.in-Some-2.given c.requires.keeps.world.run.0 (rw (c.in-Some-2.is, c.act_of-act.ensures) at does.given) in
    (λ same. both.0 (c.same.ensures.0 same), λ may. c.same.ensures.1 (both.1 may))

pub returns-in-Some-2-clause-keeps : goal.returns-in-Some-2-clause-keeps
returns-in-Some-2-clause-keeps c = λ same.
    let t : Setting = record { topology = c.args.topology.now; roster = c.args.roster.now } in
    let h = reverse c.args.before.now in
    let e = c.args.entry.now in
    let cores = c.args.cores.now.items in
    let within : c.in-Some.number < length cores = omega (arith, c.in-Some.ensures.there, c.requires.keeps.world.stand.all) in
    let stands = core_stands t h cores c.in-Some.number e.actor c.index_mut-core.result.now c.requires.keeps.world c.in-Some.ensures.inverse within c.index_mut-core.ensures.value in
    let does = c.in_ok-act.ensures.does t h e.actor refl c.requires.keeps.world.run.1 stands (c.kept_letter-letter.ensures ∙ c.in_ok-keep_letter.ensures.taken) in
    subst (λ (x : Entry). Keeps t (x ∷ h) (slice_set cores c.in-Some.number c.act.new.self) c.keep_letter.new.last) (c.same.ensures.0 same)
    (record {
      world = world_more t h cores c.in-Some.number e.actor (act_in c.act_of-act.result) c.in-Some-2.given c.act.new.self c.requires.keeps.world c.in-Some.ensures.inverse within (rw c.in-Some-2.is at does);
      letter = letter_stays t.topology h c.in-Some-2.given c.keep_letter.new.last c.in_ok-keep_letter.ensures.kept;
    })
