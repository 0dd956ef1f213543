use Rattle.std.proofs.Common.{◌≡◌, ap, ◌∙◌}
use Rattle.ov_history.specs.Past.{History}
use Rattle.ov_history.specs.May.{May}
use Rattle.ov_history.specs.Gives.{act_of, gives}
use Rattle.ov_world.specs.World.{grown, setting_of}
use Rattle.ov_world.proofs.Standing.{given_grows}
use Rattle.ov_world.proofs.world.World.admit.Goals as goal

pub returns-clause-may : goal.returns-clause-may
returns-clause-may c =
    let w = c.args.self.now in
    let e = c.args.entry.now in
    let may : May (setting_of w) w.history e = c.in_ok-may_follow.ensures.may.0 c.if-not-branch.false in
    let gave : c.perform.new.self ≡ grown (gives (setting_of w) w.history e.actor (act_of e.kind)) w = rw (c.act_of-act.ensures, c.in_ok-may_follow.ensures.same) at c.in_ok-admitted.ensures.gives in
    let more = given_grows (setting_of w) w.history e c.in_ok-admitted.admitted c.assure.ensures.lawful.0 may (rw (gave, c.in_ok-may_follow.ensures.same) at c.in_ok-admitted.ensures.grew) in
    (λ is. may, λ is. more.0)

pub returns-clause-admit : goal.returns-clause-admit
returns-clause-admit c =
    let w = c.args.self.now in
    let e = c.args.entry.now in
    let may : May (setting_of w) w.history e = c.in_ok-may_follow.ensures.may.0 c.if-not-branch.false in
    let gave : c.perform.new.self ≡ grown (gives (setting_of w) w.history e.actor (act_of e.kind)) w = rw (c.act_of-act.ensures, c.in_ok-may_follow.ensures.same) at c.in_ok-admitted.ensures.gives in
    let more = given_grows (setting_of w) w.history e c.in_ok-admitted.admitted c.assure.ensures.lawful.0 may (rw (gave, c.in_ok-may_follow.ensures.same) at c.in_ok-admitted.ensures.grew) in
    rw more.0 (gave ∙ ap (λ (history : History). record w { history = history }) more.1)
