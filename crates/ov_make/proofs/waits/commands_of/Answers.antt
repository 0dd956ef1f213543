use Rattle.std.proofs.Common.{◌≡◌, List, length, get_or, ap, ◌∙◌, arith}
use Rattle.ov_session.specs.declared.plan.SessionPlan.{SessionPlan}
use Rattle.ov_session.specs.declared.roster.Roster.{Roster}
use Rattle.ov_script.specs.Sessions.{commands_in, roster_of}
use Rattle.ov_make.specs.Made.{session_name}
use Rattle.ov_make.proofs.Rosters.{open_length, open_commands, open_few}
use Rattle.ov_make.proofs.waits.commands_of.Goals as goal

commands_are : (c : goal.After-len) → c.len.result ≡ commands_in (session_name c.args.session) c.args.script.now.lines
commands_are c =
    c.len.ensures
    ∙ ap (λ (plans : List SessionPlan). length (get_or plans c.args.session c.index-as_slice-session.result).planned) (c.as_slice.ensures ∙ ap (λ (roster : Roster). roster.sessions) c.roster.ensures.value)
    ∙ open_commands c.args.script.now 0 c.requires.all c.args.session c.index-as_slice-session.result c.requires.there

pub bounds-as_slice-session : goal.bounds-as_slice-session
bounds-as_slice-session c =
    let there : length c.as_slice.result.now ≡ length (roster_of c.args.script.now.lines).sessions = ap length (c.as_slice.ensures ∙ ap (λ (roster : Roster). roster.sessions) c.roster.ensures.value) in
    omega (arith, there, open_length c.args.script.now 0 c.requires.all, c.requires.there)

pub overflow_cast-result : goal.overflow_cast-result
overflow_cast-result c = omega (arith, commands_are c, open_few c.args.script.now 0 c.requires.all c.args.session)

pub returns : goal.returns
returns c = commands_are c
