use Rattle.std.proofs.Common.{◌≡◌, ℕ, ◌+◌, ◌-◌, ap, sym, subst, ◌∙◌, arith}
use Rattle.ov_script.specs.Script.{Content}
use Rattle.ov_make.specs.Made.{last_wait}
use Rattle.ov_make.specs.Progress.{IsOpen, with_lines}
use Rattle.ov_make.proofs.Growing.{awaited, open_awaited, awaited_next, grown}
use Rattle.ov_make.proofs.waits.add_last_waits.Goals as goal

pub add_last_wait-requires-clause-all : goal.add_last_wait-requires-clause-all
add_last_wait-requires-clause-all c =
    subst (λ (script : Content). IsOpen script 0) (sym c.loop-session.invariant)
    (open_awaited c.args.script.now 0 (c.loop-session.session - 1) c.args.script.now.lines c.requires)

pub loop-session-preserved : goal.loop-session-preserved
loop-session-preserved c =
    grown c.add_last_wait.new.script c.loop-session.script c.args.script.now (awaited c.args.script.now.lines (c.loop-session.session - 1))
    (last_wait c.loop-session.script.lines c.loop-session.session) (awaited c.args.script.now.lines (c.loop-session.session + 1 - 1))
    c.in_ok-add_last_wait.ensures c.loop-session.invariant
    (awaited_next c.loop-session.script c.args.script.now c.loop-session.session (omega arith) c.loop-session.invariant)

pub returns : goal.returns
returns c =
    let all : c.loop-session.session ≡ 19 = omega arith in
    c.loop-session.invariant ∙ ap (λ (n : ℕ). with_lines c.args.script.now (awaited c.args.script.now.lines (n - 1))) all
