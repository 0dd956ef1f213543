use Rattle.std.proofs.Common.{◌≡◌, ℕ, ◌+◌, ◌%◌, ◌∷◌, [], ap, sym, subst, ◌∙◌, zero-add, arith}
use Rattle.std.proofs.lemmas.List.FromFn.{map-range_with_len_more}
use Rattle.ov_script.specs.Script.{Content}
use Rattle.ov_script.specs.Written.{MayStand}
use Rattle.ov_script.specs.declared.line.ScriptLine.TheVariants.{Session}
use Rattle.ov_make.specs.Made.{session_line, session_lines}
use Rattle.ov_make.specs.Progress.{holding}
use Rattle.ov_make.proofs.Fitting.{declared, session_fits}
use Rattle.ov_make.proofs.Growing.{grown}
use Rattle.ov_make.proofs.waits.add_sessions.Goals as goal

pub add_line-requires : goal.add_line-requires
add_line-requires c =
    rw c.session_name.ensures
    (subst (λ (script : Content). MayStand script (session_line c.loop-session.session)) (sym c.loop-session.invariant) (session_fits c.loop-session.session c.loop-session-test.true))

pub loop-session-preserved : goal.loop-session-preserved
loop-session-preserved c =
    let more = map-range_with_len_more session_line 0 c.loop-session.session c.loop-session.session (zero-add c.loop-session.session) in
    grown c.add_line.new.script c.loop-session.script (holding []) (declared c.loop-session.session) (Session c.session_name.result (c.loop-session.session % 3) ∷ [])
    (declared (c.loop-session.session + 1)) c.in_ok-add_line.ensures c.loop-session.invariant (rw c.session_name.ensures more)

pub returns : goal.returns
unfolding session_lines
returns c =
    let all : c.loop-session.session ≡ 19 = omega arith in
    c.loop-session.invariant ∙ ap (λ (n : ℕ). holding (declared n)) all
