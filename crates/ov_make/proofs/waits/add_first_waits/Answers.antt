use Rattle.std.proofs.Common.{◌≡◌, ℕ, ◌+◌, ◌-◌, ◌∷◌, [], map, ap, sym, subst, ◌∙◌, arith}
use Rattle.std.specs.List.{range_with_len}
use Rattle.ov_script.specs.Script.{Content}
use Rattle.ov_script.specs.Written.{MayStand}
use Rattle.ov_make.specs.Made.{first_wait, first_waits}
use Rattle.ov_make.specs.Progress.{with_lines}
use Rattle.ov_make.proofs.Growing.{first_wait_at, map_next, grown}
use Rattle.ov_make.proofs.waits.add_first_waits.Goals as goal

pub add_line-requires : goal.add_line-requires
add_line-requires c =
    rw c.wait.ensures
    (subst (λ (script : Content). MayStand script (first_wait c.loop-session.session)) (sym c.loop-session.invariant)
    (first_wait_at c.args.script.now 0 (c.loop-session.session - 1) c.loop-session.session c.requires.all c.requires.some c.loop-session-test.true))

pub loop-session-preserved : goal.loop-session-preserved
loop-session-preserved c =
    grown c.add_line.new.script c.loop-session.script c.args.script.now (map first_wait (range_with_len 1 (c.loop-session.session - 1))) (c.wait.result ∷ [])
    (map first_wait (range_with_len 1 (c.loop-session.session + 1 - 1))) c.in_ok-add_line.ensures c.loop-session.invariant
    (rw c.wait.ensures (map_next first_wait c.loop-session.session (omega arith)))

pub returns : goal.returns
unfolding first_waits
returns c =
    let all : c.loop-session.session ≡ 19 = omega arith in
    c.loop-session.invariant ∙ ap (λ (n : ℕ). with_lines c.args.script.now (map first_wait (range_with_len 1 (n - 1)))) all
