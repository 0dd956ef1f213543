use Rattle.std.proofs.Common.{◌≡◌, ◌++◌, ◌∷◌, [], ap, sym, subst, ◌∙◌, arith}
use Rattle.ov_script.specs.Script.{Content}
use Rattle.ov_script.specs.Sessions.{commands_in}
use Rattle.ov_script.specs.Written.{MayStand}
use Rattle.ov_make.specs.Made.{session_name, session_lines, puts_line}
use Rattle.ov_make.specs.Progress.{holding, IsOpen}
use Rattle.ov_make.proofs.Fitting.{puts_fit}
use Rattle.ov_make.proofs.Growing.{open_sessions, open_less}
use Rattle.ov_make.proofs.Whole.{open_funded, funded_once, funded_is}
use Rattle.ov_make.proofs.make.opening.Goals as goal

pub add_transaction-requires : goal.add_transaction-requires
add_transaction-requires c =
    rw c.in_ok-puts.ensures
    (subst (λ (script : Content). MayStand script puts_line) (sym c.in_ok-add_sessions.ensures) (puts_fit (holding session_lines) 4000 open_sessions (omega arith)))

pub add_first_waits-requires-clause-all : goal.add_first_waits-requires-clause-all
add_first_waits-requires-clause-all c =
    let is = funded_is c.add_transaction.new.script c.add_sessions.new.script c.in_ok-puts.field-0 c.in_ok-add_transaction.ensures c.in_ok-add_sessions.ensures c.in_ok-puts.ensures in
    subst (λ (script : Content). IsOpen script 0) (sym is) (open_less (holding (session_lines ++ puts_line ∷ [])) 3999 0 open_funded (omega arith))

pub add_first_waits-requires-clause-some : goal.add_first_waits-requires-clause-some
add_first_waits-requires-clause-some c =
    let is = funded_is c.add_transaction.new.script c.add_sessions.new.script c.in_ok-puts.field-0 c.in_ok-add_transaction.ensures c.in_ok-add_sessions.ensures c.in_ok-puts.ensures in
    let once : commands_in (session_name 0) c.add_transaction.new.script.lines ≡ 1 = ap (λ (script : Content). commands_in (session_name 0) script.lines) is ∙ funded_once in
    omega (arith, once)
