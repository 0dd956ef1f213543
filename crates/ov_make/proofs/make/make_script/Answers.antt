use Rattle.std.proofs.Common.{◌-◌, ◌++◌, ◌∷◌, [], sym, subst, arith}
use Rattle.ov_script.specs.Script.{Content}
use Rattle.ov_script.specs.Written.{MayStand}
use Rattle.ov_make.specs.Made.{session_lines, puts_line, first_waits, gets_line, last_waits, lines_ahead}
use Rattle.ov_make.specs.Progress.{holding, IsOpen}
use Rattle.ov_make.proofs.Fitting.{gets_fit}
use Rattle.ov_make.proofs.Growing.{open_less}
use Rattle.ov_make.proofs.Whole.{open_opening, open_ahead, open_behind_waits, ahead_is, waited_is, made_is}
use Rattle.ov_make.proofs.make.make_script.Goals as goal

pub add_middle-requires : goal.add_middle-requires
add_middle-requires c =
    subst (λ (script : Content). IsOpen script (c.args.commands - 2)) (sym c.in_ok-script.ensures)
    (open_less (holding (session_lines ++ puts_line ∷ [] ++ first_waits)) 3999 (c.args.commands - 2) open_opening (omega arith))

pub add_last_waits-requires : goal.add_last_waits-requires
add_last_waits-requires c =
    let is = ahead_is c.add_middle.new.script c.in_ok-script.script c.args.number c.args.commands c.in_ok-add_middle.ensures c.in_ok-script.ensures in
    subst (λ (script : Content). IsOpen script 0) (sym is)
    (open_less (holding (lines_ahead c.args.number c.args.commands)) 1 0 (open_ahead c.args.number c.args.commands c.requires.0 c.requires.1) (omega arith))

pub add_transaction-requires : goal.add_transaction-requires
add_transaction-requires c =
    let ahead = ahead_is c.add_middle.new.script c.in_ok-script.script c.args.number c.args.commands c.in_ok-add_middle.ensures c.in_ok-script.ensures in
    let is = waited_is c.add_last_waits.new.script c.add_middle.new.script c.args.number c.args.commands c.in_ok-add_last_waits.ensures ahead in
    rw c.in_ok-gets.ensures
    (subst (λ (script : Content). MayStand script gets_line) (sym is)
    (gets_fit (holding (lines_ahead c.args.number c.args.commands ++ last_waits (lines_ahead c.args.number c.args.commands))) 1
    (open_behind_waits c.args.number c.args.commands c.requires.0 c.requires.1) (omega arith)))

pub returns-clause-script : goal.returns-clause-script
returns-clause-script c =
    let ahead = ahead_is c.add_middle.new.script c.in_ok-script.script c.args.number c.args.commands c.in_ok-add_middle.ensures c.in_ok-script.ensures in
    let waited = waited_is c.add_last_waits.new.script c.add_middle.new.script c.args.number c.args.commands c.in_ok-add_last_waits.ensures ahead in
    made_is c.add_transaction.new.script c.add_last_waits.new.script c.in_ok-gets.field-0 c.args.number c.args.commands c.in_ok-add_transaction.ensures waited c.in_ok-gets.ensures
