use Rattle.ov_complete.proofs.Scripts.{script_order, script_commands, script_own}
use Rattle.ov_script.proofs.Bounds.{script_roster}
use Rattle.ov_complete.proofs.laws.scripts_in_order.Goals as goal

pub returns-clause-order : goal.returns-clause-order
returns-clause-order c = script_order

pub returns-clause-commands : goal.returns-clause-commands
returns-clause-commands c = script_commands

pub returns-clause-roster : goal.returns-clause-roster
returns-clause-roster c = script_roster

pub returns-clause-own : goal.returns-clause-own
returns-clause-own c = script_own
