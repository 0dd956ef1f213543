use Rattle.std.proofs.Common.{sym, subst}
use Rattle.ov_session.specs.Standing.{IsRoster}
use Rattle.ov_script.proofs.Bounds.{script_roster}
use Rattle.ov_script.proofs.script.Script.roster.Goals as goal

pub returns-clause-fits : goal.returns-clause-fits
returns-clause-fits c = subst IsRoster (sym c.self.invariant.says.rostered) (script_roster _ c.self.invariant.script)
