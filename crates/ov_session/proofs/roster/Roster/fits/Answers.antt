use Rattle.std.proofs.Common.{ap, ◌∙◌, arith}
use Rattle.std.specs.List.{list_all}
use Rattle.ov_session.specs.Standing.{is_short}
use Rattle.ov_session.proofs.Standings.{roster_by_test}
use Rattle.ov_session.proofs.roster.Roster.fits.Goals as goal

pub returns-then-len-le-MOST_SESSIONS : goal.returns-then-len-le-MOST_SESSIONS
returns-then-len-le-MOST_SESSIONS c =
    roster_by_test c.args.self.now c.are_short.result (omega arith) (c.are_short.ensures ∙ ap (list_all is_short) c.as_slice.ensures)
