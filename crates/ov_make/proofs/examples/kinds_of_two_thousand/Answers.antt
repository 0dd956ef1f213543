use Rattle.std.proofs.Common.{refl}
use Rattle.std.specs.Fmt.{digits}
use Rattle.ov_make.specs.Made.{session_name, key_name, session_lines, puts, first_waits, middle_line, gets}
use Rattle.ov_make.proofs.examples.kinds_of_two_thousand.Goals as goal

pub returns : goal.returns
unfolding session_name key_name session_lines puts first_waits middle_line gets digits
returns c = record { aborts = refl; snapshots = refl }
