use Rattle.std.proofs.Common.{refl}
use Rattle.std.specs.Fmt.{digits}
use Rattle.ov_make.specs.Made.{session_name, key_name, middle_line}
use Rattle.ov_make.proofs.examples.first_command_of_seven.Goals as goal

pub returns : goal.returns
unfolding session_name key_name middle_line digits
returns c = record { number = refl; command = refl }
