use Rattle.std.proofs.Common.{◌≡◌, ◌-◌, map}
use Rattle.std.specs.List.{range_with_len}
use Rattle.ov_make.specs.Made.{first_wait}
use Rattle.ov_make.specs.Progress.{with_lines}
use Rattle.ov_make.proofs.waits.add_first_waits.Given as goal

abbrev pub invariant-loop-session : goal.invariant-loop-session
invariant-loop-session l = l.script ≡ with_lines l.initial.script (map first_wait (range_with_len 1 (l.session - 1)))
