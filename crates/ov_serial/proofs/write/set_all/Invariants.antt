use Rattle.std.proofs.Common.{◌≡◌, drop}
use Rattle.ov_serial.specs.Results.{value_in, set_back}
use Rattle.ov_serial.proofs.write.set_all.Given as goal

abbrev pub invariant-loop-place : goal.invariant-loop-place
invariant-loop-place l = value_in l.values ≡ set_back (value_in l.initial.values) (drop l.place l.writes)
