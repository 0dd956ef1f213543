use Rattle.std.proofs.Common.{◌≡◌, ◌++◌, drop}
use Rattle.ov_serial.specs.Results.{value_in, writes_of}
use Rattle.ov_serial.proofs.write.writes_of.Given as goal

abbrev pub invariant-loop-part : goal.invariant-loop-part
invariant-loop-part l = l.writes ++ writes_of (value_in l.values) (drop l.part-index l.parts) ≡ writes_of (value_in l.values) l.parts
