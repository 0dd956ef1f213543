use Rattle.std.proofs.Common.{◌≡◌, take, length}
use Rattle.ov_history.specs.Counts.{passing}
use Rattle.ov_gate.specs.Tracked.{is_acked}
use Rattle.ov_gate.proofs.tracked.Tracked.votes.Given as goal

abbrev pub invariant-loop-centre : goal.invariant-loop-centre
invariant-loop-centre l = record {
  marks : take l.centre l.marks ≡ passing (is_acked l.self.acked l.part) l.centre;
  room : length l.marks ≡ 5;
}
