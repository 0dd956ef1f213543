use Rattle.std.proofs.Common.{◌≡◌}
use Rattle.ov_history.specs.Past.{History}
use Rattle.ov_history.specs.May.{Setting}
use Rattle.ov_step.specs.Deeds.{AllDone}
use Rattle.ov_step.specs.Replied.{IsReplied}
use Rattle.ov_step.proofs.replied.Replied.move_on.Given as goal

abbrev pub invariant-loop-seq : goal.invariant-loop-seq
invariant-loop-seq l = record {
  session : l.self.session ≡ l.fn.self.session;
  seq : l.self.seq ≡ l.seq;
  replied : (t : Setting) (h : History) → AllDone h l.deeds → IsReplied t h l.fn.self → IsReplied t h l.self;
}
