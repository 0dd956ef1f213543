use Rattle.std.proofs.Common.{◌≡◌}
use Rattle.ov_history.specs.Past.{History}
use Rattle.ov_history.specs.May.{Setting}
use Rattle.ov_step.specs.Deeds.{AllDone}
use Rattle.ov_step.specs.Replied.{IsReplied}
use Rattle.ov_step.proofs.replied.Replied.are_all.Given as goal

abbrev pub invariant-loop-session : goal.invariant-loop-session
invariant-loop-session l = record {
  session : l.self.session ≡ l.session;
  replied : (t : Setting) (h : History) → t.roster ≡ l.roster → AllDone h l.deeds → IsReplied t h l.fn.self → IsReplied t h l.self;
}
