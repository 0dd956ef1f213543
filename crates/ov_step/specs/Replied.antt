-- How far the commands of the sessions are replied.
use Rattle.std.specs.Prelude.{◌≡◌, ℕ, ◌+◌, ◌<◌, true, Some, length, slice_get}
use Rattle.ov_session.specs.declared.plan.SessionPlan.{SessionPlan}
use Rattle.ov_history.specs.Past.{History}
use Rattle.ov_history.specs.May.{Setting}
use Rattle.ov_follow.specs.Passes.{is_replied}
use Rattle.ov_step.specs.declared.replied.Replied.{Replied}

-- All commands of the sessions below a number are replied, and of that session so many first ones.
pub record IsReplied (t : Setting) (h : History) (r : Replied) : Type 0 where
  pub below : (s c : ℕ) (plan : SessionPlan) → slice_get t.roster.sessions s ≡ Some plan → s < r.session → c < length plan.planned → is_replied s (c + 1) h ≡ true
  pub here : (c : ℕ) → c < r.seq → is_replied r.session (c + 1) h ≡ true
