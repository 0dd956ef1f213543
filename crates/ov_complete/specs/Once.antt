-- When a run may be calmed to its end, and what is promised then: each command is replied exactly once.
use Rattle.std.specs.Prelude.{◌≡◌, ℕ, ◌≤◌, ◌<◌, ◌^◌, Some, List, length, slice_get}
use Rattle.ov_topology.specs.Shape.{gates}
use Rattle.ov_session.specs.Standing.{IsRoster}
use Rattle.ov_session.specs.declared.plan.SessionPlan.{SessionPlan}
use Rattle.ov_script.specs.declared.order.CommandAt.{CommandAt}
use Rattle.ov_history.specs.Past.{History, tally}
use Rattle.ov_history.specs.May.{Setting}
use Rattle.ov_follow.specs.Calm.{calm}
use Rattle.ov_follow.specs.Whole.{IsWhole}
use Rattle.ov_laws.specs.Draws.{moves_clock}
use Rattle.ov_laws.specs.Entries.{BeganAt, RepliedAt}
use Rattle.ov_laws.specs.Runs.{IsRun}
use Rattle.ov_complete.specs.Order.{IsOrder}

-- Command c of session s began in exactly one entry, and was replied in exactly one.
pub record OnceEach (h : History) (s c : ℕ) : Type 0 where
  pub began : ℕ
  pub begun : BeganAt h began s c
  pub begun_once : (k : ℕ) → BeganAt h k s c → k ≡ began
  pub answered : ℕ
  pub replied : RepliedAt h answered s c
  pub replied_once : (k : ℕ) → RepliedAt h k s c → k ≡ answered

-- A run may be calmed to its end: its sessions are a roster with a gateway in the topology for each, and their commands have an order; and after
-- calm rounds the world is whole, its clocks have not gone far, and its entries can be numbered.
pub record Calms (t : Setting) (order : List CommandAt) (h : History) : Type 0 where
  pub run : IsRun t h
  pub roster : IsRoster t.roster
  pub own : (s : ℕ) (plan : SessionPlan) → slice_get t.roster.sessions s ≡ Some plan → plan.gate < gates t.topology
  pub order_is : IsOrder t.roster order
  pub whole : IsWhole t.topology (calm t h)
  pub few : tally moves_clock (calm t h) ≤ 600000
  pub short : length (calm t h) < 2 ^ 64
