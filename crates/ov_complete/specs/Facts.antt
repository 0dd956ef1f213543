-- What is true after which passes of a calm round, in a whole world.
use Rattle.std.specs.Prelude.{◌≡◌, ℕ, ◌≤◌, ◌<◌, ◌^◌, true, Some, slice_get}
use Rattle.ov_topology.specs.Shape.{Shape, gates}
use Rattle.ov_topology.specs.declared.actor.Actor.TheVariants.{Settler}
use Rattle.ov_event.specs.Letters.{touches}
use Rattle.ov_session.specs.Standing.{IsRoster}
use Rattle.ov_session.specs.declared.plan.SessionPlan.{SessionPlan}
use Rattle.ov_history.specs.Past.{History, tally}
use Rattle.ov_history.specs.Draws.{Drawn}
use Rattle.ov_history.specs.Marks.{visible}
use Rattle.ov_history.specs.May.{Setting}
use Rattle.ov_history.specs.Placement.{ackers}
use Rattle.ov_history.specs.Settlers.{settled}
use Rattle.ov_follow.specs.Whole.{IsWhole}
use Rattle.ov_laws.specs.Draws.{Drew, moves_clock}
use Rattle.ov_laws.specs.Entries.{BeganAt}
use Rattle.ov_laws.specs.Runs.{IsRun}

-- A run over a whole world, whose clocks have not gone far, with a gateway in the topology for each session.
pub record Runs (t : Setting) (h : History) : Type 0 where
  pub run : IsRun t h
  pub roster : IsRoster t.roster
  pub own : (s : ℕ) (plan : SessionPlan) → slice_get t.roster.sessions s ≡ Some plan → plan.gate < gates t.topology
  pub whole : IsWhole t.topology h
  pub early : tally moves_clock h < 2 ^ 45

-- command c of session s has begun
pub record HasBegun (h : History) (s c : ℕ) : Type 0 where
  pub number : ℕ
  pub begun : BeganAt h number s c

-- each begun transaction is acknowledged to its gateway by a write quorum of each partition that it touches
abbrev pub Acknowledged : Shape → History → Type 0
Acknowledged t h = (g : ℕ) (drawn : Drawn) (p : ℕ) → g < gates t → Drew g drawn h → p < t.partitions → touches t drawn.transaction p ≡ true → t.write ≤ ackers t g drawn.version p h

-- the visibility watermark of each settler is above each begun version
abbrev pub AllVisible : Shape → History → Type 0
AllVisible t h = (s g : ℕ) (drawn : Drawn) → s < t.centres → g < gates t → Drew g drawn h → drawn.version < visible t (Settler s) h

-- each settler has settled up to its visibility watermark
abbrev pub AllSettled : Shape → History → Type 0
AllSettled t h = (s : ℕ) → s < t.centres → visible t (Settler s) h ≤ settled s h
