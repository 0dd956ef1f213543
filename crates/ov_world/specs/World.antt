-- What contracts see of a world.
use Rattle.std.specs.Prelude.{Option, List}
use Rattle.ov_topology.specs.Shape.{Shape}
use Rattle.ov_script.specs.Script.{Content}
use Rattle.ov_script.specs.Sessions.{roster_of}
use Rattle.ov_event.specs.declared.entry.Entry.{Entry}
use Rattle.ov_history.specs.Past.{History}
use Rattle.ov_history.specs.May.{Setting}
use Rattle.ov_history.specs.Cores.{onto}
use Rattle.ov_laws.specs.Runs.{IsRun}
use Rattle.ov_world.specs.Actors.{AllStand}
use Rattle.ov_world.specs.Delivered.{IsKept}
use Rattle.ov_world.specs.declared.actor_core.ActorCore.{ActorCore}
use Rattle.ov_world.specs.declared.delivered.Delivered.{Delivered}

-- A world: its topology, its script, and its history, the newest entry first.
pub record WorldState : Type 0 where
  pub topology : Shape
  pub script : Content
  pub history : History

-- what is fixed for a world of this topology and script
abbrev pub setting_by : Shape → Content → Setting
setting_by topology script = record { topology = topology; roster = roster_of script.lines }

-- what is fixed for a world
abbrev pub setting_of : WorldState → Setting
setting_of w = setting_by w.topology w.script

-- the world with the entry that was given, where one was
abbrev pub grown : Option Entry → WorldState → WorldState
grown answer w = record w { history = onto answer w.history }

-- The history is lawful over a topology in form, and each core stands for it.
pub record IsWorld (t : Setting) (h : History) (cores : List ActorCore) : Type 0 where
  pub run : IsRun t h
  pub stand : AllStand t h cores

-- The world is one, and the letter that it keeps is one of its history.
pub record Keeps (t : Setting) (h : History) (cores : List ActorCore) (last : Option Delivered) : Type 0 where
  pub world : IsWorld t h cores
  pub letter : IsKept t.topology h last
