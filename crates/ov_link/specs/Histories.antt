-- Links over the nodes of a history.
use Rattle.std.specs.Prelude.{◌≡◌, ℕ, ◌<◌, Option, Some, List}
use Rattle.ov_functor.specs.Windows.{Among}
use Rattle.ov_functor.specs.declared.item.Item.{Item}
use Rattle.ov_topology.specs.declared.actor.Actor.TheVariants.{Settler}
use Rattle.ov_event.specs.declared.entry.Entry.{Entry}
use Rattle.ov_event.specs.declared.kind.Kind.TheVariants.{Asked}
use Rattle.ov_history.specs.May.{Setting}
use Rattle.ov_history.specs.Nodes.{held}
use Rattle.ov_history.specs.Past.{History}
use Rattle.ov_window.specs.declared.round.Round.{Round}

-- the link's nodes hold what those of the history hold
abbrev pub AreNodesOf : Setting → History → (ℕ → ℕ → Option (List Item)) → Type 0
AreNodesOf t h told = (c p : ℕ) → c < t.topology.centres → p < t.topology.partitions → told c p ≡ Some (held c p h)

-- The round is one that its settler, which is in the topology, asked for in the history.
pub record IsAsked (t : Setting) (h : History) (round : Round) : Type 0 where
  pub settler_in : round.settler < t.topology.centres
  pub number : ℕ
  pub entry : Entry
  pub entry_is : entry ≡ record { actor = Settler round.settler; kind = Asked number round.mode round.from round.below }
  pub within : Among entry h
