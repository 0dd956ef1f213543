-- The lines by which gateways are told that a command is replied.
use Rattle.std.specs.Prelude.{ℕ, ◌==◌, not, ◌&&◌, List, [], if◌then◌else◌}
use Rattle.ov_topology.specs.declared.actor.Actor.TheVariants.{Gate}
use Rattle.ov_history.specs.Past.{History}
use Rattle.ov_follow.specs.Lines.{Line}
use Rattle.ov_follow.specs.Passes.{told, running, take}
use Rattle.ov_step.specs.declared.tell.RepliedEntry.{RepliedEntry}

-- a gateway is told of the entry, where that is another gateway's and it was not told of that command
abbrev pub told_line : History → RepliedEntry → ℕ → List Line
told_line h e k = if not (k == e.gate) && not (told k e.session e.seq h) then running h (take (Gate k) e.number 1) else []
