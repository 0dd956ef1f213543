use Rattle.std.proofs.Common.{◌≡◌, ◌++◌, map}
use Rattle.ov_follow.specs.Passes.{each}
use Rattle.ov_world.specs.Acts.{line_in}
use Rattle.ov_step.proofs.Listing.{gate_hears}
use Rattle.ov_step.proofs.hear.list_by_gates.Given as goal

abbrev pub invariant-loop-hearer : goal.invariant-loop-hearer
invariant-loop-hearer l = map line_in l.lines.items ≡ map line_in l.fn.lines.items ++ each (gate_hears l.fn.world.history l.fn.gate l.fn.number) l.hearer
