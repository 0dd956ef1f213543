use Rattle.ov_cells.specs.Seats.{IsSeatOf}
use Rattle.ov_bench.specs.Workers.{AreWorkers}
use Rattle.ov_bench.proofs.cells.workers_of.Given as goal

abbrev pub invariant-loop-number : goal.invariant-loop-number
invariant-loop-number l = IsSeatOf l.cells l.first × AreWorkers l.cells l.workers.items
