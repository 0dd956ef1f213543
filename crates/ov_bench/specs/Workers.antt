-- What holds of the threads that force the places of cells.
use Rattle.std.specs.Prelude.{ℕ, ◌≡◌, ◌≤◌, List, length, Some, slice_get}
use Rattle.ov_cells.specs.Seats.{SeenCells, IsSeatOf}
use Rattle.ov_bench.specs.declared.cells.Worker.{Worker}

-- its seat is of these cells, and its scratch has room for their plan
unfoldable pub IsWorker : SeenCells → Worker → Type 0
IsWorker cells worker = IsSeatOf cells worker.seat × (length cells.tasks ≤ worker.scratch)

-- each of these is a worker on these cells
abbrev pub AreWorkers : SeenCells → List Worker → Type 0
AreWorkers cells workers = (k : ℕ) (worker : Worker) → slice_get workers k ≡ Some worker → IsWorker cells worker
