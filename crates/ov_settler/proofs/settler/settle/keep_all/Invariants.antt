use Rattle.std.proofs.Common.{◌≡◌, ◌≤◌, drop}
use Rattle.ov_settler.specs.Calls.{with_values}
use Rattle.ov_settler.proofs.settler.settle.keep_all.Given as goal

abbrev pub invariant-loop-place : goal.invariant-loop-place
invariant-loop-place l = record {
  entries : l.lists.entries ≡ with_values (drop l.place l.values) l.initial.lists.entries;
  room : l.place ≤ l.lists.spare;
}
