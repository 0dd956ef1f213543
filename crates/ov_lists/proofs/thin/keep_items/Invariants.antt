use Rattle.std.proofs.Common.{◌≡◌, ◌-◌, ◌≤◌, length, take, drop, filter}
use Rattle.std.specs.Prelude.{vec_capacity}
use Rattle.ov_lists.specs.Entries.{is_kept}
use Rattle.ov_lists.proofs.thin.keep_items.Given as goal

-- in front are those that stay of what was passed, and what was not passed is as it was
abbrev pub invariant-loop-place : goal.invariant-loop-place
invariant-loop-place g l = record {
  order : l.kept ≤ l.place;
  within : l.place ≤ l.len;
  front : take l.kept l.items.items ≡ filter (is_kept l.below l.keep_last l.fn.items.items) (take l.place l.fn.items.items);
  back : drop l.place l.items.items ≡ drop l.place l.fn.items.items;
  len : length l.items.items ≡ length l.fn.items.items;
  all : l.len ≡ length l.fn.items.items;
  capacity : vec_capacity l.items ≡ vec_capacity l.fn.items;
}

abbrev pub decreases-loop-place : goal.decreases-loop-place
decreases-loop-place g l = l.len - l.place
