use Rattle.std.proofs.Common.{◌≡◌, ◌+◌, ◌≤◌, Some, vec_len}
use Rattle.std.specs.Vec.{vec_capacity}
use Rattle.ov_chronicle.specs.Rules.{IsFounder}
use Rattle.ov_chronicle.specs.Seats.{AreSeats}
use Rattle.ov_chronicle.proofs.book.Chronicle.make_others.Given as goal

abbrev pub invariant-loop : goal.invariant-loop
invariant-loop g l =
    (l.first.table_id ≡ l.fn.first.table_id) × IsFounder l.counter (Some l.setting) l.self.limit l.fn.actors l.first.me × (vec_len l.others + 1 ≡ l.counter) × AreSeats 1 l.self (Some l.setting) l.others.items
    × (l.fn.actors ≤ vec_capacity l.others)
