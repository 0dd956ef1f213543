use Rattle.std.proofs.Common.{◌≡◌}
use Rattle.ov_chronicle.specs.Rules.{IsWaiting}
use Rattle.ov_chronicle.proofs.book.Chronicle.wait_turn.Given as goal

abbrev pub invariant-loop : goal.invariant-loop
invariant-loop g l = (l.seat.table_id ≡ l.fn.seat.table_id) × (l.seat.id ≡ l.fn.seat.id) × IsWaiting l.fn.seat.me.0 l.ticket l.seat.me
