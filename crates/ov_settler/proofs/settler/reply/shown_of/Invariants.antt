use Rattle.std.proofs.Common.{◌≡◌, ◌++◌, drop}
use Rattle.ov_history.specs.Settlers.{shown}
use Rattle.ov_settler.proofs.settler.reply.shown_of.Given as goal

abbrev pub invariant-loop-key : goal.invariant-loop-key
invariant-loop-key g l = l.all ++ shown (g.L.Lookup.map l.values) (drop l.key-index l.keys) ≡ shown (g.L.Lookup.map l.values) l.keys
