use Rattle.std.proofs.Common.{◌≡◌, refl, eqb, true, false, arith}
use Rattle.std.proofs.lemmas.Bool.{ne_eqb, eq-eqb}
use Rattle.toml.specs.View.{table_view}
use Rattle.ov_topology.specs.Read.{count_members}
use Rattle.ov_topology.proofs.Tables.{count_members-view}
use Rattle.ov_topology.proofs.read.from_table.Goals as goal

pub returns-then-len-ne5 : goal.returns-then-len-ne5
returns-then-len-ne5 c =
    let other : eqb (count_members (table_view c.args.table.now)) 5 ≡ false = ne_eqb _ _ (λ e. omega (arith, count_members-view c.args.table.now.entries, c.len.ensures.len)) in
    rw (← c.in-Some.ensures, ← c.in-Some-named.ensures, ← c.in-Some-named-2.ensures, ← c.in-Some-named-3.ensures, ← c.in-Some-named-4.ensures, other) refl

pub returns : goal.returns
returns c =
    let five : eqb (count_members (table_view c.args.table.now)) 5 ≡ true = eq-eqb _ _ (omega (arith, count_members-view c.args.table.now.entries, c.len.ensures.len)) in
    rw (← c.in-Some.ensures, ← c.in-Some-named.ensures, ← c.in-Some-named-2.ensures, ← c.in-Some-named-3.ensures, ← c.in-Some-named-4.ensures, five) c.from_kinds.ensures
