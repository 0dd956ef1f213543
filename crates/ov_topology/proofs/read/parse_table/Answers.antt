use Rattle.std.proofs.Common.{refl}
use Rattle.ov_topology.proofs.Tables.{no_document, the_document}
use Rattle.ov_topology.proofs.read.parse_table.Goals as goal

pub returns-in-Err : goal.returns-in-Err
returns-in-Err c = rw (no_document c.args.bytes.now (λ u. absurd (c.in-Err.ensures.cases.0 u))) refl

pub returns-in-Ok-table_from_str : goal.returns-in-Ok-table_from_str
returns-in-Ok-table_from_str c =
    rw (the_document c.args.bytes.now c.in-Ok.ensures.cases.1, rw c.in-Ok.ensures.cases.0 at c.in-Ok-table_from_str.ensures.ok) refl
