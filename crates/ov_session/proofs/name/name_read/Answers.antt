use Rattle.std.proofs.Common.{sym, ◌∙◌}
use Rattle.ov_session.proofs.Names.{name_as_key}
use Rattle.ov_session.proofs.name.name_read.Goals as goal

pub returns-in_err-from_bytes : goal.returns-in_err-from_bytes
returns-in_err-from_bytes c =
    let here = name_as_key c.args.bytes.now (sym c.spells_name.ensures ∙ c.if-spells_name.true) in
    let none = c.in_err-from_bytes.was in
    let read = c.from_bytes.ensures.exact in
    absurd cc
