use Rattle.std.proofs.Common.{◌∙◌}
use Rattle.ov_script.proofs.Adding.{session_there, plan_read}
use Rattle.ov_script.proofs.script.Script.commands_of.Goals as goal

pub bounds-as_slice-at : goal.bounds-as_slice-at
bounds-as_slice-at c =
    let there = session_there c.self.inside.gateways c.self.inside.names.keys c.self.inside.roster c.self.inside.waiting.items c.self.inside.order.items c.self.inside.written.items
    c.self.invariant c.args.self.now c.args.at c.self.view_is c.requires in
    rw c.as_slice.ensures there.0

pub returns : goal.returns
returns c =
    let there = session_there c.self.inside.gateways c.self.inside.names.keys c.self.inside.roster c.self.inside.waiting.items c.self.inside.order.items c.self.inside.written.items
    c.self.invariant c.args.self.now c.args.at c.self.view_is c.requires in
    c.len.ensures ∙ plan_read c.self.inside.roster c.as_slice.result.now c.args.at _ c.index-as_slice-at.result there.0 c.as_slice.ensures there.2
