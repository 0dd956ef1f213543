use Rattle.ov_script.proofs.Adding.{session_inserted, roster_pushed, waiting_pushed, pushed}
use Rattle.ov_script.proofs.script.Script.insert_session.Goals as goal

pub invariant_of-self-2 : goal.invariant_of-self-2
invariant_of-self-2 c =
    (session_inserted c.self.inside.gateways c.self.inside.names.keys c.self.inside.roster c.self.inside.waiting.items c.self.inside.order.items c.self.inside.written.items
    c.self.invariant
    c.args.self.now c.args.name c.args.gate c.len-session.result c.push_name.new.names.keys (record { sessions = c.push.new.self }) c.push_within.new.items.items c.push_within-2.new.items.items
    c.self.view_is c.requires c.len-session.ensures (pushed _ _ _ _ c.push_name.ensures c.in_ok-session_room.ensures.names)
    (roster_pushed c.self.inside.roster c.push.new.self c.args.name c.args.gate c.empty-planned.result c.in_ok-push.ensures.ok c.empty-planned.ensures)
    (waiting_pushed c.push_within.new.items.items c.session_room.new.waiting.items c.self.inside.waiting.items c.empty-waits.result c.push_within.ensures c.in_ok-session_room.ensures.waiting c.empty-waits.ensures)
    (pushed _ _ _ _ c.push_within-2.ensures c.in_ok-session_room.ensures.written)).0

pub returns : goal.returns
returns c =
    (session_inserted c.self.inside.gateways c.self.inside.names.keys c.self.inside.roster c.self.inside.waiting.items c.self.inside.order.items c.self.inside.written.items
    c.self.invariant
    c.args.self.now c.args.name c.args.gate c.len-session.result c.push_name.new.names.keys (record { sessions = c.push.new.self }) c.push_within.new.items.items c.push_within-2.new.items.items
    c.self.view_is c.requires c.len-session.ensures (pushed _ _ _ _ c.push_name.ensures c.in_ok-session_room.ensures.names)
    (roster_pushed c.self.inside.roster c.push.new.self c.args.name c.args.gate c.empty-planned.result c.in_ok-push.ensures.ok c.empty-planned.ensures)
    (waiting_pushed c.push_within.new.items.items c.session_room.new.waiting.items c.self.inside.waiting.items c.empty-waits.result c.push_within.ensures c.in_ok-session_room.ensures.waiting c.empty-waits.ensures)
    (pushed _ _ _ _ c.push_within-2.ensures c.in_ok-session_room.ensures.written)).1
