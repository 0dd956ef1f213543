use Rattle.ov_script.proofs.Adding.{session_there, after_inserted, pushed}
use Rattle.ov_script.proofs.script.Script.insert_after.Goals as goal

pub push_after-requires : goal.push_after-requires
push_after-requires c = (session_there c.self.inside.gateways c.self.inside.names.keys c.self.inside.roster c.self.inside.waiting.items c.self.inside.order.items c.self.inside.written.items
    c.self.invariant c.args.self.now c.args.at c.self.view_is c.requires.session).1

pub invariant_of-self-2 : goal.invariant_of-self-2
invariant_of-self-2 c =
    (after_inserted c.self.inside.gateways c.self.inside.names.keys c.self.inside.roster c.self.inside.waiting.items c.self.inside.order.items c.self.inside.written.items
    c.self.invariant
    c.args.self.now c.args.at c.args.other c.args.seq c.push_after.new.waiting.items c.push_within.new.items.items c.self.view_is c.requires.session c.requires.other c.requires.stands
    c.in_ok-push_after.ensures.ok (pushed _ _ _ _ c.push_within.ensures c.in_ok-reserve.ensures.items)).0

pub returns : goal.returns
returns c =
    (after_inserted c.self.inside.gateways c.self.inside.names.keys c.self.inside.roster c.self.inside.waiting.items c.self.inside.order.items c.self.inside.written.items
    c.self.invariant
    c.args.self.now c.args.at c.args.other c.args.seq c.push_after.new.waiting.items c.push_within.new.items.items c.self.view_is c.requires.session c.requires.other c.requires.stands
    c.in_ok-push_after.ensures.ok (pushed _ _ _ _ c.push_within.ensures c.in_ok-reserve.ensures.items)).1
