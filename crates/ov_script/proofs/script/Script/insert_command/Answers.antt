use Rattle.ov_script.proofs.Adding.{session_ready, command_inserted, pushed}
use Rattle.ov_script.proofs.script.Script.insert_command.Goals as goal

pub push_command-requires : goal.push_command-requires
push_command-requires c = session_ready c.self.inside.gateways c.self.inside.names.keys c.self.inside.roster c.self.inside.waiting.items c.self.inside.order.items c.self.inside.written.items
    c.self.invariant c.args.self.now c.args.at c.self.view_is c.requires.session c.requires.short

pub invariant_of-self-2 : goal.invariant_of-self-2
invariant_of-self-2 c =
    (command_inserted c.self.inside.gateways c.self.inside.names.keys c.self.inside.roster c.self.inside.waiting.items c.self.inside.order.items c.self.inside.written.items
    c.self.invariant
    c.args.self.now c.args.at c.in_ok-seq.seq c.args.command c.push_command.new.roster c.push_command.new.waiting.items c.push_within.new.items.items c.push_within-2.new.items.items
    c.self.view_is c.requires.session c.requires.stands c.requires.short c.in_ok-seq.ensures.number c.in_ok-seq.ensures.roster c.in_ok-seq.ensures.waiting
    (pushed _ _ _ _ c.push_within.ensures c.in_ok-reserve.ensures.items) (pushed _ _ _ _ c.push_within-2.ensures c.in_ok-reserve-2.ensures.items)).0

pub returns : goal.returns
returns c =
    (command_inserted c.self.inside.gateways c.self.inside.names.keys c.self.inside.roster c.self.inside.waiting.items c.self.inside.order.items c.self.inside.written.items
    c.self.invariant
    c.args.self.now c.args.at c.in_ok-seq.seq c.args.command c.push_command.new.roster c.push_command.new.waiting.items c.push_within.new.items.items c.push_within-2.new.items.items
    c.self.view_is c.requires.session c.requires.stands c.requires.short c.in_ok-seq.ensures.number c.in_ok-seq.ensures.roster c.in_ok-seq.ensures.waiting
    (pushed _ _ _ _ c.push_within.ensures c.in_ok-reserve.ensures.items) (pushed _ _ _ _ c.push_within-2.ensures c.in_ok-reserve-2.ensures.items)).1
