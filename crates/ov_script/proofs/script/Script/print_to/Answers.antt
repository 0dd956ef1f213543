use Rattle.ov_script.proofs.Scripts.{script_again}
use Rattle.ov_script.proofs.Shown.{kept_shown, text_shown}
use Rattle.ov_script.proofs.script.Script.print_to.Goals as goal

pub print_lines-requires : goal.print_lines-requires
print_lines-requires c =
    rw c.as_slice.ensures.value (kept_shown c.self.inside.gateways c.self.inside.names.keys c.self.inside.roster c.self.inside.waiting.items c.self.inside.order.items c.self.inside.written.items c.self.invariant)

pub returns-clause-text : goal.returns-clause-text
returns-clause-text c =
    text_shown c.self.inside.gateways c.self.inside.roster c.self.inside.written.items c.as_slice.result.now c.args.self.now c.print_lines.result c.args.text.now.items c.print_lines.new.text.items
    c.self.view_is c.as_slice.ensures.value c.print_lines.ensures

pub returns-clause-again : goal.returns-clause-again
returns-clause-again c = rw (← c.self.view_is) (script_again c.self.inside.gateways _ c.self.invariant.script)
