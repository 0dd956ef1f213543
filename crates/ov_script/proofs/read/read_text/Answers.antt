use Rattle.ov_script.proofs.Scripts.{read_gives, read_fails}
use Rattle.ov_script.proofs.read.read_text.Goals as goal

pub returns-in-Ok : goal.returns-in-Ok
returns-in-Ok c = rw c.read.view_is (read_gives c.args.gateways c.args.bytes.now c.in-Ok.read (rw c.empty.ensures at c.in-Ok.ensures))

pub returns-in-Err-Line : goal.returns-in-Err-Line
returns-in-Err-Line c = rw c.fault_at.ensures (read_fails c.args.gateways c.args.bytes.now c.in-Err-Line.line c.in-Err-Line.fault (rw (c.empty.ensures, c.in-Err-Line.field-0-is) at c.in-Err-Line.ensures))
