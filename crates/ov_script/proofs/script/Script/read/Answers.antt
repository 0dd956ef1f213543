use Rattle.ov_script.proofs.Scripts.{spelled_by}
use Rattle.ov_script.proofs.script.Script.read.Goals as goal

pub returns-clause-spelled : goal.returns-clause-spelled
returns-clause-spelled c = spelled_by c.args.gateways c.args.bytes.now c.read_text.result c.read_text.ensures
