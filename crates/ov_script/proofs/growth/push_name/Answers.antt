use Rattle.ov_script.proofs.Found.{inserted}
use Rattle.ov_script.proofs.growth.push_name.Goals as goal

pub returns : goal.returns
returns c = inserted c.args.name c.args.names.now.keys c.insert.new.self.keys c.insert.result c.requires.1 (c.insert.ensures.succeeds c.requires.0) c.insert.ensures.keys
