use Rattle.std.proofs.Common.{◌∙◌}
use Rattle.ov_script.proofs.Found.{found_place}
use Rattle.ov_script.proofs.growth.find.Goals as goal

pub returns : goal.returns
returns c = c.get_index_of.ensures.index ∙ found_place c.args.name.now c.args.names.now.keys
