use Rattle.ov_make.proofs.Whole.{made_shape, made_gateways, made_is_script, made_count}
use Rattle.ov_make.proofs.laws.made_scripts_are_scripts.Goals as goal

pub returns : goal.returns
returns c = record { topology = made_shape; gateways = made_gateways; script = made_is_script; count = made_count }
