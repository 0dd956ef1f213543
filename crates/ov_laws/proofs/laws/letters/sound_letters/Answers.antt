use Rattle.ov_laws.proofs.Sound.{sound}
use Rattle.ov_laws.proofs.laws.letters.sound_letters.Goals as goal

pub returns : goal.returns
returns c = sound
