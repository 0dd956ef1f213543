use Rattle.ov_laws.proofs.Sound.{sound_answer}
use Rattle.ov_laws.proofs.laws.letters.sound_answers.Goals as goal

pub returns : goal.returns
returns c = sound_answer
