use Rattle.std.proofs.Common.{◌≡◌, drop}
use Rattle.ov_base.specs.Split.{all_of, with_front}
use Rattle.ov_base.specs.Key.{key_of}
use Rattle.ov_script.proofs.line.keys_from.Given as goal

abbrev pub invariant-loop-word : goal.invariant-loop-word
invariant-loop-word l = with_front l.keys (all_of (λ w. key_of w.now) (drop l.word-index l.words)) ≡ all_of (λ w. key_of w.now) l.words
