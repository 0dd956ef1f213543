use Rattle.std.proofs.Common.{◌≡◌, drop}
use Rattle.ov_base.specs.Groups.{words_in}
use Rattle.ov_base.specs.Key.{key_of}
use Rattle.ov_base.specs.Split.{all_of, with_front}
use Rattle.ov_journal.proofs.list.keys_from.Given as goal

abbrev pub invariant-loop-word : goal.invariant-loop-word
invariant-loop-word l = with_front l.keys (all_of key_of (words_in (drop l.word-index l.words))) ≡ all_of key_of (words_in l.words)
