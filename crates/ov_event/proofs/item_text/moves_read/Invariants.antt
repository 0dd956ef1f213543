use Rattle.std.proofs.Common.{◌≡◌, ◌*◌, drop}
use Rattle.ov_base.specs.Groups.{words_in}
use Rattle.ov_base.specs.Split.{with_front}
use Rattle.ov_event.specs.ItemWords.{moves_of}
use Rattle.ov_event.proofs.item_text.moves_read.Given as goal

abbrev pub invariant-loop-index : goal.invariant-loop-index
invariant-loop-index l = with_front l.moves.items (moves_of (words_in (drop (4 * l.index) l.words))) ≡ moves_of (words_in l.words)
