use Rattle.std.proofs.Common.{◌≡◌, ◌++◌, ◌∷◌, [], ◌+◌, ◌*◌, drop, sym, ap, ◌∙◌, rules, arith}
use Rattle.ov_base.specs.Groups.{words_in}
use Rattle.ov_base.specs.Split.{with_front}
use Rattle.ov_base.proofs.Traverse.{blank}
use Rattle.ov_event.specs.ItemWords.{moves_of}
use Rattle.ov_event.proofs.ItemLoops.{moves_next, moves_stop, moves_end, moves_odd}
use Rattle.ov_event.proofs.item_text.moves_read.Goals as goal

pub returns-then-words-ne0 : goal.returns-then-words-ne0
returns-then-words-ne0 c = moves_odd c.args.words.now (λ e. omega (arith, e))

pub returns-in-None : goal.returns-in-None
returns-in-None c =
    sym (moves_stop c.args.words.now (4 * c.loop-index.index) blank c.loop-index.moves.items (omega arith) (sym c.move_read.ensures ∙ c.in-None.is)) ∙ c.loop-index.invariant

pub loop-index-preserved : goal.loop-index-preserved
loop-index-preserved c =
    let pushed : c.push.new.self.items ≡ c.loop-index.moves.items ++ c.in-Some.one ∷ [] = search rules in
    ap (λ front. with_front front (moves_of (words_in (drop (4 * (c.loop-index.index + 1)) c.args.words.now)))) pushed
    ∙ sym (moves_next c.args.words.now (4 * c.loop-index.index) (4 * (c.loop-index.index + 1)) blank c.in-Some.one c.loop-index.moves.items (omega arith) (omega arith) (sym c.move_read.ensures ∙ c.in-Some.is))
    ∙ c.loop-index.invariant

pub returns : goal.returns
returns c = sym (moves_end c.args.words.now (4 * c.loop-index.index) c.loop-index.moves.items (omega arith)) ∙ c.loop-index.invariant
