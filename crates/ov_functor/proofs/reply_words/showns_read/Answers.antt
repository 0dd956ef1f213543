use Rattle.std.proofs.Common.{◌≡◌, ◌++◌, ◌∷◌, [], get_or, drop, ◌+◌, Some, sym, ap, ◌∙◌, rules, arith}
use Rattle.ov_base.specs.Split.{all_of, with_front}
use Rattle.ov_base.specs.Groups.{words_in}
use Rattle.ov_base.proofs.Traverse.{blank, all_of_words_next}
use Rattle.ov_functor.specs.ReplyWords.{shown_of}
use Rattle.ov_functor.proofs.reply_words.showns_read.Goals as goal

pub loop-word-preserved : goal.loop-word-preserved
loop-word-preserved c =
    let read : shown_of ((get_or c.args.words.now c.loop-word.word-index blank).now) ≡ Some c.in-Some.field-0 = sym c.shown_read.ensures ∙ c.in-Some.is in
    let pushed : c.push.new.self ≡ c.loop-word.list ++ c.in-Some.field-0 ∷ [] = search rules in
    ap (λ list. with_front list (all_of shown_of (words_in (drop (c.loop-word.word-index + 1) c.args.words.now)))) pushed
    ∙ sym (all_of_words_next shown_of c.args.words.now c.loop-word.word-index blank c.in-Some.field-0 c.loop-word.list (omega arith) read)
    ∙ c.loop-word.invariant
