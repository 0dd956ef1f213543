use Rattle.std.proofs.Common.{◌&&◌, nat_eq, sym, ◌∙◌}
use Rattle.ov_base.proofs.Words.{words_same}
use Rattle.ov_base.proofs.key.same_cells.Goals as goal

pub returns : goal.returns
returns c =
    (λ i. ((nat_eq (c.word_at.ensures i) (c.word_at-2.ensures i) && nat_eq (c.word_at-3.ensures i) (c.word_at-4.ensures i)) && nat_eq (c.word_at-5.ensures i) (c.word_at-6.ensures i)) && nat_eq (c.word_at-7.ensures i) (c.word_at-8.ensures i))
    ∙ sym (words_same c.args.cells.now c.args.others.now c.fits-cells c.fits-others c.told-cells c.told-others)
