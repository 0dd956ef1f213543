use Rattle.ov_base.proofs.Words.{words_order, decided, passed}
use Rattle.ov_base.proofs.key.cells_order.Goals as goal

pub returns-then-first-other : goal.returns-then-first-other
returns-then-first-other c =
    rw (words_order c.args.cells.now c.args.others.now c.fits-cells c.fits-others c.told-cells c.told-others, ← c.word_at-first.ensures, ← c.word_at-other.ensures)
    (decided c.word_at-first.result c.word_at-other.result _ _ c.cmp.ensures c.if-first-other.true)

pub returns-then-second-other : goal.returns-then-second-other
returns-then-second-other c =
    rw (
      words_order c.args.cells.now c.args.others.now c.fits-cells c.fits-others c.told-cells c.told-others,
      ← c.word_at-first.ensures,
      ← c.word_at-other.ensures,
      passed c.word_at-first.result c.word_at-other.result _ c.if-first-other.false,
      ← c.word_at-second.ensures,
      ← c.word_at-other-2.ensures,
    )
    (decided c.word_at-second.result c.word_at-other-2.result _ _ c.cmp-then-second-other.ensures c.if-second-other.true)

pub returns-then-third-other : goal.returns-then-third-other
returns-then-third-other c =
    rw (
      words_order c.args.cells.now c.args.others.now c.fits-cells c.fits-others c.told-cells c.told-others,
      ← c.word_at-first.ensures,
      ← c.word_at-other.ensures,
      passed c.word_at-first.result c.word_at-other.result _ c.if-first-other.false,
      ← c.word_at-second.ensures,
      ← c.word_at-other-2.ensures,
      passed c.word_at-second.result c.word_at-other-2.result _ c.if-second-other.false,
      ← c.word_at-third.ensures,
      ← c.word_at-other-3.ensures,
    )
    (decided c.word_at-third.result c.word_at-other-3.result _ _ c.cmp-then-third-other.ensures c.if-third-other.true)

pub returns : goal.returns
returns c =
    rw (
      words_order c.args.cells.now c.args.others.now c.fits-cells c.fits-others c.told-cells c.told-others,
      ← c.word_at-first.ensures,
      ← c.word_at-other.ensures,
      passed c.word_at-first.result c.word_at-other.result _ c.if-first-other.false,
      ← c.word_at-second.ensures,
      ← c.word_at-other-2.ensures,
      passed c.word_at-second.result c.word_at-other-2.result _ c.if-second-other.false,
      ← c.word_at-third.ensures,
      ← c.word_at-other-3.ensures,
      passed c.word_at-third.result c.word_at-other-3.result _ c.if-third-other.false,
      ← c.word_at.ensures,
      ← c.word_at-2.ensures,
    )
    c.cmp-2.ensures
