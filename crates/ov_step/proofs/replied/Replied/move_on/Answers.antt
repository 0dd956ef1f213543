use Rattle.std.proofs.Common.{ℕ, refl, sym, subst}
use Rattle.ov_step.specs.Replied.{IsReplied}
use Rattle.ov_step.proofs.Replying.{command_more}
use Rattle.ov_step.proofs.replied.Replied.move_on.Goals as goal

pub loop-seq-preserved : goal.loop-seq-preserved
loop-seq-preserved c = record {
  session = c.loop-seq.invariant.session;
  seq = refl;
  replied = λ t h done is.
      command_more t h c.loop-seq.self.session c.loop-seq.seq
      (subst (λ (n : ℕ). IsReplied t h (record { session = c.loop-seq.self.session; seq = n })) c.loop-seq.invariant.seq (c.loop-seq.invariant.replied t h done is))
      (sym (c.if-not-has.ensures h done));
}
