use Rattle.std.proofs.Common.{◌+◌, ap, refl, sym, ◌∙◌}
use Rattle.std.specs.Prelude.{reverse}
use Rattle.ov_world.specs.World.{setting_of}
use Rattle.ov_step.specs.Outstanding.{IsOutstanding}
use Rattle.ov_step.proofs.Seeing.{seen_from, seen_more, seen_to}
use Rattle.ov_step.proofs.outstanding.Outstanding.catch_up.Goals as goal

pub loop-place-preserved : goal.loop-place-preserved
loop-place-preserved c = record {
  place = c.in-Ok.ensures.read.1 ∙ ap (λ n. n + 1) c.loop-place.invariant.place;
  fewer = c.in-Ok.ensures.read.0;
  kept = λ before.
      seen_more (λ h. IsOutstanding (setting_of c.args.world.now) h c.note.new.self) (reverse c.args.world.now.history) c.loop-place.place c.index-entries-place.result
      (rw c.entries-entries.ensures.entries at c.loop-place-test.true) (rw c.entries-entries.ensures.entries at c.index-entries-place.is)
      (c.in-Ok.ensures.kept (setting_of c.args.world.now) _ (sym c.topology.ensures) (c.loop-place.invariant.kept before));
}

pub returns-clause-kept : goal.returns-clause-kept
returns-clause-kept c h more are kept =
    seen_to (λ h. IsOutstanding (setting_of c.args.world.now) h c.loop-place.self) (reverse c.args.world.now.history) c.args.world.now.history c.loop-place.place refl
    (rw c.entries-entries.ensures.entries at c.loop-place-test.false)
    (c.loop-place.invariant.kept (seen_from (λ h. IsOutstanding (setting_of c.args.world.now) h c.args.self.now) (reverse c.args.world.now.history) h more c.args.self.now.read
    (ap (λ h. reverse h) are) kept.read_are kept))
