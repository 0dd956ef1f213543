use Rattle.std.proofs.Common.{◌≡◌, ◌+◌, ◌∷◌, length, ap, refl, sym, subst}
use Rattle.ov_topology.specs.Shape.{gates}
use Rattle.ov_step.specs.Wants.{AreWants}
use Rattle.ov_step.proofs.Keeping.{kept_more}
use Rattle.ov_step.proofs.outstanding.Outstanding.note.Goals as goal

pub returns-clause-kept : goal.returns-clause-kept
returns-clause-kept c t h same kept =
    let number : c.args.self.now.read + 1 ≡ length h + 1 = ap (λ n. n + 1) kept.read_are in
    kept_more t h c.args.entry.now c.args.self.now _ kept record {
      read = refl;
      replies = ap (λ n. c.args.self.now.replies + n) c.replies_in.ensures;
      deeds = c.in_ok-note.ensures h kept.deeds_are;
      last = c.note.ensures h (gates t.topology) number kept.last_are;
      rounds = c.note-2.ensures h t.topology.centres number kept.rounds_are;
      wants =
          subst (λ s. AreWants s (c.args.entry.now ∷ h) c.note-4.new.self) (sym same)
          (c.in_ok-note-2.ensures h number (subst (λ s. AreWants s h c.args.self.now.wants) same kept.wants_are));
      told = refl;
      stored = refl;
      acked = refl;
      answered = refl;
      replied = refl;
    }
