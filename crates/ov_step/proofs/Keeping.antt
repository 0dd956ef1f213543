-- What is kept beside a world, after one entry more.
use Rattle.std.proofs.Common.{◌≡◌, ℕ, ◌+◌, ◌≤◌, Bool, true, false, [], ◌∷◌, length, arith}
use Rattle.std.specs.Prelude.{if◌then◌else◌}
use Rattle.ov_topology.specs.Shape.{gates}
use Rattle.ov_event.specs.declared.entry.Entry.{Entry}
use Rattle.ov_history.specs.Past.{History}
use Rattle.ov_history.specs.May.{Setting}
use Rattle.ov_follow.specs.Calm.{replies, is_reply}
use Rattle.ov_step.specs.Deeds.{AllDone}
use Rattle.ov_step.specs.Gathered.{told_by, stored_by, acked_by, replied_by}
use Rattle.ov_step.specs.Outstanding.{IsOutstanding}
use Rattle.ov_step.specs.Quiet.{tells_stay, acks_stay, replies_stay}
use Rattle.ov_step.specs.QuietStores.{stores_stay}
use Rattle.ov_step.specs.Rounds.{AreLast, AreRounds}
use Rattle.ov_step.specs.Wants.{AreWants}
use Rattle.ov_step.specs.declared.outstanding.Outstanding.{Outstanding}
use Rattle.ov_step.proofs.Gathering.{clear_stays}
use Rattle.ov_step.proofs.Replying.{replied_stays}

-- What one entry more makes of each part that changes.
pub record Noted (t : Setting) (h : History) (e : Entry) (old new : Outstanding) : Type 0 where
  pub read : new.read ≡ old.read + 1
  pub replies : new.replies ≡ old.replies + (if is_reply e.kind then 1 else 0)
  pub deeds : AllDone (e ∷ h) new.deeds
  pub last : AreLast (e ∷ h) (gates t.topology) new.publications
  pub rounds : AreRounds (e ∷ h) t.topology.centres new.rounds
  pub wants : AreWants t.topology (e ∷ h) new.wants
  pub told : new.told ≡ old.told
  pub stored : new.stored ≡ old.stored
  pub acked : new.acked ≡ old.acked
  pub answered : new.answered ≡ old.answered
  pub replied : new.replied ≡ old.replied

-- what is kept is then of the history with that entry
pub kept_more : (t : Setting) (h : History) (e : Entry) (old new : Outstanding) → IsOutstanding t h old → Noted t h e old new → IsOutstanding t (e ∷ h) new
kept_more t h e old new kept noted = record {
  read_are = let next = noted.read in let all = kept.read_are in omega (arith, next, all);
  replies_are = rw (noted.replies, kept.replies_are) (by (is_reply e.kind) (replies h));
  deeds_are = noted.deeds;
  last_are = noted.last;
  rounds_are = noted.rounds;
  wants_are = noted.wants;
  told = rw noted.told (clear_stays told_by t h e old.told tells_stay kept.told);
  stored = rw noted.stored (clear_stays stored_by t h e old.stored stores_stay kept.stored);
  acked = rw noted.acked (clear_stays acked_by t h e old.acked acks_stay kept.acked);
  answered = rw noted.answered (clear_stays replied_by t h e old.answered replies_stay kept.answered);
  replied_are = rw noted.replied (replied_stays t h e old.replied kept.replied_are);
}
  where
    by : (b : Bool) (n : ℕ) → n + (if b then 1 else 0) ≡ (if b then 1 else 0) + n
    by true n = omega arith
    by false n = omega arith

-- no more entries reply than there are
pub replies_within : (t : Setting) (h : History) (kept : Outstanding) → IsOutstanding t h kept → kept.replies ≤ kept.read
replies_within t h kept is = rw (is.replies_are, is.read_are) (within h)
  where
    one : (b : Bool) (n m : ℕ) → n ≤ m → (if b then 1 else 0) + n ≤ m + 1
    one true n m le = omega (arith, le)
    one false n m le = omega (arith, le)

    within : (h : History) → replies h ≤ length h
    within [] = omega arith
    within (e ∷ h) = let rest = within h in let all = one (is_reply e.kind) (replies h) (length h) rest in omega (arith, all)

-- what is kept with other wants of the history
pub kept_wants : (t : Setting) (h : History) (old new : Outstanding) → IsOutstanding t h old → new ≡ record old { wants = new.wants } → AreWants t.topology h new.wants → IsOutstanding t h new
kept_wants t h old new kept same wants = rw same (record {
  read_are = kept.read_are;
  replies_are = kept.replies_are;
  deeds_are = kept.deeds_are;
  last_are = kept.last_are;
  rounds_are = kept.rounds_are;
  wants_are = wants;
  told = kept.told;
  stored = kept.stored;
  acked = kept.acked;
  answered = kept.answered;
  replied_are = kept.replied_are;
})
