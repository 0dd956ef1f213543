-- What calm rounds keep beside a world.
use Rattle.std.specs.Prelude.{◌≡◌, length}
use Rattle.ov_topology.specs.Shape.{gates}
use Rattle.ov_history.specs.Past.{History}
use Rattle.ov_history.specs.May.{Setting}
use Rattle.ov_follow.specs.Calm.{replies}
use Rattle.ov_step.specs.Deeds.{AllDone}
use Rattle.ov_step.specs.Gathered.{IsClear, told_by, stored_by, acked_by, replied_by}
use Rattle.ov_step.specs.Replied.{IsReplied}
use Rattle.ov_step.specs.Rounds.{AreRounds, AreLast}
use Rattle.ov_step.specs.Wants.{AreWants}
use Rattle.ov_step.specs.declared.outstanding.Outstanding.{Outstanding}

-- All that is kept is of the history: how many entries it has and how many of them reply, its deeds, publications and rounds, what
-- wants a reply, up to where nothing is left to list, and how far the commands are replied.
pub record IsOutstanding (t : Setting) (h : History) (o : Outstanding) : Type 0 where
  pub read_are : o.read ≡ length h
  pub replies_are : o.replies ≡ replies h
  pub deeds_are : AllDone h o.deeds
  pub last_are : AreLast h (gates t.topology) o.publications
  pub rounds_are : AreRounds h t.topology.centres o.rounds
  pub wants_are : AreWants t.topology h o.wants
  pub told : IsClear told_by t h o.told
  pub stored : IsClear stored_by t h o.stored
  pub acked : IsClear acked_by t h o.acked
  pub answered : IsClear replied_by t h o.answered
  pub replied_are : IsReplied t h o.replied
