-- What is true of the history of every world.
use Rattle.std.specs.Prelude.{◌≡◌, ℕ, ◌+◌, ◌≤◌, ◌<◌, Some}
use Rattle.ov_gossip.specs.Marks.{low_of, full_of, done_of}
use Rattle.ov_functor.specs.declared.item.Valued.{Valued}
use Rattle.ov_functor.specs.declared.reply.Reply.{Reply}
use Rattle.ov_topology.specs.declared.actor.Actor.{Actor}
use Rattle.ov_session.specs.Events.{floor_of}
use Rattle.ov_history.specs.Past.{History}
use Rattle.ov_history.specs.Marks.{mark, visible, replicated, watermark}
use Rattle.ov_history.specs.May.{Setting}
use Rattle.ov_history.specs.Serial.{serial_at}
use Rattle.ov_history.specs.Settlers.{Round, open_round, settled, known_below}
use Rattle.ov_laws.specs.Runs.{IsRun}
use Rattle.ov_laws.specs.Final.{Final, FinalAll, NoLaterDrawBelow, AllReplied, MarkGrows}
use Rattle.ov_laws.specs.Harvests.{IsGathered, HasWindow, WindowStays}
use Rattle.ov_laws.specs.Values.{SettledAlike}
use Rattle.ov_laws.specs.Entries.{BeganAt, RepliedAt, HasReply, IsSettled, DrawnAfter, SnapsAfter}
use Rattle.ov_laws.specs.Replies.{Expected}

-- The watermarks that any actor knows are final: below the visibility watermark no version is drawn any more and each is held by a
-- write quorum, below the replica watermark by all; and below the least done mark each is replied. No mark falls.
pub record HasFinalMarks (t : Setting) (h : History) : Type 0 where
  pub visible_is : (a : Actor) → Final t.topology h (visible t.topology a h)
  pub replicated_is : (a : Actor) → FinalAll t.topology h (replicated t.topology a h)
  pub order : (a : Actor) → replicated t.topology a h ≤ visible t.topology a h
  pub marks : (a : Actor) (g : ℕ) → mark full_of a g h ≤ mark low_of a g h
  pub done : (a : Actor) → AllReplied t.topology h (watermark done_of t.topology a h)
  pub later : (a : Actor) → NoLaterDrawBelow t h (visible t.topology a h)
  pub low_grows : (a : Actor) (g : ℕ) → MarkGrows low_of t h a g
  pub full_grows : (a : Actor) (g : ℕ) → MarkGrows full_of t h a g
  pub done_grows : (a : Actor) (g : ℕ) → MarkGrows done_of t h a g

-- Where a round can be settled, what was gathered in it is exactly the window that it asked for; and that window stays.
pub record HasWindows (t : Setting) (h : History) : Type 0 where
  pub window : (s : ℕ) (round : Round) → IsGathered t h s round → HasWindow h s round
  pub stays : (s : ℕ) (round : Round) → open_round s h ≡ Some round → WindowStays t h round

-- What a settler knows just below each number up to which it has settled is the serial map, and each settled value is that of its key
-- just after its version, whichever settlers settled it.
pub record HasSerialValues (h : History) : Type 0 where
  pub known : (s n : ℕ) → n ≤ settled s h → known_below s h n ≡ serial_at h n
  pub each : (x : Valued) → IsSettled h x → x.value ≡ serial_at h (x.version + 1) x.key
  pub alike : SettledAlike h

-- Each reply shows the serial map for the command that began there; what is drawn after it is not below what it reaches; and the
-- commands of a session begin, and are replied, in the order of their numbers, each at most once.
pub record HasRightReplies (h : History) : Type 0 where
  pub expected : (g s c : ℕ) (reply : Reply) → HasReply h g s c reply → Expected h g s c reply
  pub later : (reply : Reply) (v : ℕ) → DrawnAfter h reply v → floor_of reply ≤ v
  pub snaps : (s n : ℕ) (reply : Reply) → SnapsAfter h s reply n → floor_of reply ≤ n
  pub begins : (i j s c d : ℕ) → i < j → BeganAt h i s c → BeganAt h j s d → c < d
  pub replies : (i j s c d : ℕ) → i < j → RepliedAt h i s c → RepliedAt h j s d → c < d

-- The history is lawful, its watermarks are final, its windows, settled values and replies are right.
pub record Holds (t : Setting) (h : History) : Type 0 where
  pub lawful : IsRun t h
  pub marks : HasFinalMarks t h
  pub windows : HasWindows t h
  pub values : HasSerialValues h
  pub replies : HasRightReplies h
