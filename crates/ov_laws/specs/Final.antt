-- Final watermarks: nothing below one can change any more.
use Rattle.std.specs.Prelude.{◌≡◌, ℕ, ◌+◌, ◌≤◌, ◌<◌, true, List, Some, ◌∷◌, ◌++◌}
use Rattle.ov_base.specs.Version.{number}
use Rattle.ov_topology.specs.Shape.{Shape, gates}
use Rattle.ov_event.specs.Letters.{touches}
use Rattle.ov_history.specs.Past.{History}
use Rattle.ov_history.specs.Draws.{Drawn, last, draw_of}
use Rattle.ov_laws.specs.Draws.{Drew}
use Rattle.ov_laws.specs.Holders.{holders, all_hold}
use Rattle.ov_topology.specs.declared.actor.Actor.{Actor}
use Rattle.ov_gossip.specs.Marks.{mark_at}
use Rattle.ov_gossip.specs.declared.marks.Marks.{Marks}
use Rattle.ov_event.specs.declared.entry.Entry.{Entry}
use Rattle.ov_history.specs.Marks.{mark, replied_to}
use Rattle.ov_history.specs.May.{Setting, Lawful}
use Rattle.ov_history.specs.Serial.{serial_at}
use Rattle.ov_laws.specs.Entries.{published_by}

-- no version below the watermark is drawn any more
abbrev pub IsClosed : Shape → History → ℕ → Type 0
IsClosed t h w = (g : ℕ) → g < gates t → w ≤ number (last g h + 1) g

-- A gateway of the topology drew this, its version is below the watermark, and its transaction touches the partition.
pub record IsBelow (t : Shape) (h : History) (w : ℕ) (drawn : Drawn) (p : ℕ) : Type 0 where
  pub gate : ℕ
  pub known : gate < gates t
  pub drew : Drew gate drawn h
  pub less : drawn.version < w
  pub inside : p < t.partitions
  pub touched : touches t drawn.transaction p ≡ true

-- The watermark is final: each version below it is held by a write quorum of each partition that it touches, and no version below
-- it is drawn any more.
pub record Final (t : Shape) (h : History) (w : ℕ) : Type 0 where
  pub held : (drawn : Drawn) (p : ℕ) → IsBelow t h w drawn p → t.write ≤ holders t drawn.version p h
  pub closed : IsClosed t h w

-- The watermark is final for all copies: each version below it is held by all nodes of each partition that it touches, and no version
-- below it is drawn any more.
pub record FinalAll (t : Shape) (h : History) (w : ℕ) : Type 0 where
  pub held : (drawn : Drawn) (p : ℕ) → IsBelow t h w drawn p → all_hold t drawn.version p h ≡ true
  pub closed : IsClosed t h w

-- ---- what follows

-- whatever entries may follow, the last of them draws no version below the watermark
abbrev pub NoLaterDrawBelow : Setting → History → ℕ → Type 0
NoLaterDrawBelow t h w = (more : History) (e : Entry) (g : ℕ) (drawn : Drawn) → Lawful t (e ∷ more ++ h) → draw_of g e ≡ Some drawn → w ≤ drawn.version

-- two histories have the same serial map just below each number up to the watermark
abbrev pub SameUpTo : ℕ → History → History → Type 0
SameUpTo w h other = (n : ℕ) → n ≤ w → serial_at h n ≡ serial_at other n

-- ---- marks

-- each version below the watermark is replied
abbrev pub AllReplied : Shape → History → ℕ → Type 0
AllReplied t h w = (g : ℕ) (drawn : Drawn) → g < gates t → Drew g drawn h → drawn.version < w → replied_to g drawn.session drawn.seq h ≡ true

-- whatever gateway g may publish next, its own mark there is not below the one that the actor knows; `which` is low, full or done
abbrev pub MarkGrows : (Marks → ℕ) → Setting → History → Actor → ℕ → Type 0
MarkGrows which t h a g = (time : ℕ) (vector : List Marks) → Lawful t (published_by g time vector ∷ h) → mark which a g h ≤ which (mark_at vector g)
