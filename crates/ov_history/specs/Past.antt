-- Histories: lists of entries with the newest one first. Entries are numbered from 1, the oldest.
use Rattle.std.specs.Prelude.{◌==◌, ℕ, ◌+◌, Bool, true, false, ◌||◌, Option, Some, None, List, [], ◌∷◌, length, if◌then◌else◌}
use Rattle.ov_topology.specs.declared.actor.Actor.{Actor}
use Rattle.ov_topology.specs.declared.actor.Actor.TheVariants.{Gate, Node, Settler}
use Rattle.ov_event.specs.declared.entry.Entry.{Entry}
use Rattle.ov_event.specs.declared.kind.Kind.{Kind}
use Rattle.ov_event.specs.declared.kind.Kind.TheVariants.{Stopped}
use Rattle.ov_event.specs.Letters.{is_gate, is_settler}

-- the entries up to now, the newest first
abbrev pub History : Type 0
History = List Entry

-- the entry of this number
abbrev pub at : History → ℕ → Option Entry
at [] k = None
at (e ∷ h) k = if k == length h + 1 then Some e else at h k

-- what stood before the entry of this number
abbrev pub before : ℕ → History → History
before k [] = []
before k (e ∷ h) = if k == length h + 1 then h else before k h

-- whether some entry passes
abbrev pub some : (Entry → Bool) → History → Bool
some f [] = false
some f (e ∷ h) = f e || some f h

-- how many of the entries pass
abbrev pub tally : (Entry → Bool) → History → ℕ
tally f [] = 0
tally f (e ∷ h) = (if f e then 1 else 0) + tally f h

-- ---- whose entry it is

-- whether the actor is this node
abbrev pub is_node : ℕ → ℕ → Actor → Bool
is_node c p (Gate g) = false
is_node c p (Node d q) = if d == c then q == p else false
is_node c p (Settler s) = false

-- whether the two are one actor
abbrev pub same_actor : Actor → Actor → Bool
same_actor (Gate g) b = is_gate g b
same_actor (Node c p) b = is_node c p b
same_actor (Settler s) b = is_settler s b

-- whether some entry is the actor's
abbrev pub acted : Actor → History → Bool
acted a h = some (λ e. same_actor a e.actor) h

-- ---- stopped actors

-- whether the actor stops by such an entry
abbrev pub stops : Kind → Bool
stops Stopped = true
stops other = false

-- whether the actor has stopped
abbrev pub stopped : Actor → History → Bool
stopped a h = some (λ e. if same_actor a e.actor then stops e.kind else false) h
