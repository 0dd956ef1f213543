-- What is done once and for all in a history, as calm rounds ask for it.
use Rattle.std.specs.Prelude.{◌≡◌, ℕ, ◌/◌, ◌%◌, ◌==◌, Bool, false, ◌&&◌, Option, Some, None, unwrap_or, List, if◌then◌else◌}
use Rattle.std.specs.Map.{lookup}
use Rattle.ov_topology.specs.declared.actor.Actor.{Actor}
use Rattle.ov_topology.specs.declared.actor.Actor.TheVariants.{Gate, Node}
use Rattle.ov_event.specs.declared.entry.Entry.{Entry}
use Rattle.ov_event.specs.declared.kind.Kind.{Kind}
use Rattle.ov_event.specs.declared.kind.Kind.TheVariants as kinds
use Rattle.ov_history.specs.Past.{History}
use Rattle.ov_history.specs.Placement.{acked}
use Rattle.ov_follow.specs.Passes.{told, stored_from, is_replied}
use Rattle.ov_step.specs.declared.deeds.Deed.{Deed}
use Rattle.ov_step.specs.declared.deeds.Deed.TheVariants.{Told, Stored, Acked, Replied}
use Rattle.ov_step.specs.declared.deeds.Lookup.{Lookup}
use Rattle.ov_step.specs.declared.deeds.Subject.{Subject}
use Rattle.ov_step.specs.declared.deeds.Subject.TheVariants.{Command, Letter, Version}
use Rattle.ov_base.specs.declared.small.SmallSet.{SmallSet}
use Rattle.ov_base.specs.Small.{empty_set, has, with_number}

-- whether it is done in the history
abbrev pub is_done : Deed → History → Bool
is_done (Told g s c) h = told g s c h
is_done (Stored entry letter c p) h = stored_from (Node c p) (record { entry = entry; letter = letter }) h
is_done (Acked g v c p) h = acked g v c p h
is_done (Replied s c) h = is_replied s c h

-- what it is a deed of: gateways and centres share a subject by blocks of 32
abbrev pub subject_of : Deed → Subject
subject_of (Told g s c) = Command s c (g / 32)
subject_of (Stored entry letter c p) = Letter entry letter p (c / 32)
subject_of (Acked g v c p) = Version g v p (c / 32)
subject_of (Replied s c) = Command s c 0

-- its number among the deeds of its subject
abbrev pub number_of : Deed → ℕ
number_of (Told g s c) = g % 32
number_of (Stored entry letter c p) = c % 32
number_of (Acked g v c p) = c % 32
number_of (Replied s c) = 32

-- whether two subjects are one
abbrev pub same_subject : Subject → Subject → Bool
same_subject (Command s c b) (Command s2 c2 b2) = (s == s2) && ((c == c2) && (b == b2))
same_subject (Letter n l p b) (Letter n2 l2 p2 b2) = (n == n2) && ((l == l2) && ((p == p2) && (b == b2)))
same_subject (Version g v p b) (Version g2 v2 p2 b2) = (g == g2) && ((v == v2) && ((p == p2) && (b == b2)))
same_subject one other = false

-- the numbers of a subject's deeds
abbrev pub numbers : List (Subject × SmallSet) → Subject → SmallSet
numbers known subject = unwrap_or (lookup (same_subject subject) known) empty_set

-- the numbers of each subject's deeds, where one more is put to those of one subject
abbrev pub with_one : Subject → ℕ → List (Subject × SmallSet) → Subject → SmallSet
with_one one number known subject = if same_subject one subject then with_number number (numbers known one) else numbers known subject

-- What was looked up last: the numbers of its subject's deeds.
abbrev pub IsLookup : List (Subject × SmallSet) → Lookup → Type 0
IsLookup known lookup = lookup.numbers ≡ numbers known lookup.subject

-- these are exactly the deeds of the history
abbrev pub AllDone : History → List (Subject × SmallSet) → Type 0
AllDone h known = (deed : Deed) → has (numbers known (subject_of deed)) (number_of deed) ≡ is_done deed h

-- what an actor does once and for all by an entry of this kind
abbrev pub deed_by : Actor → Kind → Option Deed
deed_by (Gate g) (kinds.Told place s c) = Some (Told g s c)
deed_by (Node c p) (kinds.Stored place version items) = Some (Stored place.entry place.letter c p)
deed_by (Gate g) (kinds.Acked place version c p) = Some (Acked g version c p)
deed_by actor (kinds.Replied place s c reply) = Some (Replied s c)
deed_by actor other = None

-- what an entry does once and for all
abbrev pub deed_of : Entry → Option Deed
deed_of e = deed_by e.actor e.kind
