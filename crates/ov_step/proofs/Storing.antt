-- The lines for the `Write` letters of an entry, partition by partition, and that its other letters have none.
use Rattle.std.proofs.Common.{◌≡◌, ℕ, suc, ◌+◌, true, false, List, [], ◌∷◌, ◌++◌, length, map, refl, sym, ap, ◌∙◌, arith}
use Rattle.std.proofs.lemmas.List.{append-nil, append_assoc, map-append, length-map, length_push}
use Rattle.ov_functor.specs.declared.part.Part.{Part}
use Rattle.ov_topology.specs.Shape.{Shape}
use Rattle.ov_topology.specs.declared.actor.Actor.{Actor}
use Rattle.ov_topology.specs.declared.actor.Actor.TheVariants.{Gate, Node, Settler}
use Rattle.ov_event.specs.Letters.{touches, touched_below, write_of, start_writes, writes_of, last_of, listed}
use Rattle.ov_event.specs.declared.entry.Entry.{Entry}
use Rattle.ov_event.specs.declared.kind.Kind.{Kind}
use Rattle.ov_event.specs.declared.kind.Kind.TheVariants as kinds
use Rattle.ov_event.specs.declared.letter.Letter.{Letter}
use Rattle.ov_event.specs.declared.start.Start.{Start}
use Rattle.ov_history.specs.Past.{History}
use Rattle.ov_history.specs.May.{Setting}
use Rattle.ov_follow.specs.Lines.{Line}
use Rattle.ov_follow.specs.Passes.{each, over, write_lines}
use Rattle.ov_step.specs.Gathered.{stored_by}
use Rattle.ov_step.specs.Storing.{node_stores}

-- ---- letters behind letters

pub over_behind : (f : ℕ → Letter → List Line) (n : ℕ) (first others : List Letter) → over f n (first ++ others) ≡ over f n first ++ over f (n + length first) others
over_behind f n [] others = let none : n + 0 ≡ n = omega arith in rw none refl
over_behind f n (letter ∷ first) others =
    let next : (n + 1) + length first ≡ n + suc (length first) = omega arith in
    rw (over_behind f (n + 1) first others, next) (sym (append_assoc (f n letter) (over f (n + 1) first) (over f (n + suc (length first)) others)))

-- one letter more
pub over_next : (f : ℕ → Letter → List Line) (n : ℕ) (first : List Letter) (letter : Letter) → over f n (first ++ letter ∷ []) ≡ over f n first ++ f (n + length first) letter
over_next f n first letter = over_behind f n first (letter ∷ []) ∙ ap (λ (lines : List Line). over f n first ++ lines) (append-nil (f (n + length first) letter))

-- ---- the partitions that are touched

-- the lines for the `Write` letters of the partitions below a number
abbrev pub below : Setting → History → ℕ → ℕ → List Part → ℕ → List Line
below t h number version parts part = over (write_lines t h number) 1 (map (write_of t.topology version parts) (touched_below t.topology parts part))

-- one partition more, that is touched
pub below_touched : (t : Setting) (h : History) (number letter version : ℕ) (parts : List Part) (part : ℕ) → touches t.topology parts part ≡ true
    → letter ≡ length (touched_below t.topology parts part)
    → below t h number version parts (part + 1) ≡ below t h number version parts part ++ each (node_stores number (letter + 1) part h) t.topology.centres
below_touched t h number letter version parts part is count =
    let next : part + 1 ≡ suc part = omega arith in
    let place : 1 + length (map (write_of t.topology version parts) (touched_below t.topology parts part)) ≡ letter + 1
    = omega (arith, count, length-map (touched_below t.topology parts part) (write_of t.topology version parts)) in
    rw (
      next,
      is,
      map-append (write_of t.topology version parts) (touched_below t.topology parts part) (part ∷ []),
      over_next (write_lines t h number) 1 (map (write_of t.topology version parts) (touched_below t.topology parts part)) (write_of t.topology version parts part),
      place,
    )
    refl

-- one partition more, that is not touched
pub below_untouched : (t : Setting) (h : History) (number version : ℕ) (parts : List Part) (part : ℕ) → touches t.topology parts part ≡ false
    → below t h number version parts (part + 1) ≡ below t h number version parts part
below_untouched t h number version parts part not =
    let next : part + 1 ≡ suc part = omega arith in
    rw (next, not, append-nil (touched_below t.topology parts part)) refl

-- lines with those of one partition more, that is touched
pub lines_touched : (t : Setting) (h : History) (number letter version : ℕ) (parts : List Part) (part : ℕ) (first before after : List Line)
    → touches t.topology parts part ≡ true → letter ≡ length (touched_below t.topology parts part) → before ≡ first ++ below t h number version parts part
    → after ≡ before ++ each (node_stores number (letter + 1) part h) t.topology.centres → after ≡ first ++ below t h number version parts (part + 1)
lines_touched t h number letter version parts part first before after is count there next =
    rw (next, there, below_touched t h number letter version parts part is count)
    (append_assoc first (below t h number version parts part) (each (node_stores number (letter + 1) part h) t.topology.centres))

-- how many partitions are touched, with one more
pub count_touched : (t : Shape) (parts : List Part) (part : ℕ) → touches t parts part ≡ true → length (touched_below t parts (part + 1)) ≡ length (touched_below t parts part) + 1
count_touched t parts part is = let next : part + 1 ≡ suc part = omega arith in rw (next, is) (length_push (touched_below t parts part) part)

pub count_untouched : (t : Shape) (parts : List Part) (part : ℕ) → touches t parts part ≡ false → length (touched_below t parts (part + 1)) ≡ length (touched_below t parts part)
count_untouched t parts part not = let next : part + 1 ≡ suc part = omega arith in rw (next, not, append-nil (touched_below t parts part)) refl

-- ---- the letters of an entry

-- an entry's letter that is no `Write` has no line
last_none : (t : Setting) (h : History) (number place : ℕ) (a : Actor) (k : Kind) → over (write_lines t h number) place (listed (last_of a k)) ≡ []
last_none t h number place (Gate g) (kinds.Began session seq start) = refl
last_none t h number place (Gate g) (kinds.Published time vector) = refl
last_none t h number place (Gate g) (kinds.Replied from session seq reply) = refl
last_none t h number place (Node c p) (kinds.Stored from version items) = refl
last_none t h number place (Node c p) (kinds.Answered from settler round items) = refl
last_none t h number place (Settler s) (kinds.Asked round mode from below) = refl
last_none t h number place (Settler s) (kinds.Resulted from session seq gate reply) = refl
last_none t h number place a k = refl

-- what an entry has lines for are its `Write` letters
stored_writes : (t : Setting) (h : History) (number : ℕ) (e : Entry) → stored_by t h number e ≡ over (write_lines t h number) 1 (writes_of t.topology e.actor e.kind)
stored_writes t h number e =
    over_behind (write_lines t h number) 1 (writes_of t.topology e.actor e.kind) (listed (last_of e.actor e.kind))
    ∙ rw (last_none t h number (1 + length (writes_of t.topology e.actor e.kind)) e.actor e.kind) (append-nil (over (write_lines t h number) 1 (writes_of t.topology e.actor e.kind)))

-- an entry by which a gateway begins a command
pub stored_began : (t : Setting) (h : History) (number : ℕ) (e : Entry) (g session seq : ℕ) (start : Start) → e.actor ≡ Gate g → e.kind ≡ kinds.Began session seq start
    → stored_by t h number e ≡ over (write_lines t h number) 1 (start_writes t.topology start)
stored_began t h number e g session seq start actor_is kind_is =
    stored_writes t h number e ∙ rw (actor_is, kind_is) refl
