-- Marks and vectors of marks: the greater of two, and the least and the greatest of a list.
use Rattle.std.specs.Prelude.{◌≡◌, ◌≢◌, ℕ, ◌<◌, ◌≤◌, min, max, List, [], ◌∷◌, length, get_or}
use Rattle.ov_base.specs.Version.{time_of}
use Rattle.ov_gossip.specs.declared.marks.Marks.{Marks}
use Rattle.ov_gossip.specs.declared.vector.Which.{Which}
use Rattle.ov_gossip.specs.declared.vector.Which.TheVariants.{Low, Full, Done}

-- the marks of a gateway that has said nothing
abbrev pub no_marks : Marks
no_marks = record { low = 0; full = 0; done = 0 }

-- the greater of both, mark by mark
abbrev pub greater : Marks → Marks → Marks
greater a b = record { low = max a.low b.low; full = max a.full b.full; done = max a.done b.done }

-- the marks of a gateway in a vector
abbrev pub mark_at : List Marks → ℕ → Marks
mark_at vector gate = get_or vector gate no_marks

-- A vector of 1 to 8 gateways.
pub record IsVector (vector : List Marks) : Type 0 where
  pub some : 1 ≤ length vector
  pub few : length vector ≤ 8

-- At one place a vector has the greater of what it had and of these marks; all other places stay.
pub record Raised (old new : List Marks) (gate : ℕ) (marks : Marks) : Type 0 where
  pub count : length new ≡ length old
  pub raised : mark_at new gate ≡ greater (mark_at old gate) marks
  pub others : (g : ℕ) → g ≢ gate → mark_at new g ≡ mark_at old g

-- At each place a vector has the greater of what it had and of what the other has.
pub record Merged (old new other : List Marks) : Type 0 where
  pub count : length new ≡ length old
  pub each : (g : ℕ) → mark_at new g ≡ greater (mark_at old g) (mark_at other g)

-- The number is the least of what f says of the marks at each place: not above any, and that of one.
pub record IsLeast (f : Marks → ℕ) (vector : List Marks) (least : ℕ) : Type 0 where
  pub under : (g : ℕ) → g < length vector → least ≤ f (mark_at vector g)
  pub place : ℕ
  pub there : place < length vector
  pub is : least ≡ f (mark_at vector place)

-- The number is the greatest of what f says of the marks at each place: not below any, and that of one.
pub record IsGreatest (f : Marks → ℕ) (vector : List Marks) (greatest : ℕ) : Type 0 where
  pub above : (g : ℕ) → g < length vector → f (mark_at vector g) ≤ greatest
  pub place : ℕ
  pub there : place < length vector
  pub is : greatest ≡ f (mark_at vector place)

-- the three marks, one of them by its name, and the time of a low mark
abbrev pub low_of : Marks → ℕ
low_of marks = marks.low

abbrev pub full_of : Marks → ℕ
full_of marks = marks.full

abbrev pub done_of : Marks → ℕ
done_of marks = marks.done

abbrev pub mark_of : Which → Marks → ℕ
mark_of Low = low_of
mark_of Full = full_of
mark_of Done = done_of

abbrev pub low_time : Marks → ℕ
low_time marks = time_of marks.low

-- the least of a number and of what f says of the marks
abbrev pub least_from : (Marks → ℕ) → ℕ → List Marks → ℕ
least_from f number [] = number
least_from f number (marks ∷ vector) = min (f marks) (least_from f number vector)

-- the least of what f says of the marks at each place
abbrev pub least : (Marks → ℕ) → List Marks → ℕ
least f vector = least_from f (f (mark_at vector 0)) vector

-- the greatest of 0 and of what f says of the marks at each place
abbrev pub greatest : (Marks → ℕ) → List Marks → ℕ
greatest f [] = 0
greatest f (marks ∷ vector) = max (f marks) (greatest f vector)
