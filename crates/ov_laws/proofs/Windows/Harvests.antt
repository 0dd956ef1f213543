-- Harvests are sorted, and that of a round that has answers enough is the window that it asked for.
use Rattle.std.proofs.Common.{◌≡◌, ◌==◌, ℕ, ◌+◌, ◌≤◌, ◌<◌, Bool, true, false, Some, List, [], ◌∷◌, ◌++◌, length, refl, sym, ap, subst, ◌∙◌, arith}
use Rattle.std.specs.Prelude.{if◌then◌else◌}
use Rattle.std.proofs.Math.Nat.{mod-lt}
use Rattle.ov_functor.specs.Windows.{Among}
use Rattle.ov_functor.specs.declared.item.Item.{Item}
use Rattle.ov_functor.specs.Unions.{all_added, IsSorted}
use Rattle.ov_functor.proofs.Unions.{all_added_sorted}
use Rattle.ov_event.specs.Letters.{is_settler}
use Rattle.ov_topology.specs.Shape.{Shape, IsShape, byte_sum, place_of}
use Rattle.ov_topology.specs.declared.actor.Actor.TheVariants.{Settler}
use Rattle.ov_topology.specs.declared.mode.Mode.{Mode}
use Rattle.ov_topology.specs.declared.mode.Mode.TheVariants.{Quorum, One}
use Rattle.ov_history.specs.Past.{History, at, before}
use Rattle.ov_history.specs.Nodes.{held}
use Rattle.ov_history.specs.Settlers.{Round, open_round, took, brought, harvest, IsEnough}
use Rattle.ov_history.specs.May.{Setting, May, Lawful, MayAsk}
use Rattle.ov_laws.specs.Final.{IsClosed}
use Rattle.ov_history.specs.Serial.{begun_at, InWindow}
use Rattle.ov_history.proofs.Past.{lawful_at, lawful_before}
use Rattle.ov_laws.proofs.History.Earlier.{lawful_older}
use Rattle.ov_laws.proofs.Watermarks.Finals.{visible_final, replicated_final}
use Rattle.ov_laws.proofs.Watermarks.Later.{closed_stays, begun_later}
use Rattle.ov_laws.proofs.Windows.Meets.{Meets, meets}
use Rattle.ov_laws.proofs.Windows.Added.{items_touch}
use Rattle.ov_laws.proofs.Windows.Holdings.{IsBegun, one_item, stored_is_held}
use Rattle.ov_laws.proofs.Windows.Rounds.{asked_by, open_is_asked, taken_tells, harvest_comes, took_first}

-- ---- harvests are sorted

-- a harvest is sorted
pub harvest_sorted : (s n : ℕ) (h : History) → IsSorted (harvest s n h)
harvest_sorted s n [] = record {}
harvest_sorted s n (e ∷ h) = by (is_settler s e.actor) (harvest_sorted s n h)
  where
    by : (b : Bool) → IsSorted (harvest s n h) → IsSorted (if b then all_added (brought s n e.kind h) (harvest s n h) else harvest s n h)
    by true sorted = all_added_sorted (brought s n e.kind h) (harvest s n h) sorted
    by false sorted = sorted

-- ---- what was begun before the question

-- a history is what stood before an entry with the others put on top
split_before : (h : History) (k : ℕ) → (more : History) × (h ≡ more ++ before k h)
split_before [] k = ([], refl)
split_before (new ∷ h) k = by (k == length h + 1) (split_before h k)
  where
    by : (b : Bool) → (more : History) × (h ≡ more ++ before k h) → (more : History) × (new ∷ h ≡ more ++ (if b then h else before k h))
    by true rest = (new ∷ [], refl)
    by false rest = (new ∷ rest.0, ap (λ (l : History). new ∷ l) rest.1)

-- what is begun below a watermark that was closed before an entry was begun then
pub begun_earlier : (t : Setting) (h : History) (k w version : ℕ) → Lawful t h → IsClosed t.topology (before k h) w → version < w → begun_at h version ≡ begun_at (before k h) version
begun_earlier t h k w version lawful closed less =
    let split = split_before h k in
    let whole : Lawful t (split.0 ++ before k h) = subst (λ (l : History). Lawful t l) split.1 lawful in
    ap (λ (l : History). begun_at l version) split.1 ∙ begun_later t (before k h) split.0 w closed whole version less

-- what a round asks for was closed when it was asked
asked_closed : (t : Setting) (h : History) (k s : ℕ) (round : Round) → Lawful t h → at h k ≡ Some (asked_by s round) → IsClosed t.topology (before k h) round.below
asked_closed t h k s round lawful ask = by round.mode may.guard
  where
    may : May t (before k h) (asked_by s round)
    may = lawful_at t h k (asked_by s round) lawful ask

    old : Lawful t (before k h)
    old = lawful_before t h k lawful

    by : (mode : Mode) → MayAsk t.topology (before k h) s round.number mode round.from round.below → IsClosed t.topology (before k h) round.below
    by Quorum asks = subst (λ (w : ℕ). IsClosed t.topology (before k h) w) (sym asks.below_is) (visible_final t (before k h) (Settler s) old).closed
    by One asks = subst (λ (w : ℕ). IsClosed t.topology (before k h) w) (sym asks.below_is) (replicated_final t (before k h) (Settler s) old).closed

-- what an open round asks for is closed
open_closed : (t : Setting) (h : History) (s : ℕ) (round : Round) → Lawful t h → open_round s h ≡ Some round → IsClosed t.topology h round.below
open_closed t h s round lawful opened =
    let asked = open_is_asked h s round opened in
    let split = split_before h asked.0 in
    let closed = asked_closed t h asked.0 s round lawful asked.1 in
    subst (λ (l : History). IsClosed t.topology l round.below) (sym split.1) (closed_stays t.topology (before asked.0 h) split.0 round.below closed)

-- a window is the same in histories that have begun the same below its upper end
window_same : (h other : History) (from below : ℕ) (item : Item) → ((version : ℕ) → version < below → begun_at other version ≡ begun_at h version)
    → InWindow h from below item → InWindow other from below item
window_same h other from below item same inside = record {
  transaction = inside.transaction;
  begun = same item.version inside.high ∙ inside.begun;
  within = inside.within;
  low = inside.low;
  high = inside.high;
}

-- the window of an open round stays
pub window_stays : (t : Setting) (h more : History) (s : ℕ) (round : Round) → Lawful t (more ++ h) → open_round s h ≡ Some round → (item : Item)
    → (InWindow (more ++ h) round.from round.below item → InWindow h round.from round.below item) × (InWindow h round.from round.below item → InWindow (more ++ h) round.from round.below item)
window_stays t h more s round lawful opened item = (
  window_same (more ++ h) h round.from round.below item (λ version less. sym (same version less)),
  window_same h (more ++ h) round.from round.below item same,
)
  where
    same : (version : ℕ) → version < round.below → begun_at (more ++ h) version ≡ begun_at h version
    same = begun_later t h more round.below (open_closed t h s round (lawful_older t h more lawful) opened) lawful

-- ---- the two directions

-- what is harvested lies in the window
pub harvest_inside : (t : Setting) (h : History) (k s : ℕ) (round : Round) → Lawful t h → at h k ≡ Some (asked_by s round) → (item : Item) → Among item (harvest s round.number h) → InWindow h round.from round.below item
harvest_inside t h k s round lawful ask item among =
    let is = harvest_comes h s round.number item among in
    (taken_tells t h k is.number s round is.centre is.part is.place is.items lawful ask is.there).comes item is.within

-- an item of the window is one of a begun transaction
window_is_begun : (h : History) (from below : ℕ) (item : Item) → InWindow h from below item → IsBegun h item
window_is_begun h from below item inside = record { transaction = inside.transaction; begun = inside.begun; within = inside.within }

-- the partition of a key is one of the topology
place_inside : (t : Shape) (key : List ℕ) → IsShape t → place_of t key < t.partitions
place_inside t key shape = mod-lt (byte_sum key) (let some : 1 ≤ t.partitions = shape.some_partition in omega (arith, some))

-- A node of the item's partition held the item when the round was asked for, and its answer was taken.
record Reached (h : History) (k s n p : ℕ) (item : Item) : Type 0 where
  centre : ℕ
  had : Among item (held centre p (before k h))
  taken : took s n centre p h ≡ true

-- each item of the window was held by a node whose answer was taken
window_reached : (t : Setting) (h : History) (k s : ℕ) (round : Round) → IsShape t.topology → Lawful t h → Meets t.topology h k s round.number round.below
    → (item : Item) → InWindow h round.from round.below item → Reached h k s round.number (place_of t.topology item.key) item
window_reached t h k s round shape lawful meet item inside =
    let begun : begun_at (before k h) item.version ≡ Some inside.transaction = sym (begun_earlier t h k round.below item.version lawful meet.closed inside.high) ∙ inside.begun in
    let found = meet.both item.version inside.transaction (place_of t.topology item.key) begun inside.high (place_inside t.topology item.key shape)
    (items_touch t.topology item.version inside.transaction item inside.within) in
    let is : IsBegun (before k h) item = record { transaction = inside.transaction; begun = begun; within = inside.within } in
    record { centre = found.0; had = stored_is_held t (before k h) found.0 (place_of t.topology item.key) item (lawful_before t h k lawful) found.1 is refl; taken = found.2 }

-- each item of the window is harvested
pub window_harvested : (t : Setting) (h : History) (k s : ℕ) (round : Round) → IsShape t.topology → Lawful t h → at h k ≡ Some (asked_by s round) → Meets t.topology h k s round.number round.below
    → (item : Item) → InWindow h round.from round.below item → Among item (harvest s round.number h)
window_harvested t h k s round shape lawful ask meet item inside =
    let p = place_of t.topology item.key in
    let reached = window_reached t h k s round shape lawful meet item inside in
    let first = took_first h s round.number reached.centre p reached.taken in
    let tells = taken_tells t h k first.number s round reached.centre p first.place first.items lawful ask first.there in
    let has = first.all item (tells.all item reached.had inside.low inside.high) in
    let its = harvest_inside t h k s round lawful ask has.found has.within in
    let same : has.found ≡ item = one_item h has.found item (window_is_begun h round.from round.below has.found its) (window_is_begun h round.from round.below item inside) has.version_is has.key_is in
    subst (λ (x : Item). Among x (harvest s round.number h)) same has.within

-- the harvest of an open round with answers enough is its window
pub harvest_is_window : (t : Setting) (h : History) (s : ℕ) (round : Round) → IsShape t.topology → Lawful t h → open_round s h ≡ Some round
    → ((p : ℕ) → p < t.topology.partitions → IsEnough t.topology s round p h round.mode)
    → (item : Item) → (Among item (harvest s round.number h) → InWindow h round.from round.below item) × (InWindow h round.from round.below item → Among item (harvest s round.number h))
harvest_is_window t h s round shape lawful opened enough item =
    let asked = open_is_asked h s round opened in (
      harvest_inside t h asked.0 s round lawful asked.1 item,
      window_harvested t h asked.0 s round shape lawful asked.1 (meets t h asked.0 s round shape lawful asked.1 enough) item,
    )
