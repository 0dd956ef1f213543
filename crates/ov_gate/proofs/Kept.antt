-- What is kept of a drawn version, after one more entry.
use Rattle.std.proofs.Common.{◌≡◌, ℕ, ◌<◌, ◌≤◌, min, Bool, true, false, not, ◌&&◌, Option, Some, None, List, [], ◌∷◌, ◌++◌, map, refl, sym, ap, ◌∙◌, arith, append-nil}
use Rattle.std.specs.Prelude.{if◌then◌else◌, nat_lt}
use Rattle.std.specs.List.{AllByRecursion}
use Rattle.std.proofs.lemmas.Bool.{le-ltb, ltb-false}
use Rattle.ov_base.specs.Version.{time_of}
use Rattle.ov_topology.specs.Shape.{Shape}
use Rattle.ov_session.specs.Events.{begun}
use Rattle.ov_event.specs.Letters.{touches}
use Rattle.ov_history.specs.Past.{History}
use Rattle.ov_history.specs.Counts.{all_below}
use Rattle.ov_history.specs.Draws.{Drawn, draw_of, last}
use Rattle.ov_history.specs.Placement.{acked, ackers}
use Rattle.ov_history.specs.Marks.{lacks_quorum, lacks_copies, replied_to, lowered, lowest}
use Rattle.ov_history.specs.Sessions.{events_of}
use Rattle.ov_base.specs.Small.{has}
use Rattle.ov_gate.specs.Tracked.{is_acked, few_acks, some_copy_lacks, lacks_quorum_of, lacks_copies_of, lacks}
use Rattle.ov_gate.specs.Tracker.{Rises, least_held}
use Rattle.ov_gate.specs.Gate.{listed, draws, Tracks, TracksAll}
use Rattle.ov_base.specs.declared.small.SmallSet.{SmallSet}
use Rattle.ov_gate.specs.declared.tracked.Mark.{Mark}
use Rattle.ov_gate.specs.declared.tracked.Tracked.{Tracked}
use Rattle.ov_history.proofs.Counting.{any_same, all_same, weight_same, none_less, all_more, weight_more}

-- ---- what a version lacks, from which nodes have acknowledged it

-- what is found of the sets is what the history tells
pub quorum_found : (t : Shape) (g : ℕ) (h : History) (drawn : Drawn) (touched acks : SmallSet) → ((p : ℕ) → p < t.partitions → has touched p ≡ touches t drawn.transaction p)
    → ((p c : ℕ) → p < t.partitions → c < t.centres → is_acked acks p c ≡ acked g drawn.version c p h) → lacks_quorum_of t touched acks ≡ lacks_quorum t g h drawn
quorum_found t g h drawn touched acks parts nodes =
    any_same (few_acks t touched acks) (λ p. touches t drawn.transaction p && nat_lt (ackers t g drawn.version p h) t.write) t.partitions
    (λ p less. rw (parts p less, weight_same t (is_acked acks p) (λ c. acked g drawn.version c p h) (λ c inside. nodes p c less inside)) refl)

pub copies_found : (t : Shape) (g : ℕ) (h : History) (drawn : Drawn) (touched acks : SmallSet) → ((p : ℕ) → p < t.partitions → has touched p ≡ touches t drawn.transaction p)
    → ((p c : ℕ) → p < t.partitions → c < t.centres → is_acked acks p c ≡ acked g drawn.version c p h) → lacks_copies_of t touched acks ≡ lacks_copies t g h drawn
copies_found t g h drawn touched acks parts nodes =
    any_same (some_copy_lacks t touched acks) (λ p. touches t drawn.transaction p && not (all_below (λ c. acked g drawn.version c p h) t.centres)) t.partitions
    (λ p less. rw (parts p less, all_same (is_acked acks p) (λ c. acked g drawn.version c p h) t.centres (λ c inside. nodes p c less inside)) refl)

module _ (t : Shape) (g : ℕ) (h more : History) (drawn : Drawn) where
  -- the same acknowledgements
  pub quorum_same : ((c p : ℕ) → acked g drawn.version c p more ≡ acked g drawn.version c p h) → lacks_quorum t g more drawn ≡ lacks_quorum t g h drawn
  quorum_same same =
      any_same (λ p. touches t drawn.transaction p && nat_lt (ackers t g drawn.version p more) t.write) (λ p. touches t drawn.transaction p && nat_lt (ackers t g drawn.version p h) t.write) t.partitions
      (λ p less. rw (weight_same t (λ c. acked g drawn.version c p more) (λ c. acked g drawn.version c p h) (λ c inside. same c p)) refl)

  pub copies_same : ((c p : ℕ) → acked g drawn.version c p more ≡ acked g drawn.version c p h) → lacks_copies t g more drawn ≡ lacks_copies t g h drawn
  copies_same same =
      any_same (λ p. touches t drawn.transaction p && not (all_below (λ c. acked g drawn.version c p more) t.centres)) (λ p. touches t drawn.transaction p && not (all_below (λ c. acked g drawn.version c p h) t.centres)) t.partitions
      (λ p less. rw (all_same (λ c. acked g drawn.version c p more) (λ c. acked g drawn.version c p h) t.centres (λ c inside. same c p)) refl)

  -- what is not lacked is not lacked with more acknowledgements
  pub quorum_stays : ((c p : ℕ) → acked g drawn.version c p h ≡ true → acked g drawn.version c p more ≡ true) → lacks_quorum t g h drawn ≡ false → lacks_quorum t g more drawn ≡ false
  quorum_stays grow none =
      none_less (λ p. touches t drawn.transaction p && nat_lt (ackers t g drawn.version p h) t.write) (λ p. touches t drawn.transaction p && nat_lt (ackers t g drawn.version p more) t.write) t.partitions
      (λ p. by (touches t drawn.transaction p) (ackers t g drawn.version p h) (ackers t g drawn.version p more) (weight_more t (λ c. acked g drawn.version c p h) (λ c. acked g drawn.version c p more) (λ c. grow c p))) none
    where
      by : (b : Bool) (few many : ℕ) → few ≤ many → (b && nat_lt few t.write) ≡ false → (b && nat_lt many t.write) ≡ false
      by false few many under is = refl
      by true few many under is = let enough = ltb-false few t.write is in le-ltb many t.write (omega (arith, under, enough))

  pub copies_stay : ((c p : ℕ) → acked g drawn.version c p h ≡ true → acked g drawn.version c p more ≡ true) → lacks_copies t g h drawn ≡ false → lacks_copies t g more drawn ≡ false
  copies_stay grow none =
      none_less (λ p. touches t drawn.transaction p && not (all_below (λ c. acked g drawn.version c p h) t.centres)) (λ p. touches t drawn.transaction p && not (all_below (λ c. acked g drawn.version c p more) t.centres)) t.partitions
      (λ p. by (touches t drawn.transaction p) (all_below (λ c. acked g drawn.version c p h) t.centres) (all_below (λ c. acked g drawn.version c p more) t.centres) (all_more (λ c. acked g drawn.version c p h) (λ c. acked g drawn.version c p more) t.centres (λ c. grow c p))) none
    where
      by : (b few many : Bool) → (few ≡ true → many ≡ true) → (b && not few) ≡ false → (b && not many) ≡ false
      by false few many more_ is = refl
      by true true many more_ is = rw (more_ refl) refl
      by true false many more_ is = absurd cc

-- ---- one more entry

-- What an entry of the gateway leaves as it was: the acknowledgements, the replies, and which commands have begun; and the last time
-- does not fall.
pub record Leaves (g : ℕ) (h more : History) : Type 0 where
  pub acks : (v c p : ℕ) → acked g v c p more ≡ acked g v c p h
  pub replies : (s c : ℕ) → replied_to g s c more ≡ replied_to g s c h
  pub begins : (s : ℕ) → begun s (events_of g more) ≡ begun s (events_of g h)
  pub times : last g h ≤ last g more

-- what is kept of a version is kept over an entry that leaves all that
pub tracks_on : (t : Shape) (g : ℕ) (h more : History) (latest : List (Option ℕ)) (drawn : Drawn) (one : Tracked) → Leaves g h more → Tracks t g h latest drawn one → Tracks t g more latest drawn one
tracks_on t g h more latest drawn one leaves tracks = record {
  version_is = tracks.version_is;
  session_is = tracks.session_is;
  seq_is = tracks.seq_is;
  touched_is = tracks.touched_is;
  acked_is = λ p c inside there. tracks.acked_is p c inside there ∙ sym (leaves.acks drawn.version c p);
  quorum_is = tracks.quorum_is ∙ sym (quorum_same t g h more drawn (λ c p. leaves.acks drawn.version c p));
  copies_is = tracks.copies_is ∙ sym (copies_same t g h more drawn (λ c p. leaves.acks drawn.version c p));
  reply_is = tracks.reply_is ∙ sym (ap not (leaves.replies drawn.session drawn.seq));
  early = omega (arith, tracks.early, leaves.times);
  within = rw (leaves.begins drawn.session) tracks.within;
  latest_is = rw (leaves.begins drawn.session) tracks.latest_is;
}

-- ---- lists

-- what holds of each that is kept holds of each after one more entry
pub all_on : (t : Shape) (g : ℕ) (h more : History) (latest newest : List (Option ℕ)) → ((drawn : Drawn) (one : Tracked) → Tracks t g h latest drawn one → Tracks t g more newest drawn one)
    → (ds : List Drawn) (ones : List Tracked) → TracksAll t g h latest ds ones → TracksAll t g more newest ds ones
all_on t g h more latest newest on [] [] all = tt
all_on t g h more latest newest on (d ∷ ds) (one ∷ ones) all = (on d one all.0, all_on t g h more latest newest on ds ones all.1)
all_on t g h more latest newest on [] (one ∷ ones) all = absurd all
all_on t g h more latest newest on (d ∷ ds) [] all = absurd all

-- and after a change of each
pub all_changed : (t : Shape) (g : ℕ) (h more : History) (latest : List (Option ℕ)) (f : Tracked → Tracked) → ((drawn : Drawn) (one : Tracked) → Tracks t g h latest drawn one → Tracks t g more latest drawn (f one))
    → (ds : List Drawn) (ones : List Tracked) → TracksAll t g h latest ds ones → TracksAll t g more latest ds (map f ones)
all_changed t g h more latest f on [] [] all = tt
all_changed t g h more latest f on (d ∷ ds) (one ∷ ones) all = (on d one all.0, all_changed t g h more latest f on ds ones all.1)
all_changed t g h more latest f on [] (one ∷ ones) all = absurd all
all_changed t g h more latest f on (d ∷ ds) [] all = absurd all

-- one more that is kept
pub all_pushed : (t : Shape) (g : ℕ) (h : History) (latest : List (Option ℕ)) (drawn : Drawn) (one : Tracked) → Tracks t g h latest drawn one
    → (ds : List Drawn) (ones : List Tracked) → TracksAll t g h latest ds ones → TracksAll t g h latest (ds ++ drawn ∷ []) (ones ++ one ∷ [])
all_pushed t g h latest drawn one new [] [] all = (new, tt)
all_pushed t g h latest drawn one new (d ∷ ds) (o ∷ ones) all = (all.0, all_pushed t g h latest drawn one new ds ones all.1)
all_pushed t g h latest drawn one new [] (o ∷ ones) all = absurd all
all_pushed t g h latest drawn one new (d ∷ ds) [] all = absurd all

-- all that are kept are earlier than a version of a later time
pub all_early : (t : Shape) (g : ℕ) (h : History) (latest : List (Option ℕ)) (v : ℕ) → last g h < time_of v → (ds : List Drawn) (ones : List Tracked) → TracksAll t g h latest ds ones
    → AllByRecursion (λ (one : Tracked). one.version < v) ones
all_early t g h latest v late [] [] all = tt
all_early t g h latest v late (d ∷ ds) (one ∷ ones) all =
    let tracks = all.0 in
    let same : one.version ≡ d.version = tracks.version_is in
    let early : time_of d.version ≤ last g h = tracks.early in
    (rw same (less d.version v (omega (arith, early, late))), all_early t g h latest v late ds ones all.1)
  where
    less : (a b : ℕ) → time_of a < time_of b → a < b
    less a b under = omega (arith, under)
all_early t g h latest v late [] (one ∷ ones) all = absurd all
all_early t g h latest v late (d ∷ ds) [] all = absurd all

-- versions that rise still rise with one more that is later than all
pub rises_pushed : (one : Tracked) (ones : List Tracked) → Rises ones → AllByRecursion (λ (other : Tracked). other.version < one.version) ones → Rises (ones ++ one ∷ [])
rises_pushed one [] rises all = (tt, tt)
rises_pushed one (o ∷ ones) rises all = (push o ones rises.0 all.0, rises_pushed one ones rises.1 all.1)
  where
    push : (o : Tracked) (xs : List Tracked) → AllByRecursion (λ (other : Tracked). o.version < other.version) xs → o.version < one.version → AllByRecursion (λ (other : Tracked). o.version < other.version) (xs ++ one ∷ [])
    push o [] each less = (less, tt)
    push o (x ∷ xs) each less = (each.0, push o xs each.1 less)

-- versions that rise still rise where a change keeps each version
pub rises_changed : (f : Tracked → Tracked) → ((one : Tracked) → (f one).version ≡ one.version) → (ones : List Tracked) → Rises ones → Rises (map f ones)
rises_changed f keeps [] rises = tt
rises_changed f keeps (one ∷ ones) rises = (each one ones rises.0, rises_changed f keeps ones rises.1)
  where
    each : (o : Tracked) (xs : List Tracked) → AllByRecursion (λ (other : Tracked). o.version < other.version) xs → AllByRecursion (λ (other : Tracked). (f o).version < other.version) (map f xs)
    each o [] all = tt
    each o (x ∷ xs) all = (rw (keeps o, keeps x) all.0, each o xs all.1)

-- ---- the least that is held down

-- the least of a number and of the drawn versions that are held down, in the order in which they were drawn
least_drawn : (Drawn → Bool) → ℕ → List Drawn → ℕ
least_drawn held top [] = top
least_drawn held top (d ∷ ds) = lowered held (Some d) (least_drawn held top ds)

least_push : (held : Drawn → Bool) (top : ℕ) (ds : List Drawn) (d : Drawn) → least_drawn held top (ds ++ d ∷ []) ≡ lowered held (Some d) (least_drawn held top ds)
unfolding least_drawn
least_push held top [] d = refl
least_push held top (x ∷ ds) d = let rest = least_push held top ds d in rw rest (by (held x) (held d) (least_drawn held top ds))
  where
    by : (b c : Bool) (n : ℕ) → (if b then min x.version (if c then min d.version n else n) else (if c then min d.version n else n)) ≡ (if c then min d.version (if b then min x.version n else n) else (if b then min x.version n else n))
    by true true n = omega arith
    by true false n = refl
    by false true n = refl
    by false false n = refl

-- a mark of the history is the least of what was drawn
lowest_drawn : (g : ℕ) (held : Drawn → Bool) (top : ℕ) (h : History) → lowest g held top h ≡ least_drawn held top (draws g h)
unfolding least_drawn
lowest_drawn g held top [] = refl
lowest_drawn g held top (e ∷ h) = by (draw_of g e) (lowest_drawn g held top h)
  where
    by : (o : Option Drawn) → lowest g held top h ≡ least_drawn held top (draws g h) → lowered held o (lowest g held top h) ≡ least_drawn held top (draws g h ++ listed o)
    by None rest = rest ∙ ap (least_drawn held top) (sym (append-nil (draws g h)))
    by (Some d) rest = ap (lowered held (Some d)) rest ∙ sym (least_push held top (draws g h) d)

-- the least of what is kept is the least of what was drawn
least_kept : (t : Shape) (g : ℕ) (h : History) (latest : List (Option ℕ)) (mark : Mark) (held : Drawn → Bool) (top : ℕ)
    → ((drawn : Drawn) (one : Tracked) → Tracks t g h latest drawn one → lacks mark one ≡ held drawn) → (ds : List Drawn) (ones : List Tracked) → TracksAll t g h latest ds ones
    → least_held mark top ones ≡ least_drawn held top ds
unfolding least_drawn
least_kept t g h latest mark held top same [] [] all = refl
least_kept t g h latest mark held top same (d ∷ ds) (one ∷ ones) all =
    let rest = least_kept t g h latest mark held top same ds ones all.1 in
    let here = same d one all.0 in
    let tracks = all.0 in
    let version : one.version ≡ d.version = tracks.version_is in
    rw (rest, here, version) refl
least_kept t g h latest mark held top same [] (one ∷ ones) all = absurd all
least_kept t g h latest mark held top same (d ∷ ds) [] all = absurd all

-- a mark of the history is the least of what is kept
pub lowest_kept : (t : Shape) (g : ℕ) (h : History) (latest : List (Option ℕ)) (mark : Mark) (held : Drawn → Bool) (top : ℕ)
    → ((drawn : Drawn) (one : Tracked) → Tracks t g h latest drawn one → lacks mark one ≡ held drawn) → (ones : List Tracked) → TracksAll t g h latest (draws g h) ones
    → least_held mark top ones ≡ lowest g held top h
lowest_kept t g h latest mark held top same ones all = least_kept t g h latest mark held top same (draws g h) ones all ∙ sym (lowest_drawn g held top h)
