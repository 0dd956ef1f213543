-- Lists of drawn versions: where the first that holds a mark down stands, and a change to the one of a version.
use Rattle.std.proofs.Common.{◌≡◌, ◌≢◌, ℕ, ◌+◌, ◌<◌, ◌≤◌, min, zero, suc, Bool, true, false, ◌==◌, Some, None, List, [], ◌∷◌, ◌++◌, length, map, get_or, refl, sym, ap, ◌∙◌, arith, inl, inr}
use Rattle.std.specs.Prelude.{slice_get, nat_lt, ◌&&◌, if◌then◌else◌}
use Rattle.std.specs.List.{AllByRecursion}
use Rattle.std.proofs.Math.ListN.{set}
use Rattle.std.proofs.lemmas.Bool.{cases_Bool, ltb-true, ltb-false, lt-ltb, eq-eqb}
use Rattle.std.proofs.lemmas.Bool.Decides.{eqb_tells}
use Rattle.std.proofs.lemmas.Grind.{common_steps}
use Rattle.ov_topology.specs.Shape.{Shape}
use Rattle.ov_base.specs.Small.{with_number}
use Rattle.ov_gate.specs.Tracked.{node_number, recounted, with_ack, with_reply, lacks}
use Rattle.ov_gate.specs.Tracker.{Rises, first_held, least_held, at_version, earlier, IsPlace}
use Rattle.ov_gate.specs.declared.tracked.Mark.{Mark}
use Rattle.ov_gate.specs.declared.tracked.Mark.TheVariants.{Low, Full, Done}
use Rattle.ov_gate.specs.declared.tracked.Tracked.{Tracked}

-- what is earlier than all is earlier than each
before_each : (w : ℕ) (xs : List Tracked) (i : ℕ) (x : Tracked) → AllByRecursion (λ (other : Tracked). w < other.version) xs → i < length xs → x ≡ get_or xs i x → w < x.version
before_each w [] i x all less is = absurd (omega (arith, less))
before_each w (y ∷ xs) zero x all less is = let same : x ≡ y = is in rw same all.0
before_each w (y ∷ xs) (suc i) x all less is = before_each w xs i x all.1 (omega (arith, less)) is

-- an element of a list, by its place
slice_get-from_get_or : (xs : List Tracked) (i : ℕ) (x : Tracked) → i < length xs → x ≡ get_or xs i x → slice_get xs i ≡ Some x
slice_get-from_get_or [] i x less is = absurd (omega (arith, less))
slice_get-from_get_or (y ∷ xs) zero x less is = let same : x ≡ y = is in ap (λ (o : Tracked). Some o) (sym same)
slice_get-from_get_or (y ∷ xs) (suc i) x less is = slice_get-from_get_or xs i x (omega (arith, less)) is

-- ---- the first that holds a mark down

pub first_within : (mark : Mark) (xs : List Tracked) → first_held mark xs ≤ length xs
first_within mark [] = omega arith
first_within mark (x ∷ xs) = let rest = first_within mark xs in grind (arith, common_steps)

-- one that holds the mark down stands not before the first
pub first_here : (mark : Mark) (xs : List Tracked) (i : ℕ) (x : Tracked) → i < length xs → x ≡ get_or xs i x → lacks mark x ≡ true → first_held mark xs ≤ i
first_here mark [] i x less is held = absurd (omega (arith, less))
first_here mark (y ∷ xs) zero x less is held = let same : x ≡ y = is in rw (sym same, held) (omega arith)
first_here mark (y ∷ xs) (suc i) x less is held =
    let rest = first_here mark xs i x (omega (arith, less)) is held in
    elim (cases_Bool (lacks mark y)) [ inl here ↦ rw here (omega arith) | inr past ↦ rw past (omega (arith, rest)) ]

-- where none before a place holds the mark down, nor the one there, none up to it does
pub first_past : (mark : Mark) (xs : List Tracked) (i : ℕ) (x : Tracked) → i < length xs → x ≡ get_or xs i x → lacks mark x ≡ false → i ≤ first_held mark xs → i + 1 ≤ first_held mark xs
first_past mark [] i x less is clear before = absurd (omega (arith, less))
first_past mark (y ∷ xs) zero x less is clear before = let same : x ≡ y = is in rw (sym same, clear) (omega arith)
first_past mark (y ∷ xs) (suc i) x less is clear before =
    let rest = first_past mark xs i x (omega (arith, less)) is clear in
    elim (cases_Bool (lacks mark y)) [
      | inl here ↦ let none : suc i ≤ 0 = rw here at before in absurd (omega (arith, none))
      | inr past ↦ let more : suc i ≤ suc (first_held mark xs) = rw past at before in rw past (let r = rest (omega (arith, more)) in omega (arith, r))
    ]

-- one more at the end
pub first_push : (mark : Mark) (xs : List Tracked) (x : Tracked) → first_held mark xs ≤ first_held mark (xs ++ x ∷ [])
first_push mark [] x = omega arith
first_push mark (y ∷ xs) x = let rest = first_push mark xs x in elim (cases_Bool (lacks mark y)) [ inl here ↦ rw here (omega arith) | inr past ↦ rw past (omega (arith, rest)) ]

-- a change of one that leaves clear what was clear
pub first_set : (mark : Mark) (xs : List Tracked) (i : ℕ) (x y : Tracked) → x ≡ get_or xs i x → (lacks mark x ≡ false → lacks mark y ≡ false) → first_held mark xs ≤ first_held mark (set xs i y)
first_set mark [] i x y is keeps = omega arith
first_set mark (z ∷ xs) zero x y is keeps =
    let same : x ≡ z = is in
    elim (cases_Bool (lacks mark z)) [
      | inl here ↦ rw here (omega arith)
      | inr past ↦ rw (past, keeps (ap (lacks mark) same ∙ past)) (omega arith)
    ]
first_set mark (z ∷ xs) (suc i) x y is keeps =
    let rest = first_set mark xs i x y is keeps in
    elim (cases_Bool (lacks mark z)) [ inl here ↦ rw here (omega arith) | inr past ↦ rw past (omega (arith, rest)) ]

-- ---- the least that holds a mark down

-- below all that follow none of them counts
least_under : (mark : Mark) (top v : ℕ) (xs : List Tracked) → AllByRecursion (λ (other : Tracked). v < other.version) xs → min v (least_held mark top xs) ≡ min v top
least_under mark top v [] all = refl
least_under mark top v (x ∷ xs) all =
    let rest = least_under mark top v xs all.1 in
    elim (cases_Bool (lacks mark x)) [ inl here ↦ rw here (omega (arith, rest, all.0)) | inr past ↦ rw past rest ]

-- where the versions rise the first counts alone
pub least_none : (mark : Mark) (top : ℕ) (xs : List Tracked) → length xs ≤ first_held mark xs → least_held mark top xs ≡ top
least_none mark top [] past = refl
least_none mark top (x ∷ xs) past =
    elim (cases_Bool (lacks mark x)) [
      | inl here ↦ let none : length (x ∷ xs) ≤ 0 = rw here at past in absurd (omega (arith, none))
      | inr clear ↦ let more : length (x ∷ xs) ≤ suc (first_held mark xs) = rw clear at past in rw clear (least_none mark top xs (omega (arith, more)))
    ]

pub least_first : (mark : Mark) (top : ℕ) (xs : List Tracked) (x : Tracked) → Rises xs → slice_get xs (first_held mark xs) ≡ Some x → least_held mark top xs ≡ min x.version top
least_first mark top [] x rises is = absurd cc
least_first mark top (y ∷ xs) x rises is =
    elim (cases_Bool (lacks mark y)) [
      | inl here ↦ let same : y ≡ x = let e = rw here at is in cc in rw (here, least_under mark top y.version xs rises.0) (ap (λ (o : Tracked). min o.version top) same)
      | inr clear ↦ rw clear (least_first mark top xs x rises.1 (rw clear at is))
    ]

-- ---- a search

-- one that is earlier, where the versions rise, has only earlier ones before it
pub earlier_past : (v : ℕ) (xs : List Tracked) (i : ℕ) (x : Tracked) → Rises xs → i < length xs → x ≡ get_or xs i x → x.version < v → i + 1 ≤ earlier v xs
earlier_past v [] i x rises less is early = absurd (omega (arith, less))
earlier_past v (y ∷ xs) zero x rises less is early = let same : x ≡ y = is in rw (sym same, lt-ltb x.version v early) (omega arith)
earlier_past v (y ∷ xs) (suc i) x rises less is early =
    let rest = earlier_past v xs i x rises.1 (omega (arith, less)) is early in
    let first : y.version < x.version = before_each y.version xs i x rises.0 (omega (arith, less)) is in
    rw (lt-ltb y.version v (omega (arith, first, early))) (omega (arith, rest))

-- one that is not earlier has at most those before it as earlier ones
pub earlier_here : (v : ℕ) (xs : List Tracked) (i : ℕ) (x : Tracked) → i < length xs → x ≡ get_or xs i x → v ≤ x.version → earlier v xs ≤ i
earlier_here v [] i x less is late = absurd (omega (arith, less))
earlier_here v (y ∷ xs) zero x less is late = let same : x ≡ y = is in rw (sym same) (by (nat_lt x.version v) refl)
  where
    by : (b : Bool) → nat_lt x.version v ≡ b → (if b then suc (earlier v xs) else 0) ≤ 0
    by true early = let e = ltb-true x.version v early in absurd (omega (arith, e, late))
    by false not_early = omega arith
earlier_here v (y ∷ xs) (suc i) x less is late =
    let rest = earlier_here v xs i x (omega (arith, less)) is late in
    elim (cases_Bool (nat_lt y.version v)) [ inl here ↦ rw here (omega (arith, rest)) | inr past ↦ rw past (omega arith) ]

pub earlier_within : (v : ℕ) (xs : List Tracked) → earlier v xs ≤ length xs
earlier_within v [] = omega arith
earlier_within v (x ∷ xs) = let rest = earlier_within v xs in grind (arith, common_steps)

-- later ones are not of an earlier version
later_lacks : (v : ℕ) (xs : List Tracked) (w : ℕ) → v ≤ w → AllByRecursion (λ (other : Tracked). w < other.version) xs → AllByRecursion (λ (one : Tracked). one.version ≢ v) xs
later_lacks v [] w under all = tt
later_lacks v (x ∷ xs) w under all = (λ same. absurd (omega (arith, under, same, all.0)), later_lacks v xs w under all.1)

-- where those that are earlier are all, the version is not there
pub lacks_past : (v : ℕ) (xs : List Tracked) → length xs ≤ earlier v xs → AllByRecursion (λ (one : Tracked). one.version ≢ v) xs
lacks_past v [] past = tt
lacks_past v (x ∷ xs) past =
    elim (cases_Bool (nat_lt x.version v)) [
      | inl early ↦
          let e = ltb-true x.version v early in
          let more : length (x ∷ xs) ≤ suc (earlier v xs) = rw early at past in
          (λ same. absurd (omega (arith, e, same)), lacks_past v xs (omega (arith, more)))
      | inr late ↦ let none : length (x ∷ xs) ≤ 0 = rw late at past in absurd (omega (arith, none))
    ]

-- where the first that is not earlier is of another version, the version is not there
pub lacks_here : (v : ℕ) (xs : List Tracked) (x : Tracked) → Rises xs → earlier v xs < length xs → x ≡ get_or xs (earlier v xs) x → x.version ≢ v → AllByRecursion (λ (one : Tracked). one.version ≢ v) xs
lacks_here v [] x rises within is other = tt
lacks_here v (y ∷ xs) x rises within is other =
    elim (cases_Bool (nat_lt y.version v)) [
      | inl early ↦
          let e = ltb-true y.version v early in
          let more : suc (earlier v xs) < length (y ∷ xs) = rw early at within in
          let there : x ≡ get_or (y ∷ xs) (suc (earlier v xs)) x = rw early at is in
          (λ same. absurd (omega (arith, e, same)), lacks_here v xs x rises.1 (omega (arith, more)) there other)
      | inr late ↦
          let l = ltb-false y.version v late in
          let same : x ≡ y = rw late at is in
          let apart : y.version ≢ v = rw same at other in
          (apart, later_lacks v xs y.version l rises.0)
    ]

-- ---- a change to the one of a version

-- a version that is not there changes none
pub change_none : (v : ℕ) (f : Tracked → Tracked) (xs : List Tracked) → AllByRecursion (λ (one : Tracked). one.version ≢ v) xs → map (at_version v f) xs ≡ xs
change_none v f [] all = refl
change_none v f (x ∷ xs) all =
    let rest = change_none v f xs all.1 in
    elim (eqb_tells x.version v) [ inl same ↦ absurd (all.0 same.1) | inr other ↦ rw (other.0, rest) refl ]

-- a version that is there changes where it stands
pub change_one : (v : ℕ) (f : Tracked → Tracked) (xs : List Tracked) (i : ℕ) (x : Tracked) → Rises xs → i < length xs → x ≡ get_or xs i x → x.version ≡ v → map (at_version v f) xs ≡ set xs i (f x)
change_one v f [] i x rises less is same = absurd (omega (arith, less))
change_one v f (y ∷ xs) zero x rises less is same =
    let one : x ≡ y = is in
    let here : y.version ≡ v = ap (λ (o : Tracked). o.version) (sym one) ∙ same in
    let rest = change_none v f xs (later_lacks v xs y.version (omega (arith, here)) rises.0) in
    rw (eq-eqb y.version v here, rest) (ap (λ (o : Tracked). f o ∷ xs) (sym one))
change_one v f (y ∷ xs) (suc i) x rises less is same =
    let rest = change_one v f xs i x rises.1 (omega (arith, less)) is same in
    elim (eqb_tells y.version v) [
      | inl here ↦ absurd (apart (omega (arith, here.1, same)))
      | inr other ↦ rw (other.0, rest) refl
    ]
  where
    apart : x.version ≤ y.version → ⊥
    apart under = let b = before_each y.version xs i x rises.0 (omega (arith, less)) is in absurd (omega (arith, b, under))

-- ---- what the calls of a tracker leave

-- the first after one more at the end is not before it was
pub pushed : (mark : Mark) (xs ys : List Tracked) (x : Tracked) (place : ℕ) → place ≡ first_held mark xs → ys ≡ xs ++ x ∷ [] → place ≤ first_held mark ys
pushed mark xs ys x place at is = rw (is, at) (first_push mark xs x)

-- the first after a change of one that leaves clear what was clear is not before it was
pub changed : (mark : Mark) (xs ys : List Tracked) (i : ℕ) (x y : Tracked) (place : ℕ) → place ≡ first_held mark xs → ys ≡ set xs i y → x ≡ get_or xs i x → (lacks mark x ≡ false → lacks mark y ≡ false) → place ≤ first_held mark ys
changed mark xs ys i x y place at is there keeps = rw (is, at) (first_set mark xs i x y there keeps)

-- a change of one that leaves what it holds down leaves the first
pub first_same : (mark : Mark) (xs : List Tracked) (i : ℕ) (x y : Tracked) → x ≡ get_or xs i x → lacks mark y ≡ lacks mark x → first_held mark (set xs i y) ≡ first_held mark xs
first_same mark [] i x y is same = refl
first_same mark (z ∷ xs) zero x y is same = let one : x ≡ z = is in rw (same, one) refl
first_same mark (z ∷ xs) (suc i) x y is same = rw (first_same mark xs i x y is same) refl

-- a change of the one that was found
pub change_there : (v : ℕ) (f : Tracked → Tracked) (xs zs : List Tracked) (i : ℕ) (x y : Tracked) → zs ≡ xs → i < length zs → (Rises zs → IsPlace v zs (Some i)) → x ≡ get_or xs i x → y ≡ f x → Rises xs → set xs i y ≡ map (at_version v f) xs
change_there v f xs zs i x y same less at is made rises =
    let place : IsPlace v xs (Some i) = (rw same at at) rises in
    let less2 : i < length xs = rw same at less in
    rw made (sym (change_one v f xs i x rises less2 is (place x (slice_get-from_get_or xs i x less2 is))))

-- a change of one that was not found
pub change_lacking : (v : ℕ) (f : Tracked → Tracked) (xs zs : List Tracked) → zs ≡ xs → (Rises zs → IsPlace v zs None) → Rises xs → xs ≡ map (at_version v f) xs
change_lacking v f xs zs same at rises = let none : IsPlace v xs None = (rw same at at) rises in sym (change_none v f xs none)

-- an acknowledgement leaves clear what was clear
pub ack_keeps : (mark : Mark) (t : Shape) (c p : ℕ) (x y : Tracked) → y ≡ with_ack t c p x → lacks mark x ≡ false → lacks mark y ≡ false
ack_keeps mark t c p x y is clear = rw is (by mark (nat_lt c t.centres && nat_lt p t.partitions) clear)
  where
    by : (m : Mark) (b : Bool) → lacks m x ≡ false → lacks m (if b then recounted t (record x { acked = with_number (node_number c p) x.acked }) else x) ≡ false
    by Low true none = rw none refl
    by Full true none = rw none refl
    by Done true none = none
    by m false none = none

-- an acknowledgement leaves whether the reply is lacking
pub ack_reply : (t : Shape) (c p : ℕ) (x y : Tracked) → y ≡ with_ack t c p x → lacks Done y ≡ lacks Done x
ack_reply t c p x y is = rw is (by (nat_lt c t.centres && nat_lt p t.partitions))
  where
    by : (b : Bool) → lacks Done (if b then recounted t (record x { acked = with_number (node_number c p) x.acked }) else x) ≡ lacks Done x
    by true = refl
    by false = refl

-- a reply leaves clear what was clear
pub reply_keeps : (s c : ℕ) (x y : Tracked) → y ≡ with_reply s c x → lacks Done x ≡ false → lacks Done y ≡ false
reply_keeps s c x y is clear = rw is (by ((x.session == s) && (x.seq == c)))
  where
    by : (b : Bool) → lacks Done (if b then record x { lacks_reply = false } else x) ≡ false
    by true = refl
    by false = clear

-- a reply leaves what acknowledgements are lacking
pub reply_acks : (s c : ℕ) (x y : Tracked) → y ≡ with_reply s c x → (lacks Low y ≡ lacks Low x) × (lacks Full y ≡ lacks Full x)
reply_acks s c x y is = rw is (by ((x.session == s) && (x.seq == c)))
  where
    by : (b : Bool) → (lacks Low (if b then record x { lacks_reply = false } else x) ≡ lacks Low x) × (lacks Full (if b then record x { lacks_reply = false } else x) ≡ lacks Full x)
    by true = (refl, refl)
    by false = (refl, refl)

-- where the one at the place of a search is of another version, the version is not there
pub lacks_at : (v : ℕ) (xs : List Tracked) (i : ℕ) (x : Tracked) → Rises xs → i ≡ earlier v xs → i < length xs → x ≡ get_or xs i x → x.version ≢ v → AllByRecursion (λ (one : Tracked). one.version ≢ v) xs
lacks_at v xs i x rises at less is other = lacks_here v xs x rises (omega (arith, less, at)) (is ∙ ap (λ n. get_or xs n x) at) other

-- what the place of the first tells of the least
pub least_at : (mark : Mark) (top : ℕ) (xs : List Tracked) (i n : ℕ) (x : Tracked) → Rises xs → i ≡ first_held mark xs → i < length xs → x ≡ get_or xs i x → n ≡ x.version → min n top ≡ least_held mark top xs
least_at mark top xs i n x rises at less is number = rw number (sym (least_first mark top xs x rises (ap (slice_get xs) (sym at) ∙ slice_get-from_get_or xs i x less is)))

pub least_past : (mark : Mark) (top : ℕ) (xs : List Tracked) (i : ℕ) → i ≡ first_held mark xs → length xs ≤ i → top ≡ least_held mark top xs
least_past mark top xs i at past = sym (least_none mark top xs (omega (arith, past, at)))
