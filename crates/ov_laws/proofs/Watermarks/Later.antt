-- What no later entry changes: a final watermark stays final, and the serial map up to it stays.
use Rattle.std.proofs.Common.{◌≡◌, ℕ, zero, suc, ◌+◌, ◌≤◌, ◌<◌, true, inl, inr, Option, Some, None, List, [], ◌∷◌, ◌++◌, refl, ◌∙◌, arith}
use Rattle.std.proofs.lemmas.Grind.{common_steps}
use Rattle.std.proofs.lemmas.Bool.{ne_eqb}
use Rattle.ov_base.specs.Version.{number}
use Rattle.ov_functor.specs.declared.part.Part.{Part}
use Rattle.ov_functor.specs.Serial.{serial}
use Rattle.ov_topology.specs.Shape.{Shape}
use Rattle.ov_topology.specs.declared.actor.Actor.{Actor}
use Rattle.ov_topology.specs.declared.actor.Actor.TheVariants.{Gate, Node, Settler}
use Rattle.ov_event.specs.declared.entry.Entry.{Entry}
use Rattle.ov_event.specs.declared.kind.Kind.{Kind}
use Rattle.ov_event.specs.declared.kind.Kind.TheVariants.{Began}
use Rattle.ov_history.specs.Past.{History}
use Rattle.ov_history.specs.Draws.{Drawn, drawn_in, draw_of, time_by, last}
use Rattle.ov_laws.specs.Draws.{Drew}
use Rattle.ov_laws.specs.Holders.{stored, holders, all_hold}
use Rattle.ov_history.specs.May.{Setting, Guard, May, Lawful}
use Rattle.ov_laws.specs.Final.{IsClosed, Final, FinalAll, IsBelow}
use Rattle.ov_history.specs.Serial.{begun_as, or_begun, begun_at, serial_at}
use Rattle.ov_laws.proofs.History.Gathered.{greatest_grows}
use Rattle.ov_history.proofs.Counting.{all_more, weight_more}
use Rattle.ov_laws.proofs.Watermarks.Known.{draw_late}
use Rattle.ov_laws.proofs.Watermarks.Finals.{stored_stays, draw_known}

-- a closed watermark stays closed
pub closed_stays : (t : Shape) (h more : History) (w : ℕ) → IsClosed t h w → IsClosed t (more ++ h) w
closed_stays t h more w closed g known =
    let under : w ≤ number (last g h + 1) g = closed g known in
    let grown : last g h ≤ last g (more ++ h) = greatest_grows (time_by g) more h in
    omega (arith, under, grown)

-- the next draw is not below a closed watermark
pub draw_above : (t : Setting) (h : History) (e : Entry) (g : ℕ) (drawn : Drawn) (w : ℕ) → IsClosed t.topology h w → May t h e → draw_of g e ≡ Some drawn → w ≤ drawn.version
draw_above t h e g drawn w closed may drew =
    let under : w ≤ number (last g h + 1) g = closed g (draw_known t h e g drawn may drew) in
    let late : number (last g h + 1) g ≤ drawn.version = draw_late t h e.actor e.kind g drawn may.guard drew in
    omega (arith, under, late)

-- each later draw is not below a closed watermark
pub later_draw_above : (t : Setting) (h more : History) (e : Entry) (g : ℕ) (drawn : Drawn) (w : ℕ)
    → IsClosed t.topology h w → Lawful t (e ∷ more ++ h) → draw_of g e ≡ Some drawn → w ≤ drawn.version
later_draw_above t h more e g drawn w closed lawful drew = draw_above t (more ++ h) e g drawn w (closed_stays t.topology h more w closed) lawful.1 drew

-- what was drawn below a watermark before an entry
still_below : (t : Shape) (h : History) (w : ℕ) (e : Entry) (drawn : Drawn) (p : ℕ) (is : IsBelow t (e ∷ h) w drawn p) → Drew is.gate drawn h → IsBelow t h w drawn p
still_below t h w e drawn p is old = record { gate = is.gate; known = is.known; drew = old; less = is.less; inside = is.inside; touched = is.touched }

-- an entry that may follow keeps a final watermark
final_step : (t : Setting) (h : History) (e : Entry) (w : ℕ) → Final t.topology h w → May t h e → Final t.topology (e ∷ h) w
final_step t h e w final may = record {
  held = λ drawn p is. by drawn p is is.drew;
  closed = closed_stays t.topology h (e ∷ []) w final.closed;
}
  where
    by : (drawn : Drawn) (p : ℕ) (is : IsBelow t.topology (e ∷ h) w drawn p) → Drew is.gate drawn (e ∷ h) → t.topology.write ≤ holders t.topology drawn.version p (e ∷ h)
    by drawn p is (inl new) =
        let above : w ≤ drawn.version = draw_above t h e is.gate drawn w final.closed may new in
        absurd (omega (arith, above, is.less))
    by drawn p is (inr old) =
        let had : t.topology.write ≤ holders t.topology drawn.version p h = final.held drawn p (still_below t.topology h w e drawn p is old) in
        let more : holders t.topology drawn.version p h ≤ holders t.topology drawn.version p (e ∷ h) =
        weight_more t.topology (λ c. stored c p drawn.version h) (λ c. stored c p drawn.version (e ∷ h)) (λ c yet. stored_stays c p drawn.version e h yet) in
        omega (arith, had, more)

-- a final watermark stays final
pub final_later : (t : Setting) (h more : History) (w : ℕ) → Final t.topology h w → Lawful t (more ++ h) → Final t.topology (more ++ h) w
final_later t h [] w final lawful = final
final_later t h (e ∷ more) w final lawful = final_step t (more ++ h) e w (final_later t h more w final lawful.0) lawful.1

-- an entry that may follow keeps a watermark that is final for all copies
final_all_step : (t : Setting) (h : History) (e : Entry) (w : ℕ) → FinalAll t.topology h w → May t h e → FinalAll t.topology (e ∷ h) w
final_all_step t h e w final may = record {
  held = λ drawn p is. by drawn p is is.drew;
  closed = closed_stays t.topology h (e ∷ []) w final.closed;
}
  where
    by : (drawn : Drawn) (p : ℕ) (is : IsBelow t.topology (e ∷ h) w drawn p) → Drew is.gate drawn (e ∷ h) → all_hold t.topology drawn.version p (e ∷ h) ≡ true
    by drawn p is (inl new) =
        let above : w ≤ drawn.version = draw_above t h e is.gate drawn w final.closed may new in
        absurd (omega (arith, above, is.less))
    by drawn p is (inr old) =
        all_more (λ c. stored c p drawn.version h) (λ c. stored c p drawn.version (e ∷ h)) t.topology.centres
        (λ c yet. stored_stays c p drawn.version e h yet) (final.held drawn p (still_below t.topology h w e drawn p is old))

-- a watermark that is final for all copies stays so
pub final_all_later : (t : Setting) (h more : History) (w : ℕ) → FinalAll t.topology h w → Lawful t (more ++ h) → FinalAll t.topology (more ++ h) w
final_all_later t h [] w final lawful = final
final_all_later t h (e ∷ more) w final lawful = final_all_step t (more ++ h) e w (final_all_later t h more w final lawful.0) lawful.1

-- ---- the serial map

-- what an entry that may follow draws, its gateway draws
pub drawn_by_gate : (t : Setting) (h : History) (a : Actor) (k : Kind) (drawn : Drawn) → Guard t h a k → drawn_in k ≡ Some drawn
    → (g : ℕ) × (draw_of g (record { actor = a; kind = k }) ≡ Some drawn)
drawn_by_gate t h (Gate g) (Began session seq start) drawn guard is = (g, grind (arith, common_steps))
drawn_by_gate t h (Node c p) (Began session seq start) drawn guard is = absurd guard
drawn_by_gate t h (Settler s) (Began session seq start) drawn guard is = absurd guard
drawn_by_gate t h a k drawn guard is = absurd (cc)

-- an entry that may follow begins nothing below a closed watermark
begun_step : (t : Setting) (h : History) (e : Entry) (w : ℕ) → IsClosed t.topology h w → May t h e → (version : ℕ) → version < w → begun_at (e ∷ h) version ≡ begun_at h version
begun_step t h e w closed may version less = by (drawn_in e.kind) refl
  where
    by : (o : Option Drawn) → drawn_in e.kind ≡ o → or_begun (begun_as version o) (begun_at h version) ≡ begun_at h version
    by None is = refl
    by (Some drawn) is =
        let own = drawn_by_gate t h e.actor e.kind drawn may.guard is in
        let above : w ≤ drawn.version = draw_above t h e own.0 drawn w closed may own.1 in
        rw (ne_eqb drawn.version version (λ same. omega (arith, above, less, same))) refl

-- what is begun below a closed watermark stays
pub begun_later : (t : Setting) (h more : History) (w : ℕ) → IsClosed t.topology h w → Lawful t (more ++ h)
    → (version : ℕ) → version < w → begun_at (more ++ h) version ≡ begun_at h version
begun_later t h [] w closed lawful version less = refl
begun_later t h (e ∷ more) w closed lawful version less =
    begun_step t (more ++ h) e w (closed_stays t.topology h more w closed) lawful.1 version less ∙ begun_later t h more w closed lawful.0 version less

-- the serial map just below a number depends on what is begun below it alone
pub serial_same : (f g : ℕ → Option (List Part)) (n : ℕ) → ((version : ℕ) → version < n → f version ≡ g version) → serial f n ≡ serial g n
serial_same f g zero same = refl
serial_same f g (suc version) same =
    let here : f version ≡ g version = same version (omega arith) in
    let rest : serial f version ≡ serial g version = serial_same f g version (λ v less. same v (omega (arith, less))) in
    rw (here, rest) refl

-- the serial map up to a closed watermark stays
pub serial_later : (t : Setting) (h more : History) (w n : ℕ) → IsClosed t.topology h w → Lawful t (more ++ h) → n ≤ w → serial_at (more ++ h) n ≡ serial_at h n
serial_later t h more w n closed lawful le =
    serial_same (begun_at (more ++ h)) (begun_at h) n (λ version less. begun_later t h more w closed lawful version (omega (arith, le, less)))
