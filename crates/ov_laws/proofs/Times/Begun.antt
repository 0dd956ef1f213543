-- What is begun at a version is what a gateway of the topology drew, and each version is drawn once.
use Rattle.std.proofs.Common.{◌≡◌, ◌≢◌, ℕ, ◌+◌, ◌≤◌, ◌<◌, Bool, true, false, inl, inr, Option, Some, None, List, [], ◌∷◌, refl, sym, ap, subst, ◌∙◌, arith}
use Rattle.std.specs.Prelude.{if◌then◌else◌}
use Rattle.std.proofs.lemmas.Grind.{common_steps}
use Rattle.std.proofs.lemmas.Bool.Decides.{eqb_tells}
use Rattle.std.proofs.lemmas.Bool.{ne_eqb}
use Rattle.ov_base.specs.Version.{number, time_of, gate_of}
use Rattle.ov_functor.specs.declared.part.Part.{Part}
use Rattle.ov_functor.specs.declared.command.Command.{Command}
use Rattle.ov_functor.specs.declared.command.Command.TheVariants as commands
use Rattle.ov_topology.specs.Shape.{Shape, gates}
use Rattle.ov_topology.specs.declared.actor.Actor.{Actor}
use Rattle.ov_topology.specs.declared.actor.Actor.TheVariants.{Gate}
use Rattle.ov_event.specs.declared.entry.Entry.{Entry}
use Rattle.ov_event.specs.declared.kind.Kind.{Kind}
use Rattle.ov_event.specs.declared.kind.Kind.TheVariants.{Began}
use Rattle.ov_event.specs.declared.start.Start.TheVariants.{Draw}
use Rattle.ov_event.specs.Letters.{touches, is_gate}
use Rattle.ov_history.specs.Past.{History}
use Rattle.ov_history.specs.Counts.{all_below}
use Rattle.ov_laws.specs.Holders.{stored, holders}
use Rattle.ov_laws.specs.Final.{Final, FinalAll}
use Rattle.ov_history.specs.Draws.{Drawn, drawn_in, draw_of, last}
use Rattle.ov_laws.specs.Draws.{Drew}
use Rattle.ov_history.specs.May.{Setting, Guard, May, Lawful, StartsAs}
use Rattle.ov_history.specs.Serial.{begun_as, or_begun, begun_at}
use Rattle.ov_laws.proofs.Watermarks.Known.{draw_late}
use Rattle.ov_laws.proofs.Watermarks.Finals.{draw_known}
use Rattle.ov_laws.proofs.Watermarks.Later.{drawn_by_gate}

-- what a gateway drew is not later than its last time
pub drew_early : (g : ℕ) (drawn : Drawn) (h : History) → Drew g drawn h → time_of drawn.version ≤ last g h
drew_early g drawn [] drew = absurd drew
drew_early g drawn (e ∷ h) (inl new) = grind (arith, common_steps)
drew_early g drawn (e ∷ h) (inr old) = let rest : time_of drawn.version ≤ last g h = drew_early g drawn h old in grind (arith)

-- a draw that may follow has a version of its gateway
pub draw_own : (t : Setting) (h : History) (a : Actor) (k : Kind) (g : ℕ) (drawn : Drawn) → Guard t h a k → draw_of g (record { actor = a; kind = k }) ≡ Some drawn → gate_of drawn.version ≡ g
draw_own t h (Gate s) (Began session seq (Draw version transaction)) g drawn guard drew = by guard.ready.planned.command guard.starts
  where
    by : (command : Command) → StartsAs h s session command (Draw version transaction) → gate_of drawn.version ≡ g
    by (commands.Transact parts) starts = let own : gate_of version ≡ s = starts.1.own in grind (arith, common_steps)
    by (commands.Snap keys) starts = absurd starts
draw_own t h a k g drawn guard drew = absurd (grind (arith, common_steps))

-- what a gateway drew has a version of the gateway
pub drew_own : (t : Setting) (h : History) (g : ℕ) (drawn : Drawn) → Lawful t h → Drew g drawn h → gate_of drawn.version ≡ g
drew_own t [] g drawn lawful drew = absurd drew
drew_own t (e ∷ h) g drawn lawful (inl new) = draw_own t h e.actor e.kind g drawn lawful.1.guard new
drew_own t (e ∷ h) g drawn lawful (inr old) = drew_own t h g drawn lawful.0 old

-- a gateway that drew is one of the topology
pub drew_known : (t : Setting) (h : History) (g : ℕ) (drawn : Drawn) → Lawful t h → Drew g drawn h → g < gates t.topology
drew_known t [] g drawn lawful drew = absurd drew
drew_known t (e ∷ h) g drawn lawful (inl new) = draw_known t h e g drawn lawful.1 new
drew_known t (e ∷ h) g drawn lawful (inr old) = drew_known t h g drawn lawful.0 old

-- a draw that may follow has none of the versions that were drawn
pub draw_new : (t : Setting) (h : History) (e : Entry) (s g : ℕ) (new drawn : Drawn) → Lawful t h → May t h e → draw_of s e ≡ Some new → Drew g drawn h → new.version ≢ drawn.version
draw_new t h e s g new drawn lawful may drew old same =
    let late : number (last s h + 1) s ≤ new.version = draw_late t h e.actor e.kind s new may.guard drew in
    let early : time_of drawn.version ≤ last g h = drew_early g drawn h old in
    let own : gate_of new.version ≡ s = draw_own t h e.actor e.kind s new may.guard drew in
    let his : gate_of drawn.version ≡ g = drew_own t h g drawn lawful old in
    let one : s ≡ g = sym own ∙ (ap gate_of same ∙ his) in
    let times : last s h ≡ last g h = ap (λ n. last n h) one in
    omega (arith, late, early, same, times)

-- what an entry draws at a version is begun there
drawn_first : (version : ℕ) (o : Option Drawn) (drawn : Drawn) (older : Option (List Part)) → o ≡ Some drawn → drawn.version ≡ version → or_begun (begun_as version o) older ≡ Some drawn.transaction
drawn_first version None drawn older is same = absurd (cc)
drawn_first version (Some one) drawn older is same = grind (arith, common_steps)

-- what a gateway draws in an entry, the entry draws
pub draw_is_drawn : (g : ℕ) (e : Entry) (drawn : Drawn) → draw_of g e ≡ Some drawn → drawn_in e.kind ≡ Some drawn
draw_is_drawn g e drawn drew = by (is_gate g e.actor) drew
  where
    by : (b : Bool) → (if b then drawn_in e.kind else None) ≡ Some drawn → drawn_in e.kind ≡ Some drawn
    by true is = is
    by false is = absurd (cc)

-- what a gateway drew is begun at its version
pub drew_is_begun : (t : Setting) (h : History) (g : ℕ) (drawn : Drawn) → Lawful t h → Drew g drawn h → begun_at h drawn.version ≡ Some drawn.transaction
drew_is_begun t [] g drawn lawful drew = absurd drew
drew_is_begun t (e ∷ h) g drawn lawful (inl new) = drawn_first drawn.version (drawn_in e.kind) drawn (begun_at h drawn.version) (draw_is_drawn g e drawn new) refl
drew_is_begun t (e ∷ h) g drawn lawful (inr old) = by (drawn_in e.kind) refl (drew_is_begun t h g drawn lawful.0 old)
  where
    by : (o : Option Drawn) → drawn_in e.kind ≡ o → begun_at h drawn.version ≡ Some drawn.transaction → or_begun (begun_as drawn.version o) (begun_at h drawn.version) ≡ Some drawn.transaction
    by None is rest = rest
    by (Some new) is rest =
        let own = drawn_by_gate t h e.actor e.kind new lawful.1.guard is in
        rw (ne_eqb new.version drawn.version (draw_new t h e own.0 g new drawn lawful.0 lawful.1 own.1 old)) rest

-- A gateway of the topology drew the transaction at the version.
pub record IsDrawn (t : Shape) (h : History) (version : ℕ) (transaction : List Part) : Type 0 where
  pub gate : ℕ
  pub drawn : Drawn
  pub known : gate < gates t
  pub drew : Drew gate drawn h
  pub version_is : drawn.version ≡ version
  pub transaction_is : drawn.transaction ≡ transaction

-- what is begun at a version, a gateway of the topology drew
pub begun_is_drawn : (t : Setting) (h : History) (version : ℕ) (transaction : List Part) → Lawful t h → begun_at h version ≡ Some transaction → IsDrawn t.topology h version transaction
begun_is_drawn t [] version transaction lawful begun = absurd (cc)
begun_is_drawn t (e ∷ h) version transaction lawful begun = by (drawn_in e.kind) refl begun (begun_is_drawn t h version transaction lawful.0)
  where
    older : IsDrawn t.topology h version transaction → IsDrawn t.topology (e ∷ h) version transaction
    older is = record { gate = is.gate; drawn = is.drawn; known = is.known; drew = inr is.drew; version_is = is.version_is; transaction_is = is.transaction_is }

    by : (o : Option Drawn) → drawn_in e.kind ≡ o → or_begun (begun_as version o) (begun_at h version) ≡ Some transaction
        → (begun_at h version ≡ Some transaction → IsDrawn t.topology h version transaction) → IsDrawn t.topology (e ∷ h) version transaction
    by None is begun rest = older (rest begun)
    by (Some new) is begun rest = elim (eqb_tells new.version version) [
      | inl same ↦
          let own = drawn_by_gate t h e.actor e.kind new lawful.1.guard is in
          let first : or_begun (begun_as version (Some new)) (begun_at h version) ≡ Some new.transaction = drawn_first version (Some new) new (begun_at h version) refl same.1 in
          record { gate = own.0; drawn = new; known = draw_known t h e own.0 new lawful.1 own.1; drew = inl own.1; version_is = same.1; transaction_is = cc }
      | inr other ↦
          let passed : or_begun (begun_as version (Some new)) (begun_at h version) ≡ begun_at h version = rw other.0 refl in
          older (rest (sym passed ∙ begun))
    ]

-- below a final watermark, a write quorum holds each begun transaction in each partition that it touches
pub final_begun : (t : Setting) (h : History) (w : ℕ) → Lawful t h → Final t.topology h w → (version : ℕ) (transaction : List Part) (p : ℕ)
    → begun_at h version ≡ Some transaction → version < w → p < t.topology.partitions → touches t.topology transaction p ≡ true → t.topology.write ≤ holders t.topology version p h
final_begun t h w lawful final version transaction p begun less inside touched =
    let is = begun_is_drawn t h version transaction lawful begun in
    let same : touches t.topology is.drawn.transaction p ≡ true = ap (λ parts. touches t.topology parts p) is.transaction_is ∙ touched in
    let under : is.drawn.version < w = omega (arith, less, is.version_is) in
    let had : t.topology.write ≤ holders t.topology is.drawn.version p h = final.held is.drawn p (record { gate = is.gate; known = is.known; drew = is.drew; less = under; inside = inside; touched = same }) in
    subst (λ v. t.topology.write ≤ holders t.topology v p h) is.version_is had

-- below a watermark that is final for all copies, all nodes hold each begun transaction in each partition that it touches
pub final_all_begun : (t : Setting) (h : History) (w : ℕ) → Lawful t h → FinalAll t.topology h w → (version : ℕ) (transaction : List Part) (p : ℕ)
    → begun_at h version ≡ Some transaction → version < w → p < t.topology.partitions → touches t.topology transaction p ≡ true → all_below (λ c. stored c p version h) t.topology.centres ≡ true
final_all_begun t h w lawful final version transaction p begun less inside touched =
    let is = begun_is_drawn t h version transaction lawful begun in
    let same : touches t.topology is.drawn.transaction p ≡ true = ap (λ parts. touches t.topology parts p) is.transaction_is ∙ touched in
    let under : is.drawn.version < w = omega (arith, less, is.version_is) in
    let had : all_below (λ c. stored c p is.drawn.version h) t.topology.centres ≡ true = final.held is.drawn p (record { gate = is.gate; known = is.known; drew = is.drew; less = under; inside = inside; touched = same }) in
    subst (λ v. all_below (λ c. stored c p v h) t.topology.centres ≡ true) is.version_is had
