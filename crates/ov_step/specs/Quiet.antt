-- What a pass does not list once it never lists again: deeds and stops stay. Lemmas that the passes cite for their law; each is proved, and nothing here has
-- to be believed.
use Rattle.std.proofs.Common.{◌≡◌, ℕ, zero, suc, Bool, true, false, not, ◌&&◌, ◌||◌, ◌==◌, List, [], ◌∷◌, ◌++◌, refl, inl, inr}
use Rattle.std.specs.Prelude.{if◌then◌else◌}
use Rattle.std.proofs.lemmas.Bool.{cases_Bool}
use Rattle.ov_base.specs.Version.{gate_of}
use Rattle.ov_topology.specs.Shape.{gates}
use Rattle.ov_topology.specs.declared.actor.Actor.{Actor}
use Rattle.ov_topology.specs.declared.actor.Actor.TheVariants.{Gate, Node}
use Rattle.ov_event.specs.declared.entry.Entry.{Entry}
use Rattle.ov_event.specs.declared.kind.Kind.{Kind}
use Rattle.ov_event.specs.declared.kind.Kind.TheVariants as kinds
use Rattle.ov_history.specs.Past.{History, some, stopped}
use Rattle.ov_history.specs.Placement.{acked}
use Rattle.ov_follow.specs.Lines.{Line}
use Rattle.ov_follow.specs.Passes.{each, running, take, told, is_replied, told_lines, ack_lines, reply_lines}
use Rattle.ov_step.specs.Gathered.{Stays, told_by, acked_by, replied_by}

-- ---- lists of no lines

-- two lists of no lines
pub none_both : (first others : List Line) → first ++ others ≡ [] → (first ≡ []) × (others ≡ [])
none_both [] others none = (refl, none)
none_both (line ∷ first) others none = absurd cc

-- lists of no lines stay so
pub none_stay : (f g : ℕ → List Line) (n : ℕ) → ((k : ℕ) → f k ≡ [] → g k ≡ []) → each f n ≡ [] → each g n ≡ []
none_stay f g zero stays none = refl
none_stay f g (suc n) stays none = let parts = none_both (each f n) (f n) none in rw (none_stay f g n stays parts.0, stays n parts.1) refl

-- ---- what passed once

-- what some entry passed is still passed after one more
pub some_stays : (f : Entry → Bool) (h : History) (more : Entry) → some f h ≡ true → some f (more ∷ h) ≡ true
some_stays f h more is = rw is (by (f more))
  where
    by : (b : Bool) → (b || true) ≡ true
    by true = refl
    by false = refl

-- a line that was not listed since its actor has stopped
pub running_stays : (h : History) (more : Entry) (line : Line) → running h line ≡ [] → running (more ∷ h) line ≡ []
running_stays h more line none =
    elim (cases_Bool (stopped line.actor h)) [
      | inl is ↦ let still : stopped line.actor (more ∷ h) ≡ true = some_stays _ h more is in rw still refl
      | inr runs ↦ let bad : line ∷ [] ≡ [] = rw runs at none in absurd cc
    ]

-- a line that was not listed since what it asks is done, or since its actor has stopped
pub undone_stays : (h : History) (more : Entry) (before now : Bool) (line : Line) → (before ≡ true → now ≡ true)
    → (if before then [] else running h line) ≡ [] → (if now then [] else running (more ∷ h) line) ≡ []
undone_stays h more true now line stays none = rw (stays refl) refl
undone_stays h more false true line stays none = refl
undone_stays h more false false line stays none = running_stays h more line none

-- ---- the passes

-- a gateway that is not told
gate_stays : (h : History) (more : Entry) (other before now : Bool) (line : Line) → (before ≡ true → now ≡ true)
    → (if other && not before then running h line else []) ≡ [] → (if other && not now then running (more ∷ h) line else []) ≡ []
gate_stays h more false before now line stays none = refl
gate_stays h more true true now line stays none = rw (stays refl) refl
gate_stays h more true false true line stays none = refl
gate_stays h more true false false line stays none = running_stays h more line none

-- what was replied and is told to no gateway
pub tells_stay : Stays told_by
tells_stay t h more e number = by e.actor e.kind
  where
    by : (a : Actor) (k : Kind) → told_lines t h number a k ≡ [] → told_lines t (more ∷ h) number a k ≡ []
    by (Gate g) (kinds.Replied place s c reply) none =
        none_stay (λ k. if not (k == g) && not (told k s c h) then running h (take (Gate k) number 1) else [])
        (λ k. if not (k == g) && not (told k s c (more ∷ h)) then running (more ∷ h) (take (Gate k) number 1) else []) (gates t.topology)
        (λ k. gate_stays h more (not (k == g)) (told k s c h) (told k s c (more ∷ h)) (take (Gate k) number 1) (some_stays _ h more)) none
    by actor other none = refl

-- a store whose acknowledgement is not taken
pub acks_stay : Stays acked_by
acks_stay t h more e number = by e.actor e.kind
  where
    by : (a : Actor) (k : Kind) → ack_lines t h number a k ≡ [] → ack_lines t (more ∷ h) number a k ≡ []
    by (Node c p) (kinds.Stored place version items) none =
        undone_stays h more (acked (gate_of version) version c p h) (acked (gate_of version) version c p (more ∷ h))
        (take (Gate (gate_of version)) number 1) (some_stays _ h more) none
    by actor other none = refl

-- a result that is not taken
pub replies_stay : Stays replied_by
replies_stay t h more e number = by e.kind
  where
    by : (k : Kind) → reply_lines h number k ≡ [] → reply_lines (more ∷ h) number k ≡ []
    by (kinds.Resulted place s c g reply) none =
        undone_stays h more (is_replied s c h) (is_replied s c (more ∷ h)) (take (Gate g) number 1) (some_stays _ h more) none
    by other none = refl
