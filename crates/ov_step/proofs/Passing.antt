-- Lines that a pass lists from the history before it, followed one after another.
use Rattle.std.proofs.Common.{◌≡◌, ℕ, zero, suc, ◌+◌, ◌≤◌, Bool, true, false, not, ◌&&◌, ◌||◌, Option, Some, None, List, [], ◌∷◌, ◌++◌, refl, sym, ap, ◌∙◌, arith, inl, inr}
use Rattle.std.specs.Prelude.{nat_le, if◌then◌else◌}
use Rattle.std.specs.Option.{option_map}
use Rattle.std.proofs.lemmas.Bool.{cases_Bool, leb-true, leb-false}
use Rattle.std.proofs.lemmas.List.{append-nil, append_assoc}
use Rattle.ov_topology.specs.declared.actor.Actor.{Actor}
use Rattle.ov_event.specs.Letters.{is_in}
use Rattle.ov_event.specs.declared.entry.Entry.{Entry}
use Rattle.ov_event.specs.declared.kind.Kind.{Kind}
use Rattle.ov_history.specs.Past.{History, stopped, stops, same_actor}
use Rattle.ov_history.specs.May.{Setting}
use Rattle.ov_history.specs.Gives.{acts, gives}
use Rattle.ov_history.specs.Cores.{onto}
use Rattle.ov_follow.specs.Lines.{Line, followed, followed_all}
use Rattle.ov_follow.specs.Passes.{each, running}
use Rattle.ov_follow.proofs.Following.{followed_behind}
use Rattle.ov_world.specs.World.{WorldState, setting_of}
use Rattle.ov_step.specs.Followed.{Followed, FollowedInPart, with_history}

-- ---- lists of lines

-- one number more
pub each_more : (f : ℕ → List Line) (n : ℕ) → each f (n + 1) ≡ each f n ++ f n
each_more f n = let next : n + 1 ≡ suc n = omega arith in ap (each f) next

-- the lines of lesser numbers are the first ones
pub record Splits (f : ℕ → List Line) (k n : ℕ) : Type 0 where
  pub rest : List Line
  pub split : each f n ≡ each f k ++ rest

pub each_splits : (f : ℕ → List Line) (k n : ℕ) → k ≤ n → Splits f k n
each_splits f k zero le = let none : k ≡ zero = omega (arith, le) in rw none (record { rest = []; split = refl })
each_splits f k (suc n) le =
    elim (cases_Bool (nat_le k n)) [
      | inl less ↦
          let before = each_splits f k n (leb-true k n less) in
          record { rest = before.rest ++ f n; split = ap (λ (lines : List Line). lines ++ f n) before.split ∙ append_assoc (each f k) before.rest (f n) }
      | inr past ↦
          let above = leb-false k n past in
          let same : k ≡ suc n = omega (arith, le, above) in
          record { rest = []; split = rw same (sym (append-nil (each f (suc n)))) }
    ]

-- ---- stopped actors

either_true : (b : Bool) → (b || true) ≡ true
either_true true = refl
either_true false = refl

stopped_onto : (a : Actor) (answer : Option Entry) (h : History) → stopped a h ≡ true → stopped a (onto answer h) ≡ true
stopped_onto a None h is = is
stopped_onto a (Some e) h is = rw is (either_true (if same_actor a e.actor then stops e.kind else false))

-- who has stopped stays so, whatever lines are followed
pub stopped_on : (t : Setting) (h : History) (a : Actor) (lines : List Line) → stopped a h ≡ true → stopped a (followed_all t h lines) ≡ true
stopped_on t h a [] is = is
stopped_on t h a (line ∷ lines) is = stopped_on t (followed t h line) a lines (stopped_onto a (gives t h line.actor line.act) h is)

-- a line of an actor that has stopped changes nothing
pub stopped_follows : (t : Setting) (h : History) (line : Line) → stopped line.actor h ≡ true → followed t h line ≡ h
stopped_follows t h line is = rw is (by (is_in t.topology line.actor))
  where
    by : (b : Bool) → onto (if b && false then option_map (λ (kind : Kind). record { actor = line.actor; kind = kind }) (acts t h line.actor line.act) else None) h ≡ h
    by true = refl
    by false = refl

-- a line whose actor does nothing for it changes nothing
pub quiet_follows : (t : Setting) (h : History) (line : Line) → acts t h line.actor line.act ≡ None → followed t h line ≡ h
quiet_follows t h line none = rw none (by (is_in t.topology line.actor && not (stopped line.actor h)))
  where
    by : (b : Bool) → onto (if b then option_map (λ (kind : Kind). record { actor = line.actor; kind = kind }) None else None) h ≡ h
    by true = refl
    by false = refl

-- a line that is not listed and changes nothing, behind other lines
pub unlisted_next : (t : Setting) (h : History) (lines : List Line) (line : Line) → followed t (followed_all t h lines) line ≡ followed_all t h lines
    → followed_all t h (lines ++ []) ≡ followed t (followed_all t h lines) line
unlisted_next t h lines line same = rw (append-nil lines) (sym same)

-- a line that is listed where its actor has not stopped, behind other lines
pub running_next : (t : Setting) (h : History) (lines : List Line) (line : Line) → followed_all t h (lines ++ running h line) ≡ followed t (followed_all t h lines) line
running_next t h lines line =
    elim (cases_Bool (stopped line.actor h)) [
      | inl is ↦ rw (is, append-nil lines) (sym (stopped_follows t (followed_all t h lines) line (stopped_on t h line.actor lines is)))
      | inr runs ↦ rw runs (followed_behind t h lines (line ∷ []))
    ]

-- ---- passes over numbers

-- one number more, where a line has the effect of what is listed for its number
pub listed_more : (f : ℕ → List Line) (line : Line) (n : ℕ) (old here new : WorldState)
    → followed_all (setting_of old) old.history (each f n ++ f n) ≡ followed (setting_of old) (followed_all (setting_of old) old.history (each f n)) line
    → Followed (each f n) old here → new ≡ with_history (followed (setting_of here) here.history line) here → Followed (each f (n + 1)) old new
listed_more f line n old here new same is next = rw (next, is, each_more f n) (ap (λ (h : History). with_history h old) (sym same))

-- one number more, where the line of a number is listed where its actor has not stopped
pub running_more : (f : ℕ → Line) (n : ℕ) (old here new : WorldState) → Followed (each (λ k. running old.history (f k)) n) old here
    → new ≡ with_history (followed (setting_of here) here.history (f n)) here → Followed (each (λ k. running old.history (f k)) (n + 1)) old new
running_more f n old here new is next =
    listed_more (λ k. running old.history (f k)) (f n) n old here new (running_next (setting_of old) old.history (each (λ k. running old.history (f k)) n) (f n)) is next

-- the first numbers, where memory ran out
pub in_part : (f : ℕ → List Line) (k n : ℕ) (old here : WorldState) → k ≤ n → Followed (each f k) old here → FollowedInPart (each f n) old here
in_part f k n old here le is = let parts = each_splits f k n le in record { done = each f k; rest = parts.rest; split = parts.split; followed = is }
