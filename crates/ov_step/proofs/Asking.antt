-- Settlers that ask and settle one after another: what one gives does not depend on the entries of the others.
use Rattle.std.proofs.Common.{◌≡◌, ℕ, zero, suc, ◌+◌, ◌^◌, ◌<◌, Bool, true, false, not, ◌&&◌, Option, Some, None, List, [], ◌∷◌, ◌++◌, refl, ◌∙◌, arith}
use Rattle.std.specs.Prelude.{nat_lt, is_some, if◌then◌else◌}
use Rattle.std.specs.Option.{option_map}
use Rattle.std.proofs.lemmas.Bool.{ne_eqb}
use Rattle.ov_base.specs.Word.{◌>>=◌}
use Rattle.ov_topology.specs.Shape.{Shape}
use Rattle.ov_topology.specs.declared.actor.Actor.{Actor}
use Rattle.ov_topology.specs.declared.actor.Actor.TheVariants.{Settler}
use Rattle.ov_topology.specs.declared.mode.Mode.{Mode}
use Rattle.ov_topology.specs.declared.mode.Mode.TheVariants.{Quorum, One}
use Rattle.ov_event.specs.Letters.{is_in, is_settler}
use Rattle.ov_event.specs.declared.kind.Kind.{Kind}
use Rattle.ov_event.specs.declared.kind.Kind.TheVariants.{Asked, Settled}
use Rattle.ov_history.specs.Past.{History, stopped}
use Rattle.ov_history.specs.Counts.{all_below}
use Rattle.ov_history.specs.Marks.{visible}
use Rattle.ov_history.specs.Settlers.{Round, open_round, rounds, settled, took, plan_values}
use Rattle.ov_history.specs.May.{Setting}
use Rattle.ov_history.specs.Gives.{Act, acts, asks, settles, is_enough, Ask, Settle}
use Rattle.ov_history.specs.Cores.{onto}
use Rattle.ov_history.proofs.Stays.{all_below_same, weight_same, open_round-stays, rounds-stay, settled-stays, took-stays, plan_values-stay, upper-stays}
use Rattle.ov_follow.specs.Lines.{Line, followed, followed_all}
use Rattle.ov_follow.specs.Passes.{each, only, running}
use Rattle.ov_world.specs.World.{WorldState, setting_of}
use Rattle.ov_step.specs.Followed.{Followed, with_history}
use Rattle.ov_step.proofs.Passing.{quiet_follows, unlisted_next, listed_more, running_next}
use Rattle.ov_script.proofs.Adding.{is_none}

-- ---- lines of other settlers

-- none of the lines is the settler's
abbrev pub Others : ℕ → List Line → Type 0
Others s [] = Unit {0}
Others s (line ∷ lines) = (is_settler s line.actor ≡ false) × Others s lines

-- lines of others behind lines of others
others_behind : (s : ℕ) (first others : List Line) → Others s first → Others s others → Others s (first ++ others)
others_behind s [] others these those = those
others_behind s (line ∷ first) others these those = (these.0, others_behind s first others these.1 those)

-- lines for numbers, of which those below are of others, are of others
others_each : (s : ℕ) (f : ℕ → List Line) (n : ℕ) → ((k : ℕ) → k < n → Others s (f k)) → Others s (each f n)
others_each s f zero below = tt
others_each s f (suc n) below =
    others_behind s (each f n) (f n) (others_each s f n (λ k less. below k (omega (arith, less)))) (below n (omega arith))

-- what an entry of another actor does not change, a line of another actor does not
stays_onto : {A : Type 0} (f : History → A) (s : ℕ) (t : Setting) (h : History) (line : Line)
    → ((h : History) (b : Actor) (k : Kind) → is_settler s b ≡ false → f (record { actor = b; kind = k } ∷ h) ≡ f h)
    → is_settler s line.actor ≡ false → f (followed t h line) ≡ f h
stays_onto f s t h line stays other = by (is_in t.topology line.actor && not (stopped line.actor h)) (acts t h line.actor line.act)
  where
    by : (b : Bool) (o : Option Kind) → f (onto (if b then option_map (λ (kind : Kind). record { actor = line.actor; kind = kind }) o else None) h) ≡ f h
    by true (Some kind) = stays h line.actor kind other
    by true None = refl
    by false o = refl

-- what an entry of another actor does not change, lines of other actors do not
stays_on : {A : Type 0} (f : History → A) (s : ℕ) (t : Setting) (h : History) (lines : List Line)
    → ((h : History) (b : Actor) (k : Kind) → is_settler s b ≡ false → f (record { actor = b; kind = k } ∷ h) ≡ f h)
    → Others s lines → f (followed_all t h lines) ≡ f h
stays_on f s t h [] stays others = refl
stays_on f s t h (line ∷ lines) stays others = stays_on f s t (followed t h line) lines stays others.1 ∙ stays_onto f s t h line stays others.0

-- ---- what a settler gives

-- the round that a settler asks for
asks_stay : (t : Shape) (s : ℕ) (mode : Mode) (h : History) (b : Actor) (k : Kind) → is_settler s b ≡ false → asks t (record { actor = b; kind = k } ∷ h) s mode ≡ asks t h s mode
asks_stay t s mode h b k other = rw (rounds-stay h b k s other, settled-stays h b k s other, upper-stays h b k t s mode other) refl

-- whether a partition gave answers enough
enough_same : (t : Shape) (s : ℕ) (round : Round) (h : History) (b : Actor) (k : Kind) (mode : Mode) (p : ℕ) → is_settler s b ≡ false
    → is_enough t s round (record { actor = b; kind = k } ∷ h) mode p ≡ is_enough t s round h mode p
enough_same t s round h b k Quorum p other =
    rw (weight_same t (λ c. took s round.number c p (record { actor = b; kind = k } ∷ h)) (λ c. took s round.number c p h) (λ c. took-stays h b k s round.number c p other)) refl
enough_same t s round h b k One p other = took-stays h b k s round.number s p other

-- what a settler settles
settles_stay : (t : Shape) (s : ℕ) (h : History) (b : Actor) (k : Kind) → is_settler s b ≡ false → settles t (record { actor = b; kind = k } ∷ h) s ≡ settles t h s
settles_stay t s h b k other = rw (open_round-stays h b k s other) (by (open_round s h))
  where
    by : (o : Option Round)
        → (o >>= λ round. if all_below (is_enough t s round (record { actor = b; kind = k } ∷ h) round.mode) t.partitions then Some (Settled (plan_values s round (record { actor = b; kind = k } ∷ h))) else None)
        ≡ (o >>= λ round. if all_below (is_enough t s round h round.mode) t.partitions then Some (Settled (plan_values s round h)) else None)
    by None = refl
    by (Some round) =
        let enough = all_below_same (is_enough t s round (record { actor = b; kind = k } ∷ h) round.mode) (is_enough t s round h round.mode) t.partitions (λ p. enough_same t s round h b k round.mode p other) in
        rw (enough, plan_values-stay h b k s round other) refl

-- ---- lines of the settlers, each listed where a test passes

-- the line, where the test passes and its actor has not stopped
abbrev tested : History → Bool → Line → List Line
tested h b line = if b then running h line else []

-- a settler's line
abbrev line_by : Act → ℕ → Line
line_by act s = record { actor = Settler s; act = act }

-- a lesser settler's line is not this one's, where a test passes
others_only : (s k : ℕ) (b : Bool) (act : Act) → k < s → Others s (only b (line_by act k))
others_only s k false act less = tt
others_only s k true act less = (ne_eqb k s (λ same. absurd (omega (arith, less, same))), tt)

-- a lesser settler's listed line is not this one's
others_tested : (s k : ℕ) (h : History) (b : Bool) (act : Act) → k < s → Others s (tested h b (line_by act k))
others_tested s k h false act less = tt
others_tested s k h true act less = others_only s k (not (stopped (Settler k) h)) act less

-- the lines of lesser settlers are not this one's
others_below : (s : ℕ) (h : History) (test : ℕ → Bool) (act : Act) → Others s (each (λ k. tested h (test k) (line_by act k)) s)
others_below s h test act = others_each s (λ k. tested h (test k) (line_by act k)) s (λ k less. others_tested s k h (test k) act less)

-- a settler's line behind others, where it does nothing unless the test passes
tested_next : (t : Setting) (h : History) (lines : List Line) (b : Bool) (line : Line) → (b ≡ false → acts t (followed_all t h lines) line.actor line.act ≡ None)
    → followed_all t h (lines ++ tested h b line) ≡ followed t (followed_all t h lines) line
tested_next t h lines true line quiet = running_next t h lines line
tested_next t h lines false line quiet = unlisted_next t h lines line (quiet_follows t (followed_all t h lines) line (quiet refl))

-- ---- settlers ask

-- the line that is listed for a settler that asks
abbrev pub question : Setting → History → ℕ → List Line
question t h s = if nat_lt (settled s h) (visible t.topology (Settler s) h) then running h (record { actor = Settler s; act = Ask Quorum }) else []

-- a settler whose visibility watermark is not above what it has settled does not ask
asks_none : (t : Shape) (s : ℕ) (h : History) → nat_lt (settled s h) (visible t (Settler s) h) ≡ false → asks t h s Quorum ≡ None
asks_none t s h low = rw low (by (nat_lt (rounds s h + 1) (2 ^ 64)))
  where
    by : (b : Bool) → (if b && false then Some (Asked (rounds s h + 1) Quorum (settled s h) (visible t (Settler s) h)) else None) ≡ None
    by true = refl
    by false = refl

-- the line of a settler, behind those of the lesser ones
question_next : (t : Setting) (h : History) (s : ℕ)
    → followed_all t h (each (question t h) s ++ question t h s) ≡ followed t (followed_all t h (each (question t h) s)) (line_by (Ask Quorum) s)
question_next t h s =
    tested_next t h (each (question t h) s) (nat_lt (settled s h) (visible t.topology (Settler s) h)) (line_by (Ask Quorum) s) λ low.
    stays_on (λ before. asks t.topology before s Quorum) s t h (each (question t h) s) (asks_stay t.topology s Quorum)
    (others_below s h (λ k. nat_lt (settled k h) (visible t.topology (Settler k) h)) (Ask Quorum))
    ∙ asks_none t.topology s h low

-- one settler more
pub question_more : (n : ℕ) (old here new : WorldState) → Followed (each (question (setting_of old) old.history) n) old here
    → new ≡ with_history (followed (setting_of here) here.history (line_by (Ask Quorum) n)) here → Followed (each (question (setting_of old) old.history) (n + 1)) old new
question_more n old here new is next =
    listed_more (question (setting_of old) old.history) (line_by (Ask Quorum) n) n old here new (question_next (setting_of old) old.history n) is next

-- ---- settlers settle

-- the line that is listed for a settler that settles
abbrev pub settlement : Setting → History → ℕ → List Line
settlement t h s = if is_some (settles t.topology h s) then running h (record { actor = Settler s; act = Settle }) else []

-- the line of a settler, behind those of the lesser ones
settlement_next : (t : Setting) (h : History) (s : ℕ)
    → followed_all t h (each (settlement t h) s ++ settlement t h s) ≡ followed t (followed_all t h (each (settlement t h) s)) (line_by Settle s)
settlement_next t h s =
    tested_next t h (each (settlement t h) s) (is_some (settles t.topology h s)) (line_by Settle s) λ none.
    stays_on (λ before. settles t.topology before s) s t h (each (settlement t h) s) (settles_stay t.topology s)
    (others_below s h (λ k. is_some (settles t.topology h k)) Settle)
    ∙ is_none (settles t.topology h s) none

-- one settler more
pub settlement_more : (n : ℕ) (old here new : WorldState) → Followed (each (settlement (setting_of old) old.history) n) old here
    → new ≡ with_history (followed (setting_of here) here.history (line_by Settle n)) here → Followed (each (settlement (setting_of old) old.history) (n + 1)) old new
settlement_more n old here new is next =
    listed_more (settlement (setting_of old) old.history) (line_by Settle n) n old here new (settlement_next (setting_of old) old.history n) is next
