-- A settler that opens a round.
use Rattle.std.proofs.Common.{◌≡◌, ℕ, ◌+◌, ◌<◌, ◌^◌, Bool, true, false, ◌==◌, ◌&&◌, Some, None, [], ◌∷◌, length, get_or, refl, sym, ap, subst, ◌∙◌, arith, inl, inr}
use Rattle.std.specs.Prelude.{if◌then◌else◌, replicate, nat_lt}
use Rattle.std.specs.Option.{option_map}
use Rattle.std.proofs.lemmas.Bool.{cases_Bool, both_ways, eq-eqb, lt-ltb, or_parts}
use Rattle.std.proofs.lemmas.List.{get_or-replicate, length-replicate}
use Rattle.std.proofs.lemmas.Option.{same_Some}
use Rattle.ov_topology.specs.Shape.{Shape}
use Rattle.ov_topology.specs.declared.actor.Actor.{Actor}
use Rattle.ov_topology.specs.declared.mode.Mode.{Mode}
use Rattle.ov_event.specs.Letters.{is_settler}
use Rattle.ov_event.specs.declared.kind.Kind.{Kind}
use Rattle.ov_event.specs.declared.kind.Kind.TheVariants.{Began, Stored, Acked, Published, Heard, Asked, Answered, Taken, Settled, Resulted, Replied, Told, Stopped}
use Rattle.ov_history.specs.Past.{History}
use Rattle.ov_history.specs.Settlers.{takes, took, brought, harvest}
use Rattle.ov_history.specs.Gives.{Ask, gives}
use Rattle.ov_history.specs.May.{Setting}
use Rattle.ov_history.specs.Cores.{kept, Steps}
use Rattle.ov_window.specs.Harvest.{IsMarked, fresh, has_answered}
use Rattle.ov_window.specs.declared.round.Round.{Round}
use Rattle.ov_settler.specs.Settler.{SettlerState, Gathers, IsSettler, is_asked}
use Rattle.ov_settler.specs.Calls.{upper_of}
use Rattle.ov_settler.proofs.Stands.{by_settler, took_more, harvest_more, nothing_more, some_steps, none_steps}
use Rattle.ov_settler.proofs.Watermarks.{upper_is}

-- ---- a round of which nothing is taken

-- an entry that takes no answer of a round brings it nothing
brought_none : (s n : ℕ) (kind : Kind) (h : History) → ((c p : ℕ) → takes n c p kind ≡ false) → brought s n kind h ≡ []
brought_none s n (Taken place round c p items) h none =
    elim (cases_Bool (round == n)) [
      | inl same ↦ absurd (both_ways (takes n c p (Taken place round c p items)) (none c p) (rw (same, eq-eqb c c refl, eq-eqb p p refl) refl))
      | inr other ↦ rw other refl
    ]
brought_none s n (Began session seq start) h none = refl
brought_none s n (Stored place version items) h none = refl
brought_none s n (Acked place version c p) h none = refl
brought_none s n (Published time vector) h none = refl
brought_none s n (Heard place vector) h none = refl
brought_none s n (Asked round mode from below) h none = refl
brought_none s n (Answered place settler round items) h none = refl
brought_none s n (Settled values) h none = refl
brought_none s n (Resulted place session seq gate reply) h none = refl
brought_none s n (Replied place session seq reply) h none = refl
brought_none s n (Told place session seq) h none = refl
brought_none s n Stopped h none = refl

-- a round of which no answer is taken has an empty harvest
harvest_none : (s n : ℕ) (h : History) → ((c p : ℕ) → took s n c p h ≡ false) → harvest s n h ≡ []
harvest_none s n [] none = refl
harvest_none s n (e ∷ h) none =
    let rest = harvest_none s n h (λ c p. (or_parts (if is_settler s e.actor then takes n c p e.kind else false) (took s n c p h) (none c p)).1) in
    elim (cases_Bool (is_settler s e.actor)) [
      | inl own ↦ rw (own, rest, brought_none s n e.kind h (λ c p. rw own at (or_parts (if is_settler s e.actor then takes n c p e.kind else false) (took s n c p h) (none c p)).0)) refl
      | inr other ↦ rw other rest
    ]

-- ---- a harvest of which nothing is taken

fresh_marked : (t : Shape) (round : Round) → IsMarked (fresh t round).topology (fresh t round).answered
fresh_marked t round = record {
  partitions = length-replicate t.partitions (replicate t.centres false);
  centres = λ p less. ap length (get_or-replicate t.partitions p (replicate t.centres false) [] less) ∙ length-replicate t.centres false;
}

fresh_answered : (t : Shape) (round : Round) (c p : ℕ) → c < t.centres → p < t.partitions → has_answered (fresh t round) c p ≡ false
fresh_answered t round c p inside within = ap (λ marks. get_or marks c false) (get_or-replicate t.partitions p (replicate t.centres false) [] within) ∙ get_or-replicate t.centres c false false inside

-- ---- the call

-- the round that the core opens
abbrev pub opens : SettlerState → Mode → ℕ → Round
opens s mode below = record { mode = mode; settler = s.centre; from = s.settled; below = below }

-- the core with that round
abbrev pub with_round : SettlerState → Mode → ℕ → SettlerState
with_round s mode below = record s { rounds = s.rounds + 1; harvest = Some (fresh s.topology (opens s mode below)) }

ask_gathers : (t : Setting) (h : History) (actor : Actor) (s : SettlerState) (mode : Mode) (below : ℕ) → IsSettler t h actor s → s.settled < below
    → Gathers t.topology (by_settler s.centre (Asked (s.rounds + 1) mode s.settled below) ∷ h) (with_round s mode below) (fresh s.topology (opens s mode below))
ask_gathers t h actor s mode below is above =
    let kind = Asked (s.rounds + 1) mode s.settled below in
    let none : (c p : ℕ) → took s.centre (s.rounds + 1) c p h ≡ false = λ c p. is.later (s.rounds + 1) c p (omega arith) in record {
      topology_is = is.topology_is;
      settler_is = refl;
      from_is = refl;
      some = above;
      marked = fresh_marked s.topology (opens s mode below);
      answers_are = λ c p inside within. fresh_answered s.topology (opens s mode below) c p (rw is.topology_is inside) (rw is.topology_is within) ∙ sym (took_more s.centre kind h (s.rounds + 1) c p ∙ none c p);
      items_are = sym (harvest_more s.centre kind h (s.rounds + 1) ∙ harvest_none s.centre (s.rounds + 1) h none);
      inside = tt;
    }

-- whether the core may open the next round
abbrev pub can_ask : SettlerState → Mode → Bool
can_ask s mode = nat_lt (s.rounds + 1) (2 ^ 64) && nat_lt s.settled (upper_of s.vector mode)

asks_given : (t : Setting) (h : History) (actor : Actor) (s : SettlerState) (mode : Mode) → IsSettler t h actor s → s.stopped ≡ false
    → kept is_asked (gives t h actor (Ask mode)) ≡ (if can_ask s mode then Some (by_settler s.centre (Asked (s.rounds + 1) mode s.settled (upper_of s.vector mode))) else None)
asks_given t h actor s mode is running =
    rw (is.runs.known, sym is.runs.stopped_is, running, is.actor_is, sym is.rounds_are, sym is.settled_is, sym (upper_is t h actor s mode is))
    (by (can_ask s mode))
  where
    by : (b : Bool) → kept is_asked (option_map (λ kind. by_settler s.centre kind) (if b then Some (Asked (s.rounds + 1) mode s.settled (upper_of s.vector mode)) else None))
        ≡ (if b then Some (by_settler s.centre (Asked (s.rounds + 1) mode s.settled (upper_of s.vector mode))) else None)
    by true = refl
    by false = refl

stopped_given : (t : Setting) (h : History) (actor : Actor) (s : SettlerState) (mode : Mode) → IsSettler t h actor s → s.stopped ≡ true → kept is_asked (gives t h actor (Ask mode)) ≡ None
stopped_given t h actor s mode is ended = rw (is.runs.known, sym is.runs.stopped_is, ended) refl

pub ask_none : (t : Setting) (h : History) (actor : Actor) (s : SettlerState) (mode : Mode) → IsSettler t h actor s → (s.stopped ≡ false → can_ask s mode ≡ true → ⊥) → Steps IsSettler is_asked t h actor (Ask mode) None s
ask_none t h actor s mode is not_so = none_steps is_asked t h actor (Ask mode) s is (by s.stopped refl (can_ask s mode) refl)
  where
    by : (a : Bool) → s.stopped ≡ a → (b : Bool) → can_ask s mode ≡ b → kept is_asked (gives t h actor (Ask mode)) ≡ None
    by true ended b can = stopped_given t h actor s mode is ended
    by false running true can = absurd (not_so running can)
    by false running false can = asks_given t h actor s mode is running ∙ (rw can refl)

pub ask_steps : (t : Setting) (h : History) (actor : Actor) (s : SettlerState) (mode : Mode) (below : ℕ) → IsSettler t h actor s → s.stopped ≡ false → below ≡ upper_of s.vector mode → s.rounds + 1 < 2 ^ 64 → s.settled < below
    → Steps IsSettler is_asked t h actor (Ask mode) (Some (by_settler s.centre (Asked (s.rounds + 1) mode s.settled below))) (with_round s mode below)
ask_steps t h actor s mode below is running made held above =
    some_steps is_asked t h actor (Ask mode) s (with_round s mode below) (Asked (s.rounds + 1) mode s.settled below) is
    (asks_given t h actor s mode is running ∙ (rw (sym made, lt-ltb (s.rounds + 1) (2 ^ 64) held, lt-ltb s.settled below above) refl)) (record {
      stopped_is = refl;
      width = refl;
      marks_are = λ k less. nothing_more _;
      rounds_are = omega arith;
      settled_is = refl;
      round_is = refl;
      gathers = λ one there. subst (Gathers t.topology (by_settler s.centre (Asked (s.rounds + 1) mode s.settled below) ∷ h) (with_round s mode below)) (same_Some _ _ there) (ask_gathers t h actor s mode below is above);
      later = λ n c p past. is.later n c p (omega (arith, past));
      values_are = is.values_are;
      under = is.under;
    })
