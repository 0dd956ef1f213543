-- Calm rounds one after another.
use Rattle.std.proofs.Common.{◌≡◌, ◌==◌, ℕ, zero, suc, ◌+◌, ◌-◌, ◌*◌, ◌≤◌, ◌<◌, Bool, true, false, List, [], ◌∷◌, length, refl, sym, ap, subst, ◌∙◌, arith}
use Rattle.std.specs.Prelude.{if◌then◌else◌}
use Rattle.std.specs.List.{AllByRecursion}
use Rattle.ov_session.specs.Standing.{most_commands}
use Rattle.ov_session.specs.declared.plan.SessionPlan.{SessionPlan}
use Rattle.ov_history.specs.Past.{History}
use Rattle.ov_history.specs.May.{Setting}
use Rattle.ov_follow.specs.Calm.{count, commands, passed, round_passes, calm_round, calm_rounds, calm, all_replied, replies}
use Rattle.ov_follow.proofs.Rounds.{rounds_enough}
use Rattle.ov_laws.specs.Runs.{IsRun}
use Rattle.ov_world.specs.World.{WorldState, setting_of}
use Rattle.ov_step.specs.Followed.{with_history}
use Rattle.ov_step.specs.Outstanding.{IsOutstanding}
use Rattle.ov_step.specs.Parts.{Passed, IsPart, PassedInPart}
use Rattle.ov_step.specs.declared.outstanding.Outstanding.{Outstanding}
use Rattle.ov_step.proofs.Parting.{goes_on_through, passes_go_on, part_none, part_longer, part_later}
use Rattle.ov_step.proofs.Seeing.{GoesOn}

-- ---- how many rounds are enough

-- so many sessions of at most 4,000 commands have at most so many
pub count_few : (plans : List SessionPlan) → AllByRecursion (λ plan. length plan.planned ≤ most_commands) plans → count plans ≤ length plans * 4000
count_few [] short = omega arith
count_few (plan ∷ plans) short =
    let rest = count_few plans short.1 in
    let first : length plan.planned ≤ 4000 = short.0 in
    omega (arith, rest, first)

-- ---- rounds

-- the history after rounds goes on from the one before
rounds_go_on : (n : ℕ) (t : Setting) (h : History) → GoesOn h (calm_rounds n t h)
rounds_go_on zero t h = record { more = []; is = refl }
rounds_go_on (suc n) t h = by (all_replied t h) (replies (calm_round t h) == replies h) (rounds_go_on n t (calm_round t h))
  where
    by : (all none : Bool) → GoesOn (calm_round t h) (calm_rounds n t (calm_round t h)) → GoesOn h (if all then h else (if none then calm_round t h else calm_rounds n t (calm_round t h)))
    by true none further = record { more = []; is = refl }
    by false true further = passes_go_on t h round_passes
    by false false further = goes_on_through h (calm_round t h) (calm_rounds n t (calm_round t h)) (passes_go_on t h round_passes) further

-- a round, where a command is not replied, and then the rest
round_then : (n : ℕ) (t : Setting) (h : History) → all_replied t h ≡ false
    → calm_rounds (suc n) t h ≡ (if replies (calm_round t h) == replies h then calm_round t h else calm_rounds n t (calm_round t h))
round_then n t h waits = rw waits refl

-- what a test that fails, or passes, leaves
else_is : {X : Type 0} (b : Bool) (x y : X) → b ≡ false → (if b then x else y) ≡ y
else_is b x y is = rw is refl

then_is : {X : Type 0} (b : Bool) (x y : X) → b ≡ true → (if b then x else y) ≡ x
then_is b x y is = rw is refl

-- a round that replied, and then the rest
round_on : (n : ℕ) (t : Setting) (h whole : History) → all_replied t h ≡ false → (replies (calm_round t h) == replies h) ≡ false → calm_rounds (suc n) t h ≡ whole
    → calm_rounds n t (calm_round t h) ≡ whole
round_on n t h whole waits differs is =
    sym (else_is (replies (calm_round t h) == replies h) (calm_round t h) (calm_rounds n t (calm_round t h)) differs) ∙ (sym (round_then n t h waits) ∙ is)

-- a round that replied to none is the last one
round_last : (n : ℕ) (t : Setting) (h whole : History) → all_replied t h ≡ false → (replies (calm_round t h) == replies h) ≡ true → calm_rounds (suc n) t h ≡ whole → calm_round t h ≡ whole
round_last n t h whole waits same is =
    sym (then_is (replies (calm_round t h) == replies h) (calm_round t h) (calm_rounds n t (calm_round t h)) same) ∙ (sym (round_then n t h waits) ∙ is)

-- numbers that are others compare as they do
compared : (a b x y : ℕ) (c : Bool) → a ≡ x → b ≡ y → (a == b) ≡ c → (x == y) ≡ c
compared a b x y c first second is = rw (sym first, sym second) is

-- one round fewer is left
one_fewer : (most i : ℕ) → i < most → most - i ≡ suc (most - (i + 1))
one_fewer most i less = omega (arith, less)

-- a world that goes on from another one
stands_on : (old here new : WorldState) (h : History) → here ≡ with_history here.history old → new ≡ with_history h here → new ≡ with_history new.history old
stands_on old here new h same is = rw is (ap (λ (w : WorldState). with_history h w) same)

-- A world on the way, with so many rounds left at most: the rest of them makes what calm rounds make of the old world, and what is kept is of it.
pub record OnTheWay (old here : WorldState) (kept : Outstanding) (left : ℕ) : Type 0 where
  pub same : here ≡ with_history here.history old
  pub on : GoesOn old.history here.history
  pub rest : calm_rounds left (setting_of old) here.history ≡ calm (setting_of old) old.history
  pub kept_is : IsOutstanding (setting_of here) here.history kept

-- the way's beginning
pub way_begins : (w : WorldState) (kept : Outstanding) (most : ℕ) → commands (setting_of w) + 1 ≤ most → IsRun (setting_of w) w.history → IsOutstanding (setting_of w) w.history kept → OnTheWay w w kept most
way_begins w kept most enough run is = record {
  same = refl;
  on = record { more = []; is = refl };
  rest = rounds_enough most (setting_of w) w.history run.0 run.1 enough;
  kept_is = is;
}

-- the way's end, where no round is left
pub way_ends : (old here : WorldState) (kept : Outstanding) (most i : ℕ) → most ≤ i → OnTheWay old here kept (most - i) → here ≡ with_history (calm (setting_of old) old.history) old
way_ends old here kept most i all way =
    let none : most - i ≡ 0 = omega (arith, all) in
    let now : here.history ≡ calm (setting_of old) old.history = rw none at way.rest in
    way.same ∙ ap (λ (h : History). with_history h old) now

-- the way's end, where every command is replied
pub way_done : (old here : WorldState) (kept : Outstanding) (most i : ℕ) → i < most → OnTheWay old here kept (most - i) → all_replied (setting_of old) here.history ≡ true → here ≡ with_history (calm (setting_of old) old.history) old
way_done old here kept most i less way all =
    let one : most - i ≡ suc (most - (i + 1)) = omega (arith, less) in
    let now : here.history ≡ calm (setting_of old) old.history = rw (one, all) at way.rest in
    way.same ∙ ap (λ (h : History). with_history h old) now

-- the history after a round
round_is : (old here new : WorldState) (last : Outstanding) → here ≡ with_history here.history old → Passed round_passes here new last → new.history ≡ calm_round (setting_of old) here.history
round_is old here new last same round = ap (λ (w : WorldState). w.history) round.passed_is ∙ ap (λ (t : Setting). calm_round t here.history) (ap setting_of same)

-- whether there are as many replies is whether what is kept says so
replies_compared : (old here new : WorldState) (kept last : Outstanding) (c : Bool) → here ≡ with_history here.history old → IsOutstanding (setting_of here) here.history kept
    → Passed round_passes here new last → (last.replies == kept.replies) ≡ c → (replies (calm_round (setting_of old) here.history) == replies here.history) ≡ c
replies_compared old here new kept last c same kept_is round is =
    compared last.replies kept.replies (replies (calm_round (setting_of old) here.history)) (replies here.history) c
    (round.kept_is.replies_are ∙ ap replies (round_is old here new last same round)) kept_is.replies_are is

-- after one round more that replied
pub way_on : (old here new : WorldState) (kept last : Outstanding) (most i : ℕ) → i < most → OnTheWay old here kept (most - i) → all_replied (setting_of old) here.history ≡ false
    → Passed round_passes here new last → (last.replies == kept.replies) ≡ false → OnTheWay old new last (most - (i + 1))
way_on old here new kept last most i less way waits round more =
    let t = setting_of old in
    let left = most - (i + 1) in
    let now = round_is old here new last way.same round in
    record {
      same = stands_on old here new (passed (setting_of here) here.history round_passes) way.same round.passed_is;
      on = goes_on_through old.history here.history new.history way.on (subst (λ (h : History). GoesOn here.history h) (sym now) (passes_go_on t here.history round_passes));
      rest = ap (λ (h : History). calm_rounds left t h) now
          ∙ round_on left t here.history (calm t old.history) waits (replies_compared old here new kept last false way.same way.kept_is round more)
          (subst (λ (n : ℕ). calm_rounds n t here.history ≡ calm t old.history) (one_fewer most i less) way.rest);
      kept_is = round.kept_is;
    }

-- the way's end, where the last round replied to none
pub way_stops : (old here new : WorldState) (kept last : Outstanding) (most i : ℕ) → i < most → OnTheWay old here kept (most - i) → all_replied (setting_of old) here.history ≡ false
    → Passed round_passes here new last → (last.replies == kept.replies) ≡ true → new ≡ with_history (calm (setting_of old) old.history) old
way_stops old here new kept last most i less way waits round none =
    let t = setting_of old in
    let all =
    round_last (most - (i + 1)) t here.history (calm t old.history) waits (replies_compared old here new kept last true way.same way.kept_is round none)
    (subst (λ (n : ℕ). calm_rounds n t here.history ≡ calm t old.history) (one_fewer most i less) way.rest) in
    stands_on old here new (passed (setting_of here) here.history round_passes) way.same round.passed_is
    ∙ ap (λ (h : History). with_history h old) (round_is old here new last way.same round ∙ all)

-- some first entries of one round more
pub way_some : (old here new : WorldState) (kept : Outstanding) (most i : ℕ) → i < most → OnTheWay old here kept (most - i) → all_replied (setting_of old) here.history ≡ false
    → PassedInPart round_passes here new → IsPart (calm (setting_of old) old.history) old new
way_some old here new kept most i less way waits part =
    let t = setting_of old in
    let round : IsPart (calm_round t here.history) here new = subst (λ (t : Setting). IsPart (calm_round t here.history) here new) (ap setting_of way.same) part in
    let left = most - (i + 1) in
    let all : calm_rounds (suc left) t here.history ≡ calm t old.history = subst (λ (n : ℕ). calm_rounds n t here.history ≡ calm t old.history) (one_fewer most i less) way.rest in
    let on : GoesOn (calm_round t here.history) (calm t old.history) =
    subst (λ (h : History). GoesOn (calm_round t here.history) h) (sym (round_then left t here.history waits) ∙ all) (further (replies (calm_round t here.history) == replies here.history)) in
    part_later (calm t old.history) old here new way.on way.same (part_longer (calm_round t here.history) (calm t old.history) here new on round)
  where
    further : (none : Bool)
        → GoesOn (calm_round (setting_of old) here.history)
        (if none then calm_round (setting_of old) here.history else calm_rounds (most - (i + 1)) (setting_of old) (calm_round (setting_of old) here.history))
    further true = record { more = []; is = refl }
    further false = rounds_go_on (most - (i + 1)) (setting_of old) (calm_round (setting_of old) here.history)

-- nothing of the way
pub way_none : (old new : WorldState) → new ≡ old → IsPart (calm (setting_of old) old.history) old new
way_none old new same = part_none (calm (setting_of old) old.history) old new same (rounds_go_on (commands (setting_of old) + 1) (setting_of old) old.history)

-- ---- as the code says it

-- what code says of the commands of a world on the way is so for the old world's setting
pub all_in : (old here : WorldState) (b c : Bool) → here ≡ with_history here.history old → b ≡ all_replied (setting_of here) here.history → b ≡ c → all_replied (setting_of old) here.history ≡ c
all_in old here b c same is says = subst (λ (t : Setting). all_replied t here.history ≡ c) (ap setting_of same) (sym is ∙ says)

-- other things that are kept of the same world
pub way_kept : (old here : WorldState) (kept other : Outstanding) (left : ℕ) → OnTheWay old here kept left → IsOutstanding (setting_of here) here.history other → OnTheWay old here other left
way_kept old here kept other left way is = record { same = way.same; on = way.on; rest = way.rest; kept_is = is }
