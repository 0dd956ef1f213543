-- Sessions that begin one after another: a command that may not begin may not begin after commands of other sessions.
use Rattle.std.proofs.Common.{◌≡◌, ℕ, zero, suc, ◌+◌, ◌^◌, ◌≤◌, ◌==◌, Bool, true, false, not, ◌&&◌, ◌||◌, Option, Some, None, List, [], ◌∷◌, ◌++◌, refl, subst, ap, arith, inl, inr}
use Rattle.std.specs.Prelude.{nat_lt, is_some, slice_get, if◌then◌else◌}
use Rattle.std.specs.List.{list_all}
use Rattle.std.specs.Option.{option_map}
use Rattle.std.proofs.lemmas.Bool.{ne_eqb, cases_Bool}
use Rattle.std.proofs.lemmas.Grind.{common_steps}
use Rattle.ov_base.specs.Word.{◌>>=◌}
use Rattle.ov_functor.specs.declared.command.Command.{Command}
use Rattle.ov_functor.specs.declared.command.Command.TheVariants as commands
use Rattle.ov_topology.specs.declared.actor.Actor.TheVariants.{Gate}
use Rattle.ov_session.specs.Events.{begun, replied, known, floor}
use Rattle.ov_session.specs.declared.after.After.{After}
use Rattle.ov_session.specs.declared.planned.Planned.{Planned}
use Rattle.ov_session.specs.declared.plan.SessionPlan.{SessionPlan}
use Rattle.ov_event.specs.Letters.{is_in}
use Rattle.ov_event.specs.declared.entry.Entry.{Entry}
use Rattle.ov_event.specs.declared.kind.Kind.{Kind}
use Rattle.ov_event.specs.declared.kind.Kind.TheVariants.{Began}
use Rattle.ov_event.specs.declared.start.Start.{Start}
use Rattle.ov_history.specs.Past.{History, stopped}
use Rattle.ov_history.specs.Draws.{last}
use Rattle.ov_history.specs.Sessions.{events_of}
use Rattle.ov_history.specs.May.{Setting}
use Rattle.ov_history.specs.Gives.{Begin, gives, begins, ready, start_of, is_known, time_at}
use Rattle.ov_history.specs.Cores.{onto}
use Rattle.ov_follow.specs.Lines.{Line, begin_line, begin_of, followed, followed_all}
use Rattle.ov_follow.specs.Passes.{each, only, can}
use Rattle.ov_world.specs.World.{WorldState, setting_of}
use Rattle.ov_step.specs.Followed.{Followed, with_history}
use Rattle.ov_follow.proofs.Following.{followed_behind}
use Rattle.ov_step.proofs.Passing.{unlisted_next, listed_more}

-- ---- one more command, of another session

-- of tests with the same values, a list passes one where it passes the other
list_all_same : {A : Type 0} (f g : A → Bool) (xs : List A) → ((x : A) → f x ≡ g x) → list_all f xs ≡ list_all g xs
list_all_same f g [] same = refl
list_all_same f g (x ∷ xs) same = rw (same x, list_all_same f g xs same) refl

-- a gateway's entry
abbrev entry_by : ℕ → Kind → Entry
entry_by g kind = record { actor = Gate g; kind = kind }

module _ (h : History) (b other c : ℕ) (start : Start) where
  -- the history with the entry
  abbrev longer : History
  longer = record { actor = Gate b; kind = Began other c start } ∷ h

  -- an actor that runs still runs
  stopped_same : (g : ℕ) → stopped (Gate g) longer ≡ stopped (Gate g) h
  stopped_same g = by (b == g)
    where
      by : (t : Bool) → ((if t then false else false) || stopped (Gate g) h) ≡ stopped (Gate g) h
      by true = refl
      by false = refl

  -- the last command of a session
  begun_same : (g s : ℕ) → (other == s) ≡ false → begun s (events_of g longer) ≡ begun s (events_of g h)
  begun_same g s apart = grind (arith, common_steps)

  -- the last reply to a session
  replied_same : (g s : ℕ) → replied s (events_of g longer) ≡ replied s (events_of g h)
  replied_same g s = grind (arith, common_steps)

  -- what is known as replied
  known_same : (g s : ℕ) → known s (events_of g longer) ≡ known s (events_of g h)
  known_same g s = grind (arith, common_steps)

  -- the floor of a session
  floor_same : (g s : ℕ) → floor s (events_of g longer) ≡ floor s (events_of g h)
  floor_same g s = grind (arith, common_steps)

  -- the last time of a gateway does not fall
  last_grows : (g : ℕ) → last g h ≤ last g longer
  last_grows g = grind (arith, common_steps)

  -- what a command waits for
  waited_same : (g : ℕ) (waited : List After) → list_all (is_known g longer) waited ≡ list_all (is_known g h) waited
  waited_same g waited = list_all_same (is_known g longer) (is_known g h) waited (λ after. rw (known_same g after.session) refl)

  -- the command that is next
  ready_same : (t : Setting) (g s : ℕ) → (other == s) ≡ false → ready t longer g s ≡ ready t h g s
  ready_same t g s apart = rw (begun_same g s apart, replied_same g s) (by_plan (slice_get t.roster.sessions s))
    where
      by_planned : (o : Option Planned)
          → (o >>= λ planned. if list_all (is_known g longer) planned.after then Some planned else None) ≡ (o >>= λ planned. if list_all (is_known g h) planned.after then Some planned else None)
      by_planned None = refl
      by_planned (Some planned) = rw (waited_same g planned.after) refl

      by_plan : (o : Option SessionPlan)
          → (o >>= λ plan. (if (plan.gate == g) && (begun s (events_of g h) == replied s (events_of g h)) then slice_get plan.planned (begun s (events_of g h)) else None) >>= λ planned. if list_all (is_known g longer) planned.after then Some planned else None)
          ≡ (o >>= λ plan. (if (plan.gate == g) && (begun s (events_of g h) == replied s (events_of g h)) then slice_get plan.planned (begun s (events_of g h)) else None) >>= λ planned. if list_all (is_known g h) planned.after then Some planned else None)
      by_plan None = refl
      by_plan (Some plan) = by_planned (if (plan.gate == g) && (begun s (events_of g h) == replied s (events_of g h)) then slice_get plan.planned (begun s (events_of g h)) else None)

  -- a command without a start still has none
  start_none : (g s clock : ℕ) (command : Command) → start_of h g s clock command ≡ None → start_of longer g s clock command ≡ None
  start_none g s clock (commands.Transact parts) none =
      elim (cases_Bool (nat_lt (time_at clock (last g h + 1)) (2 ^ 47))) [
        | inl early ↦ absurd (no_start early none)
        | inr late ↦ let later = late_grows (last g h) (last g longer) (last_grows g) late in rw later refl
      ]
    where
      no_start : nat_lt (time_at clock (last g h + 1)) (2 ^ 47) ≡ true → start_of h g s clock (commands.Transact parts) ≡ None → ⊥
      no_start early none = grind (arith, common_steps)

      late_grows : (first second : ℕ) → first ≤ second → nat_lt (time_at clock (first + 1)) (2 ^ 47) ≡ false → nat_lt (time_at clock (second + 1)) (2 ^ 47) ≡ false
      late_grows first second more late = grind (arith, common_steps)
  start_none g s clock (commands.Snap keys) none = absurd cc

  -- a command that may not begin still may not
  begins_none : (t : Setting) (g s clock : ℕ) → (other == s) ≡ false → begins t h g s clock ≡ None → begins t longer g s clock ≡ None
  begins_none t g s clock apart = rw (ready_same t g s apart) (by (ready t h g s))
    where
      by_start : (command : Command) (o : Option Start) (seq more : ℕ) → start_of h g s clock command ≡ o → (o >>= λ start. Some (Began s seq start)) ≡ None
          → (start_of longer g s clock command >>= λ start. Some (Began s more start)) ≡ None
      by_start command None seq more is none = rw (start_none g s clock command is) refl
      by_start command (Some start) seq more is none = absurd cc

      by : (o : Option Planned) → (o >>= λ planned. start_of h g s clock planned.command >>= λ start. Some (Began s (begun s (events_of g h) + 1) start)) ≡ None
          → (o >>= λ planned. start_of longer g s clock planned.command >>= λ start. Some (Began s (begun s (events_of g longer) + 1) start)) ≡ None
      by None none = refl
      by (Some planned) none = by_start planned.command (start_of h g s clock planned.command) (begun s (events_of g h) + 1) (begun s (events_of g longer) + 1) refl none

  -- a gateway that gives nothing for it still gives nothing
  gives_none : (t : Setting) (g s clock : ℕ) → (other == s) ≡ false → gives t h (Gate g) (Begin s clock) ≡ None → gives t longer (Gate g) (Begin s clock) ≡ None
  gives_none t g s clock apart = rw (stopped_same g) (by (is_in t.topology (Gate g) && not (stopped (Gate g) h)))
    where
      by_kind : (o : Option Kind) → begins t h g s clock ≡ o → option_map (entry_by g) o ≡ None
          → option_map (entry_by g) (begins t longer g s clock) ≡ None
      by_kind None is none = rw (begins_none t g s clock apart is) refl
      by_kind (Some kind) is none = absurd cc

      by : (b : Bool) → (if b then option_map (entry_by g) (begins t h g s clock) else None) ≡ None
          → (if b then option_map (entry_by g) (begins t longer g s clock) else None) ≡ None
      by true none = by_kind (begins t h g s clock) refl none
      by false none = refl

-- ---- lines of other sessions

-- the line of another session does not let a command begin
none_onto : (t : Setting) (h : History) (b other g s : ℕ) → (other == s) ≡ false → gives t h (Gate g) (Begin s 0) ≡ None
    → gives t (onto (gives t h (Gate b) (Begin other 0)) h) (Gate g) (Begin s 0) ≡ None
none_onto t h b other g s apart none = by (is_in t.topology (Gate b) && not (stopped (Gate b) h)) (ready t h b other)
  where
    by_start : (o : Option Start)
        → gives t (onto (option_map (entry_by b) (o >>= λ start. Some (Began other (begun other (events_of b h) + 1) start))) h) (Gate g) (Begin s 0) ≡ None
    by_start None = none
    by_start (Some start) = gives_none h b other (begun other (events_of b h) + 1) start t g s 0 apart none

    by : (running : Bool) (o : Option Planned)
        → gives t (onto (if running then option_map (entry_by b) (o >>= λ planned. start_of h b other 0 planned.command >>= λ start. Some (Began other (begun other (events_of b h) + 1) start)) else None) h) (Gate g) (Begin s 0) ≡ None
    by true None = none
    by true (Some planned) = by_start (start_of h b other 0 planned.command)
    by false o = none

-- the line that is listed for a session
abbrev pub begin : Setting → History → ℕ → List Line
begin t h s = can t h (begin_of t.roster 0 s)

-- what is listed for another session does not let a command begin
none_listed : (t : Setting) (h here : History) (other g s : ℕ) → (other == s) ≡ false → gives t here (Gate g) (Begin s 0) ≡ None
    → gives t (followed_all t here (begin t h other)) (Gate g) (Begin s 0) ≡ None
none_listed t h here other g s apart none = by_plan (slice_get t.roster.sessions other)
  where
    by_test : (plan : SessionPlan) (b : Bool) → gives t (followed_all t here (only b (begin_line other 0 plan))) (Gate g) (Begin s 0) ≡ None
    by_test plan true = none_onto t here plan.gate other g s apart none
    by_test plan false = none

    by_plan : (o : Option SessionPlan) → gives t (followed_all t here (can t h (option_map (begin_line other 0) o))) (Gate g) (Begin s 0) ≡ None
    by_plan None = none
    by_plan (Some plan) = by_test plan (is_some (gives t h (Gate plan.gate) (Begin other 0)))

-- the lines of lesser sessions do not let a command begin
none_on : (t : Setting) (h : History) (g s n : ℕ) → n ≤ s → gives t h (Gate g) (Begin s 0) ≡ None
    → gives t (followed_all t h (each (begin t h) n)) (Gate g) (Begin s 0) ≡ None
none_on t h g s zero below none = none
none_on t h g s (suc n) below none =
    rw (followed_behind t h (each (begin t h) n) (begin t h n)) (none_listed t h (followed_all t h (each (begin t h) n)) n g s
    (ne_eqb n s (λ same. absurd (omega (arith, below, same)))) (none_on t h g s n (omega (arith, below)) none))

-- ---- sessions in order

-- the line of a session, behind those of the lesser ones
begin_next : (t : Setting) (h : History) (s : ℕ) (line : Line) → begin_of t.roster 0 s ≡ Some line
    → followed_all t h (each (begin t h) s ++ begin t h s) ≡ followed t (followed_all t h (each (begin t h) s)) line
begin_next t h s line is = by_plan (slice_get t.roster.sessions s) refl is
  where
    by_given : (plan : SessionPlan) (o : Option Entry) → gives t h (Gate plan.gate) (Begin s 0) ≡ o
        → followed_all t h (each (begin t h) s ++ only (is_some o) (begin_line s 0 plan)) ≡ followed t (followed_all t h (each (begin t h) s)) (begin_line s 0 plan)
    by_given plan None none = unlisted_next t h (each (begin t h) s) (begin_line s 0 plan)
        (ap (λ (answer : Option Entry). onto answer (followed_all t h (each (begin t h) s))) (none_on t h plan.gate s s (omega arith) none))
    by_given plan (Some e) some = followed_behind t h (each (begin t h) s) (begin_line s 0 plan ∷ [])

    by_plan : (o : Option SessionPlan) → slice_get t.roster.sessions s ≡ o → option_map (begin_line s 0) o ≡ Some line
        → followed_all t h (each (begin t h) s ++ can t h (option_map (begin_line s 0) o)) ≡ followed t (followed_all t h (each (begin t h) s)) line
    by_plan None there none = absurd cc
    by_plan (Some plan) there some =
        let same : begin_line s 0 plan ≡ line = cc in
        subst (λ (l : Line). followed_all t h (each (begin t h) s ++ can t h (Some (begin_line s 0 plan))) ≡ followed t (followed_all t h (each (begin t h) s)) l) same
        (by_given plan (gives t h (Gate plan.gate) (Begin s 0)) refl)

-- one session more
pub begin_more : (n : ℕ) (line : Line) (old here new : WorldState) → begin_of (setting_of old).roster 0 n ≡ Some line → Followed (each (begin (setting_of old) old.history) n) old here
    → new ≡ with_history (followed (setting_of here) here.history line) here → Followed (each (begin (setting_of old) old.history) (n + 1)) old new
begin_more n line old here new there is next =
    listed_more (begin (setting_of old) old.history) line n old here new (begin_next (setting_of old) old.history n line there) is next
