-- A settler that settles its open round.
use Rattle.std.proofs.Common.{◌≡◌, ℕ, zero, suc, ◌+◌, ◌<◌, ◌≤◌, Bool, true, false, Option, Some, None, List, [], ◌∷◌, ◌++◌, length, take, map, get_or, refl, sym, ap, subst, ◌∙◌, arith, inl, inr}
use Rattle.std.specs.Prelude.{if◌then◌else◌, nat_le, nat_lt}
use Rattle.std.specs.List.{AllByRecursion}
use Rattle.std.specs.Option.{option_map}
use Rattle.std.proofs.lemmas.Bool.{and_parts, leb-true, ltb-true}
use Rattle.std.proofs.lemmas.List.{take_all, take_more}
use Rattle.ov_base.specs.declared.value.Value.{Value}
use Rattle.ov_base.specs.declared.value.Value.TheVariants.{Absent}
use Rattle.ov_functor.specs.Unions.{IsSorted, backwards, is_inside, union}
use Rattle.ov_functor.specs.Values.{evaluated, value_or}
use Rattle.ov_functor.specs.Windows.{Among}
use Rattle.ov_functor.specs.declared.item.Item.{Item}
use Rattle.ov_functor.proofs.Unions.{all_added_comes, all_added_sorted}
use Rattle.ov_topology.specs.Shape.{Shape}
use Rattle.ov_topology.specs.declared.actor.Actor.{Actor}
use Rattle.ov_topology.specs.declared.mode.Mode.{Mode}
use Rattle.ov_topology.specs.declared.mode.Mode.TheVariants.{Quorum, One}
use Rattle.ov_lists.specs.Entries.{Entry, latest_of}
use Rattle.ov_event.specs.Letters.{is_in}
use Rattle.ov_event.specs.declared.kind.Kind.TheVariants.{Settled}
use Rattle.ov_history.specs.Past.{History}
use Rattle.ov_history.specs.Counts.{all_below, passing}
use Rattle.ov_history.specs.Settlers as settlers
use Rattle.ov_history.specs.Settlers.{known_below, open_round, plan_values, took}
use Rattle.ov_history.specs.Gives.{Settle, gives, is_enough, settles}
use Rattle.ov_history.specs.May.{Setting}
use Rattle.ov_history.specs.Cores.{kept, Steps}
use Rattle.ov_history.proofs.Given.{all_below_at, enough_is, settler_known}
use Rattle.ov_history.proofs.Giving.{may_settles}
use Rattle.ov_window.specs.Evaluation.{only, values_of}
use Rattle.ov_window.specs.Harvest as harvests
use Rattle.ov_window.specs.Harvest.{Gathered, IsComplete, IsWhole, has_answered, marks_of}
use Rattle.ov_window.specs.Plan.{item_or, map_below, plan_over}
use Rattle.ov_window.specs.declared.plan.Task.{Task}
use Rattle.ov_window.proofs.PlanValues.{plan_right}
use Rattle.ov_settler.specs.Settler.{SettlerState, Gathers, IsOwn, IsSettler, is_settled, round_of, valued_of}
use Rattle.ov_settler.specs.Calls.{Closes, settled_by, valued_tasks}
use Rattle.ov_settler.proofs.Stands.{by_settler, nothing_more, Goes, some_steps, none_steps}
use Rattle.ov_settler.proofs.Takes.{current_is}
use Rattle.ov_settler.proofs.Values.{all_new, at_places, item_place, kept_all, plan_valued, settled_places, value_place, versions_kept}

-- ---- answers enough

-- marks that pass where a test does are its marks
passing_is : (f : ℕ → Bool) (marks : List Bool) (n : ℕ) → n ≤ length marks → ((c : ℕ) → c < n → get_or marks c false ≡ f c) → passing f n ≡ take n marks
passing_is f marks zero within same = refl
passing_is f marks (suc n) within same =
    let rest = passing_is f marks n (omega (arith, within)) (λ c less. same c (omega (arith, less))) in
    let next : suc n ≡ n + 1 = omega arith in
    let more : take (suc n) marks ≡ take n marks ++ get_or marks n false ∷ [] = ap (λ k. take k marks) next ∙ take_more marks n false (omega (arith, within)) in
    rw (more, rest, same n (omega arith)) refl

-- ---- the map that is known

value_same : (found : Option (Entry Value)) → item_or Absent found ≡ value_or Absent (option_map valued_of found)
value_same None = refl
value_same (Some entry) = refl

-- what version lists have just below a number is what the settler knows there
pub base_is : (t : Setting) (h : History) (actor : Actor) (s : SettlerState) (number : ℕ) → IsSettler t h actor s → map_below number s.values ≡ known_below s.centre h number
base_is t h actor s number is = λ i key. (value_same (latest_of key number s.values) ∙ ap (value_or Absent) (sym (is.values_are key number))) i

module _ (t : Setting) (h : History) (actor : Actor) (s : SettlerState) (one : Gathered) (is : IsSettler t h actor s) (there : s.harvest ≡ Some one) where
  pub gathers : Gathers t.topology h s one
  gathers = is.gathers one there

  votes_are : (p : ℕ) → p < t.topology.partitions → passing (λ c. took s.centre s.rounds c p h) t.topology.centres ≡ marks_of one p
  votes_are p within =
      let wide : length (marks_of one p) ≡ t.topology.centres = gathers.marked.centres p (rw gathers.topology_is within) ∙ ap (λ (shape : Shape). shape.centres) gathers.topology_is in
      passing_is (λ c. took s.centre s.rounds c p h) (marks_of one p) t.topology.centres (omega (arith, wide)) (λ c less. gathers.answers_are c p less within) ∙ take_all t.topology.centres (marks_of one p) (omega (arith, wide))

  -- a partition gave answers enough exactly where the harvest has them
  pub enough_where : (p : ℕ) → p < t.topology.partitions → IsComplete one p → settlers.IsEnough t.topology s.centre (round_of s.rounds one) p h one.round.mode
  enough_where p within complete = by one.round.mode complete
    where
      by : (mode : Mode) → harvests.IsEnough one.topology one.round.settler (marks_of one p) mode → settlers.IsEnough t.topology s.centre (round_of s.rounds one) p h mode
      by Quorum complete = rw (votes_are p within, sym gathers.topology_is) complete
      by One complete =
          let here = settler_known t.topology s.centre (subst (λ a. is_in t.topology a ≡ true) is.actor_is is.runs.known) in
          sym (gathers.answers_are s.centre p here within) ∙ subst (λ centre. get_or (marks_of one p) centre false ≡ true) gathers.settler_is complete

  pub complete_where : (p : ℕ) → p < t.topology.partitions → settlers.IsEnough t.topology s.centre (round_of s.rounds one) p h one.round.mode → IsComplete one p
  complete_where p within enough = by one.round.mode enough
    where
      by : (mode : Mode) → settlers.IsEnough t.topology s.centre (round_of s.rounds one) p h mode → harvests.IsEnough one.topology one.round.settler (marks_of one p) mode
      by Quorum enough = rw gathers.topology_is (rw (votes_are p within) at enough)
      by One enough =
          let here = settler_known t.topology s.centre (subst (λ a. is_in t.topology a ≡ true) is.actor_is is.runs.known) in
          subst (λ centre. get_or (marks_of one p) centre false ≡ true) (sym gathers.settler_is) (gathers.answers_are s.centre p here within ∙ enough)

  -- the values of the plan of the core are those of the plan of the round
  pub values_is : (plan : List Task) (values : List Value) → plan ≡ plan_over s.values one → values ≡ values_of plan → valued_tasks plan values ≡ plan_values s.centre (round_of s.rounds one) h
  values_is plan values plan_is values_are =
      let base = map_below one.round.from s.values in
      let items = union one.items in
      let sorted : IsSorted items = all_added_sorted one.items [] tt in
      let right : values ≡ only (backwards (evaluated base (backwards items))) = values_are ∙ (ap values_of plan_is ∙ plan_right base items sorted) in
      (λ i. valued_tasks (plan_is i) (right i)) ∙ (plan_valued base items
      ∙ (λ i. backwards (evaluated (base_is t h actor s one.round.from is i) (backwards (gathers.items_are i)))))

  -- each item lies in the window of the round
  in_window : (item : Item) → Among item (union one.items) → (one.round.from ≤ item.version) × (item.version < one.round.below)
  in_window item among =
      elim (all_added_comes item one.items [] among) [
        | inl held ↦ let parts = and_parts (nat_le one.round.from item.version) (nat_lt item.version one.round.below) (each one.items gathers.inside held) in (leb-true one.round.from item.version parts.0, ltb-true item.version one.round.below parts.1)
        | inr none ↦ absurd none
      ]
    where
      each : (items : List Item) → AllByRecursion (λ (other : Item). is_inside one.round.from one.round.below other ≡ true) items → Among item items → is_inside one.round.from one.round.below item ≡ true
      each [] inside among = absurd among
      each (first ∷ rest) inside (inl same) = rw same inside.0
      each (first ∷ rest) inside (inr later) = each rest inside.1 later

  places_are : map value_place (plan_values s.centre (round_of s.rounds one) h) ≡ map item_place (union one.items)
  places_are = settled_places (known_below s.centre h one.round.from) (settlers.harvest s.centre s.rounds h) ∙ ap (map item_place) (sym gathers.items_are)

  -- the core after it settled
  pub settle_goes : s.stopped ≡ false → Goes t h s (settled_by one.round.below (plan_values s.centre (round_of s.rounds one) h) s) (Settled (plan_values s.centre (round_of s.rounds one) h))
  settle_goes running = record {
    stopped_is = refl;
    width = refl;
    marks_are = λ k less. nothing_more _;
    rounds_are = omega arith;
    settled_is = sym (ap (λ (o : Option settlers.Round). settlers.upper_end o s.settled) (current_is t h actor s one is there));
    round_is = refl;
    gathers = λ it is_it. absurd cc;
    later = λ n c p past. is.later n c p past;
    values_are = kept_all (plan_values s.centre (round_of s.rounds one) h) (settlers.values_of s.centre h) s.values
        (all_new one.round.from (plan_values s.centre (round_of s.rounds one) h) (union one.items) s.values places_are (all_added_sorted one.items [] tt) (λ item among. (in_window item among).0)
        (subst (λ n. AllByRecursion (λ (entry : Entry Value). entry.version < n) s.values) (sym gathers.from_is) is.under))
        is.values_are;
    under = versions_kept (λ version. version < one.round.below) (plan_values s.centre (round_of s.rounds one) h) s.values
        (at_places (λ place. place.0 < one.round.below) (plan_values s.centre (round_of s.rounds one) h) (union one.items) places_are (λ item among. (in_window item among).1))
        (below_all s.values is.under);
  }
    where
      below_all : (entries : List (Entry Value)) → AllByRecursion (λ (entry : Entry Value). entry.version < s.settled) entries → AllByRecursion (λ (entry : Entry Value). entry.version < one.round.below) entries
      below_all [] under = tt
      below_all (entry ∷ entries) under = let less = under.0 in (omega (arith, less, gathers.from_is, gathers.some), below_all entries under.1)

  -- ---- what is given

  pub settle_given : s.stopped ≡ false → IsWhole one → kept is_settled (gives t h actor Settle) ≡ Some (by_settler s.centre (Settled (plan_values s.centre (round_of s.rounds one) h)))
  settle_given running whole =
      let may : settles t.topology h s.centre ≡ Some (Settled (plan_values s.centre (round_of s.rounds one) h)) = may_settles t.topology h s.centre (plan_values s.centre (round_of s.rounds one) h) (record {
        current = round_of s.rounds one;
        current_is = current_is t h actor s one is there;
        enough = λ p within. enough_where p within (whole p (rw gathers.topology_is within));
        values_are = refl;
      }) in
      rw (is.runs.known, sym is.runs.stopped_is, running, is.actor_is, may) refl

  -- where a partition lacks answers none is given
  pub settle_lacks : (IsWhole one → ⊥) → settles t.topology h s.centre ≡ None
  settle_lacks lacks = rw (current_is t h actor s one is there) (by (all_below (is_enough t.topology s.centre (round_of s.rounds one) h one.round.mode) t.topology.partitions) refl)
    where
      by : (b : Bool) → all_below (is_enough t.topology s.centre (round_of s.rounds one) h one.round.mode) t.topology.partitions ≡ b
          → (if b then Some (Settled (plan_values s.centre (round_of s.rounds one) h)) else None) ≡ None
      by false not_all = refl
      by true all = absurd (lacks (λ p within.
          let inside : p < t.topology.partitions = rw (sym gathers.topology_is) within in
          complete_where p inside (enough_is t.topology s.centre (round_of s.rounds one) h one.round.mode p (all_below_at (is_enough t.topology s.centre (round_of s.rounds one) h one.round.mode) t.topology.partitions all p inside))))

-- ---- the call

pub settle_none : (t : Setting) (h : History) (actor : Actor) (s : SettlerState) → IsSettler t h actor s → ((below : ℕ) → Closes s below → ⊥) → Steps IsSettler is_settled t h actor Settle None s
settle_none t h actor s is not_so = none_steps is_settled t h actor Settle s is (by s.stopped refl s.harvest refl)
  where
    running_gives : s.stopped ≡ false → settles t.topology h s.centre ≡ None → kept is_settled (gives t h actor Settle) ≡ None
    running_gives running none = rw (is.runs.known, sym is.runs.stopped_is, running, is.actor_is, none) refl

    by : (a : Bool) → s.stopped ≡ a → (o : Option Gathered) → s.harvest ≡ o → kept is_settled (gives t h actor Settle) ≡ None
    by true ended o held = rw (is.runs.known, sym is.runs.stopped_is, ended) refl
    by false running None held = running_gives running (rw (sym is.round_is, held) refl)
    by false running (Some one) held = running_gives running (settle_lacks t h actor s one is held (λ whole. not_so one.round.below (record { harvest = one; open_is = held; running = running; whole = whole; below_is = refl })))

pub settle_steps : (t : Setting) (h : History) (actor : Actor) (s : SettlerState) (below : ℕ) (plan : List Task) (values : List Value) → IsSettler t h actor s → Closes s below → IsOwn s plan values
    → Steps IsSettler is_settled t h actor Settle (Some (by_settler s.centre (Settled (valued_tasks plan values)))) (settled_by below (valued_tasks plan values) s)
settle_steps t h actor s below plan values is closes own =
    let one = closes.harvest in
    let mine = own one closes.open_is closes.whole in
    let all = values_is t h actor s one is closes.open_is plan values mine.0 mine.1 in
    subst (λ n. Steps IsSettler is_settled t h actor Settle (Some (by_settler s.centre (Settled (valued_tasks plan values)))) (settled_by n (valued_tasks plan values) s)) (sym closes.below_is)
    (subst (λ vs. Steps IsSettler is_settled t h actor Settle (Some (by_settler s.centre (Settled vs))) (settled_by one.round.below vs s)) (sym all)
    (some_steps is_settled t h actor Settle s (settled_by one.round.below (plan_values s.centre (round_of s.rounds one) h) s) (Settled (plan_values s.centre (round_of s.rounds one) h)) is
    (settle_given t h actor s one is closes.open_is closes.running closes.whole) (settle_goes t h actor s one is closes.open_is closes.running)))
