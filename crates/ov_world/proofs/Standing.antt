-- The cores of a world, after one more entry.
use Rattle.std.proofs.Common.{◌≡◌, ◌≢◌, ℕ, zero, suc, ◌+◌, ◌<◌, Bool, true, false, IsTrue, ◌↔◌, ◌==◌, ◌||◌, Some, None, List, [], ◌∷◌, ◌++◌, length, get_or, refl, sym, ap, subst, ◌∙◌, arith, inl, inr}
use Rattle.std.specs.Prelude.{slice_get, slice_set, if◌then◌else◌}
use Rattle.std.proofs.lemmas.Bool.{eqb-true, false_from_ne_true}
use Rattle.std.proofs.lemmas.Bool.Decides.{eqb_tells}
use Rattle.std.proofs.lemmas.List.{length-append, length-set}
use Rattle.std.proofs.lemmas.Option.{same_Some, slice_get_read}
use Rattle.ov_topology.specs.Shape.{Shape, IsShape}
use Rattle.ov_topology.specs.Numbers.{actor_at, number_of}
use Rattle.ov_topology.specs.declared.actor.Actor.{Actor}
use Rattle.ov_topology.specs.declared.actor.Actor.TheVariants as actors
use Rattle.ov_topology.proofs.Numbers.{number_of_actor}
use Rattle.ov_event.specs.declared.entry.Entry.{Entry}
use Rattle.ov_history.specs.Past.{History, same_actor, stopped, stops}
use Rattle.ov_history.specs.May.{Setting, May, Lawful}
use Rattle.ov_history.specs.Gives.{Act, act_of, gives}
use Rattle.ov_history.specs.Cores.{onto}
use Rattle.ov_history.proofs.Cores.{runs_on}
use Rattle.ov_history.proofs.Given.{given_follows}
use Rattle.ov_history.proofs.Giving.{may_given}
use Rattle.ov_history.proofs.Stays.{held-stays}
use Rattle.ov_node.specs.Node.{NodeState, IsNode}
use Rattle.ov_gate.proofs.Others.{stays as gate_stays}
use Rattle.ov_settler.proofs.Others.{stays as settler_stays}
use Rattle.ov_base.proofs.Lists.{get_next}
use Rattle.ov_world.proofs.Numbered.{get_other}
use Rattle.ov_world.specs.Actors.{AllStand, Does, StandUpTo, Stands}
use Rattle.ov_world.specs.World.{IsWorld}
use Rattle.ov_world.specs.declared.actor_core.ActorCore.{ActorCore}
use Rattle.ov_world.specs.declared.actor_core.ActorCore.TheVariants.{Gate, Node, Settler}

-- ---- one core

node_stays : (t : Setting) (h : History) (actor : Actor) (node : NodeState) (e : Entry) → IsNode t h actor node → same_actor actor e.actor ≡ false → IsNode t (e ∷ h) actor node
node_stays t h actor node e is other = record {
  actor_is = is.actor_is;
  runs = runs_on t h actor node.stopped e other is.runs;
  items_are = is.items_are ∙ sym (held-stays h e.actor e.kind node.centre node.part (rw is.actor_is at other));
}

-- an entry of another actor leaves a core standing
core_stays : (t : Setting) (h : History) (actor : Actor) (core : ActorCore) (e : Entry) → Stands t h actor core → same_actor actor e.actor ≡ false → Stands t (e ∷ h) actor core
core_stays t h actor (Gate core) e stands other = gate_stays t h actor core e stands other
core_stays t h actor (Node core) e stands other = node_stays t h actor core e stands other
core_stays t h actor (Settler core) e stands other = settler_stays t h actor core e stands other

-- ---- actors and their numbers

-- two actors that pass the test are one
same_is : (a b : Actor) → same_actor a b ≡ true → a ≡ b
same_is (actors.Gate g) (actors.Gate k) same = ap actors.Gate (sym (eqb-true k g same))
same_is (actors.Gate g) (actors.Node c p) same = absurd cc
same_is (actors.Gate g) (actors.Settler s) same = absurd cc
same_is (actors.Node c p) (actors.Gate k) same = absurd cc
same_is (actors.Node c p) (actors.Node d q) same = by (d == c) same refl
  where
    by : (b : Bool) → (if b then q == p else false) ≡ true → (d == c) ≡ b → actors.Node c p ≡ actors.Node d q
    by true part centre = rw (eqb-true d c centre, eqb-true q p part) refl
    by false part centre = absurd cc
same_is (actors.Node c p) (actors.Settler s) same = absurd cc
same_is (actors.Settler s) (actors.Gate k) same = absurd cc
same_is (actors.Settler s) (actors.Node c p) same = absurd cc
same_is (actors.Settler s) (actors.Settler k) same = ap actors.Settler (sym (eqb-true k s same))

-- actors of two numbers are not one
apart : (t : Shape) (n k : ℕ) (a b : Actor) → IsShape t → actor_at t n ≡ Some a → actor_at t k ≡ Some b → n ≢ k → same_actor a b ≡ false
apart t n k a b shape one other differ = false_from_ne_true (same_actor a b) (λ same.
    let first = number_of_actor t shape n a one in
    let second = number_of_actor t shape k b other in
    differ (same_Some n k (sym first ∙ (ap (number_of t) (same_is a b same) ∙ second))))

-- ---- all cores

set_same : {X : Type 0} (xs : List X) (k : ℕ) (x : X) → k < length xs → slice_get (slice_set xs k x) k ≡ Some x
set_same [] k x less = absurd (omega (arith, less))
set_same (first ∷ xs) zero x less = refl
set_same (first ∷ xs) (suc k) x less = set_same xs k x (omega (arith, less))

set_other : {X : Type 0} (xs : List X) (k j : ℕ) (x : X) → j ≢ k → slice_get (slice_set xs k x) j ≡ slice_get xs j
set_other [] k j x differ = refl
set_other (first ∷ xs) zero zero x differ = absurd (differ refl)
set_other (first ∷ xs) zero (suc j) x differ = refl
set_other (first ∷ xs) (suc k) zero x differ = refl
set_other (first ∷ xs) (suc k) (suc j) x differ = set_other xs k j x (λ same. differ (ap suc same))

-- where the core of an actor stands for the history with its entry, and all stood for the history before it, all do
all_stand_more : (t : Setting) (h : History) (cores : List ActorCore) (number : ℕ) (e : Entry) (new : ActorCore) → IsShape t.topology → AllStand t h cores → actor_at t.topology number ≡ Some e.actor → number < length cores
    → Stands t (e ∷ h) e.actor new → AllStand t (e ∷ h) (slice_set cores number new)
all_stand_more t h cores number e new shape stand there within stands = record {
  all = length-set cores number new ∙ stand.all;
  each = λ k actor core is got. elim (eqb_tells k number) [
    | inl same ↦
        let actor_is : e.actor ≡ actor = same_Some e.actor actor (sym there ∙ (ap (actor_at t.topology) (sym same.1) ∙ is)) in
        let core_is : new ≡ core = same_Some new core (sym (set_same cores number new within) ∙ (ap (slice_get (slice_set cores number new)) (sym same.1) ∙ got)) in
        subst (λ c. Stands t (e ∷ h) actor c) core_is (subst (λ a. Stands t (e ∷ h) a new) actor_is stands)
    | inr other ↦
        core_stays t h actor core e (stand.each k actor core is (sym (set_other cores number k new other.1) ∙ got)) (apart t.topology k number actor e.actor shape is there other.1)
  ];
}

-- ---- the world after what an actor does

-- a core that gave an entry leaves a world
pub world_more : (t : Setting) (h : History) (cores : List ActorCore) (number : ℕ) (actor : Actor) (act : Act) (e : Entry) (new : ActorCore) → IsWorld t h cores → actor_at t.topology number ≡ Some actor → number < length cores
    → Does Stands t h actor act (Some e) new → IsWorld t (e ∷ h) (slice_set cores number new)
world_more t h cores number actor act e new is there within does =
    let may = given_follows t h actor act e is.run.0 (sym does.given) in record {
      run = (is.run.0, (is.run.1, may.0));
      stand = all_stand_more t h cores number e new is.run.0 is.stand (there ∙ ap Some (sym may.1)) within (subst (λ a. Stands t (e ∷ h) a new) (sym may.1) does.stands);
    }

-- an actor that is not in the topology gives nothing
pub gives_nothing : (t : Setting) (h : History) (actor : Actor) (act : Act) → number_of t.topology actor ≡ None → gives t h actor act ≡ None
gives_nothing t h actor act none = rw none refl

some_is_not_none : (e : Entry) → Some e ≡ None → ⊥
some_is_not_none e is = absurd cc

-- an actor that is not in the topology has not stopped
pub outside_runs : (t : Setting) (h : History) (actor : Actor) → Lawful t h → number_of t.topology actor ≡ None → stopped actor h ≡ false
outside_runs t [] actor lawful none = refl
outside_runs t (e ∷ h) actor lawful none = by (same_actor actor e.actor) refl (outside_runs t h actor lawful.0 none)
  where
    by : (b : Bool) → same_actor actor e.actor ≡ b → stopped actor h ≡ false → ((if b then stops e.kind else false) || stopped actor h) ≡ false
    by true same before =
        let nothing = gives_nothing t h e.actor (act_of e.kind) (rw (same_is actor e.actor same) at none) in
        absurd (some_is_not_none e (sym (may_given t h e lawful.1) ∙ nothing))
    by false same before = before

-- the core at an actor's number stands for the history
pub core_stands : (t : Setting) (h : History) (cores : List ActorCore) (number : ℕ) (actor : Actor) (core : ActorCore) → IsWorld t h cores → actor_at t.topology number ≡ Some actor → number < length cores
    → core ≡ get_or cores number core → Stands t h actor core
core_stands t h cores number actor core is there within read = is.stand.each number actor core there (slice_get_read cores (length cores) number core refl within read)

-- what may follow is what its actor gives, so that the history grows by it
pub given_grows : (t : Setting) (h : History) (e : Entry) (grew : Bool) → IsShape t.topology → May t h e → (IsTrue grew ↔ (length h < length (onto (gives t h e.actor (act_of e.kind)) h)))
    → (grew ≡ true) × (onto (gives t h e.actor (act_of e.kind)) h ≡ e ∷ h)
given_grows t h e grew shape may test =
    let now : onto (gives t h e.actor (act_of e.kind)) h ≡ e ∷ h = ap (λ answer. onto answer h) (may_given t h e may) in
    (test.1 (rw now (omega arith)), now)

-- ---- the first world

-- cores of one more actor
pub stand_next : (t : Setting) (h : History) (count : ℕ) (cores : List ActorCore) (actor : Actor) (core : ActorCore) → StandUpTo t h count cores → actor_at t.topology count ≡ Some actor → Stands t h actor core
    → StandUpTo t h (count + 1) (cores ++ core ∷ [])
stand_next t h count cores actor core stand there stands = record {
  all = omega (arith, length-append cores (core ∷ []), stand.all);
  each = λ k a one is got. elim (eqb_tells k (length cores)) [
    | inl same ↦
        let actor_is : actor ≡ a = same_Some actor a (sym there ∙ (ap (actor_at t.topology) (sym (same.1 ∙ stand.all)) ∙ is)) in
        let core_is : core ≡ one = same_Some core one (sym (get_next cores core) ∙ (ap (slice_get (cores ++ core ∷ [])) (sym same.1) ∙ got)) in
        subst (λ c. Stands t h a c) core_is (subst (λ x. Stands t h x core) actor_is stands)
    | inr other ↦ stand.each k a one is (sym (get_other cores core k other.1) ∙ got)
  ];
}
