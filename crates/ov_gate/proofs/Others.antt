-- An entry of another actor leaves a core standing.
use Rattle.std.proofs.Common.{◌≡◌, ℕ, false, ◌∷◌, sym, ap, ◌∙◌, arith, append-nil}
use Rattle.ov_topology.specs.declared.actor.Actor.{Actor}
use Rattle.ov_topology.specs.declared.actor.Actor.TheVariants.{Gate}
use Rattle.ov_session.specs.Events.{begun}
use Rattle.ov_event.specs.Letters.{is_gate}
use Rattle.ov_event.specs.declared.entry.Entry.{Entry}
use Rattle.ov_history.specs.Past.{History, same_actor}
use Rattle.ov_history.specs.May.{Setting}
use Rattle.ov_history.proofs.Cores.{runs_on}
use Rattle.ov_history.proofs.Stays.{last-stays, marks-stay, events-stay, acked-stays, replied_to-stays}
use Rattle.ov_gate.specs.Gate.{GateState, draws, IsGate}
use Rattle.ov_gate.proofs.Kept.{Leaves, tracks_on, all_on}

-- what a gateway drew stays
draws_stay : (g : ℕ) (h : History) (e : Entry) → is_gate g e.actor ≡ false → draws g (e ∷ h) ≡ draws g h
draws_stay g h e other = rw other (append-nil (draws g h))

-- another actor's entry leaves what is kept of drawn versions
other_leaves : (g : ℕ) (h : History) (e : Entry) → is_gate g e.actor ≡ false → Leaves g h (e ∷ h)
other_leaves g h e other = record {
  acks = λ v c p. acked-stays h e.actor e.kind g v c p other;
  replies = λ s c. replied_to-stays h e.actor e.kind g s c other;
  begins = λ s. ap (begun s) (events-stay h e.actor e.kind g other);
  times = let same = last-stays h e.actor e.kind g other in omega (arith, same);
}

pub stays : (t : Setting) (h : History) (actor : Actor) (gate : GateState) (e : Entry) → IsGate t h actor gate → same_actor actor e.actor ≡ false → IsGate t (e ∷ h) actor gate
stays t h actor gate e is other =
    let apart : is_gate gate.gate e.actor ≡ false = rw is.actor_is at other in
    record {
      actor_is = is.actor_is;
      runs = runs_on t h actor gate.stopped e other is.runs;
      topology_is = is.topology_is;
      last_is = is.last_is ∙ sym (last-stays h e.actor e.kind gate.gate apart);
      width = is.width;
      marks_are = λ k less. is.marks_are k less ∙ sym (marks-stay h e.actor e.kind (Gate gate.gate) k apart);
      sessions_are = rw (events-stay h e.actor e.kind gate.gate apart) is.sessions_are;
      latest_count = is.latest_count;
      tracked_are = rw (draws_stay gate.gate h e apart) (all_on t.topology gate.gate h (e ∷ h) gate.latest gate.latest (λ drawn one tracks. tracks_on t.topology gate.gate h (e ∷ h) gate.latest drawn one (other_leaves gate.gate h e apart) tracks) (draws gate.gate h) gate.tracked is.tracked_are);
      tracked_rise = is.tracked_rise;
      own = rw (events-stay h e.actor e.kind gate.gate apart) is.own;
      acked_early = λ v c p yet. let early = is.acked_early v c p (sym (acked-stays h e.actor e.kind gate.gate v c p apart) ∙ yet) in let same = last-stays h e.actor e.kind gate.gate apart in omega (arith, early, same);
    }
