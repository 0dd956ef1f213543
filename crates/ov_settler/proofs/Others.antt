-- An entry of another actor leaves a core standing.
use Rattle.std.proofs.Common.{◌≡◌, false, ◌∷◌, sym, ap, ◌∙◌}
use Rattle.ov_functor.specs.Values.{latest}
use Rattle.ov_topology.specs.declared.actor.Actor.{Actor}
use Rattle.ov_topology.specs.declared.actor.Actor.TheVariants.{Settler}
use Rattle.ov_event.specs.Letters.{is_settler}
use Rattle.ov_event.specs.declared.entry.Entry.{Entry}
use Rattle.ov_history.specs.Past.{History, same_actor}
use Rattle.ov_history.specs.May.{Setting}
use Rattle.ov_history.proofs.Cores.{runs_on}
use Rattle.ov_history.proofs.Stays.{harvest-stays, marks-stay, open_round-stays, rounds-stay, settled-stays, took-stays, values_of-stay}
use Rattle.ov_window.specs.Harvest.{Gathered}
use Rattle.ov_settler.specs.Settler.{Gathers, IsSettler, SettlerState}

gathers_on : (t : Setting) (h : History) (s : SettlerState) (one : Gathered) (e : Entry) → is_settler s.centre e.actor ≡ false → Gathers t.topology h s one → Gathers t.topology (e ∷ h) s one
gathers_on t h s one e apart is = record {
  topology_is = is.topology_is;
  settler_is = is.settler_is;
  from_is = is.from_is;
  some = is.some;
  marked = is.marked;
  answers_are = λ c p inside within. is.answers_are c p inside within ∙ sym (took-stays h e.actor e.kind s.centre s.rounds c p apart);
  items_are = is.items_are ∙ sym (harvest-stays h e.actor e.kind s.centre s.rounds apart);
  inside = is.inside;
}

pub stays : (t : Setting) (h : History) (actor : Actor) (s : SettlerState) (e : Entry) → IsSettler t h actor s → same_actor actor e.actor ≡ false → IsSettler t (e ∷ h) actor s
stays t h actor s e is other =
    let apart : is_settler s.centre e.actor ≡ false = rw is.actor_is at other in
    record {
      actor_is = is.actor_is;
      runs = runs_on t h actor s.stopped e other is.runs;
      topology_is = is.topology_is;
      width = is.width;
      marks_are = λ k less. is.marks_are k less ∙ sym (marks-stay h e.actor e.kind (Settler s.centre) k apart);
      rounds_are = is.rounds_are ∙ sym (rounds-stay h e.actor e.kind s.centre apart);
      settled_is = is.settled_is ∙ sym (settled-stays h e.actor e.kind s.centre apart);
      round_is = is.round_is ∙ sym (open_round-stays h e.actor e.kind s.centre apart);
      gathers = λ one there. gathers_on t h s one e apart (is.gathers one there);
      later = λ n c p above. took-stays h e.actor e.kind s.centre n c p apart ∙ is.later n c p above;
      values_are = λ key below. ap (latest key below) (values_of-stay h e.actor e.kind s.centre apart) ∙ is.values_are key below;
      under = is.under;
    }
