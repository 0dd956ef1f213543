-- The calls of cores: what is given may follow and is all that may, and another actor's entry stops no core.
use Rattle.std.proofs.Common.{◌≡◌, ◌↔◌, Bool, true, false, not, Option, Some, None, ◌∷◌, refl, sym, ◌∙◌}
use Rattle.std.specs.Prelude.{if◌then◌else◌}
use Rattle.std.specs.Option.{option_map}
use Rattle.ov_base.proofs.Readers.{chosen}
use Rattle.ov_topology.specs.Shape.{IsShape}
use Rattle.ov_topology.specs.declared.actor.Actor.{Actor}
use Rattle.ov_topology.specs.declared.place.Place.{Place}
use Rattle.ov_event.specs.Letters.{is_for}
use Rattle.ov_event.specs.declared.entry.Entry.{Entry}
use Rattle.ov_event.specs.declared.kind.Kind.{Kind}
use Rattle.ov_event.specs.declared.letter.Letter.{Letter}
use Rattle.ov_history.specs.Past.{History, same_actor}
use Rattle.ov_history.specs.Letters.{letter}
use Rattle.ov_history.specs.May.{Setting, May}
use Rattle.ov_history.specs.Gives.{Act, Take, takes_as, gives, act_of}
use Rattle.ov_history.specs.Cores.{kept, onto, Runs, Steps}
use Rattle.ov_history.proofs.Given.{given_follows}
use Rattle.ov_history.proofs.Giving.{may_given}
use Rattle.ov_history.proofs.Stays.{stopped-stays}

-- an entry that is kept was given
kept_given : (f : Kind → Bool) (given : Option Entry) (e : Entry) → kept f given ≡ Some e → given ≡ Some e
kept_given f None e is = absurd cc
kept_given f (Some other) e is = (chosen (f other.kind) (Some other) e is).1

-- A call that returns what is given, and after which the core stands for the longer history, says all that a call has to.
pub steps : {S : Type 0} (Stands : Setting → History → Actor → S → Type 0) (f : Kind → Bool) (t : Setting) (h : History) (actor : Actor) (act : Act) (answer : Option Entry) (new : S)
    → IsShape t.topology → answer ≡ kept f (gives t h actor act) → Stands t (onto answer h) actor new → Steps Stands f t h actor act answer new
steps Stands f t h actor act answer new shape given stands = record {
  given = given;
  stands = stands;
  may = λ e is. given_follows t h actor act e shape (kept_given f (gives t h actor act) e (sym given ∙ is));
  all = λ kind passes of may. given ∙ rw (sym of, may_given t h (record { actor = actor; kind = kind }) may, passes) refl;
}

-- an entry of another actor leaves it running as it was
pub runs_on : (t : Setting) (h : History) (actor : Actor) (has_stopped : Bool) (e : Entry) → same_actor actor e.actor ≡ false → Runs t h actor has_stopped → Runs t (e ∷ h) actor has_stopped
runs_on t h actor has_stopped e other runs = record { shape = runs.shape; known = runs.known; stopped_is = runs.stopped_is ∙ sym (stopped-stays h e.actor e.kind actor other) }

-- ---- letters that are taken

-- the actor's entry of this kind
abbrev pub entry_of : Actor → Kind → Entry
entry_of actor kind = record { actor = actor; kind = kind }

-- the entry that an actor makes of a letter, where it runs and the letter is for it
abbrev pub taken : Setting → History → Actor → Bool → Place → Letter → Option Entry
taken t h actor has_stopped place sent =
    if has_stopped then None else (if is_for t.topology sent actor then option_map (entry_of actor) (takes_as t h actor place sent) else None)

-- what an actor gives for a letter that the history has
pub gives_taken : (t : Setting) (h : History) (actor : Actor) (has_stopped : Bool) (place : Place) (sent : Letter) → Runs t h actor has_stopped → letter t.topology h place ≡ Some sent
    → gives t h actor (Take place) ≡ taken t h actor has_stopped place sent
gives_taken t h actor has_stopped place sent runs there =
    rw (runs.known, sym runs.stopped_is, there) (by has_stopped (is_for t.topology sent actor))
  where
    by : (b for : Bool)
        → (if not b then option_map (entry_of actor) (if for then takes_as t h actor place sent else None) else None)
        ≡ (if b then None else (if for then option_map (entry_of actor) (takes_as t h actor place sent) else None))
    by true for = refl
    by false true = refl
    by false false = refl

-- an entry may follow exactly where its actor gives it for the act to which it belongs
pub may_where_given : (t : Setting) (h : History) (e : Entry) → IsShape t.topology → (gives t h e.actor (act_of e.kind) ≡ Some e) ↔ May t h e
may_where_given t h e shape = ((λ is. (given_follows t h e.actor (act_of e.kind) e shape is).0), may_given t h e)
