-- What a call of a core says of its act: where all that the actor gives for the act is of the kinds that the call makes, it is what the
-- call returns.
use Rattle.std.proofs.Common.{◌≡◌, Bool, true, false, not, ◌&&◌, Option, Some, None, refl, sym, ap, ◌∙◌}
use Rattle.std.specs.Prelude.{if◌then◌else◌}
use Rattle.std.specs.Option.{option_map}
use Rattle.std.proofs.lemmas.Option.{same_Some}
use Rattle.ov_base.specs.Word.{◌>>=◌}
use Rattle.ov_base.proofs.Readers.{chosen}
use Rattle.ov_topology.specs.declared.actor.Actor.{Actor}
use Rattle.ov_topology.specs.declared.place.Place.{Place}
use Rattle.ov_event.specs.Letters.{is_in, is_for}
use Rattle.ov_event.specs.declared.entry.Entry.{Entry}
use Rattle.ov_event.specs.declared.kind.Kind.{Kind}
use Rattle.ov_event.specs.declared.letter.Letter.{Letter}
use Rattle.ov_history.specs.Past.{History, stopped}
use Rattle.ov_history.specs.Letters.{letter}
use Rattle.ov_history.specs.Gives.{Act, Take, acts, gives, takes_as}
use Rattle.ov_history.specs.May.{Setting}
use Rattle.ov_history.specs.Cores.{kept, Steps}
use Rattle.ov_history.proofs.Cores.{entry_of}
use Rattle.ov_world.specs.Actors.{Does}

-- all that may be given is of a kind that passes
abbrev pub Passes : (Kind → Bool) → Option Kind → Type 0
Passes f given = (kind : Kind) → given ≡ Some kind → f kind ≡ true

-- ---- which kinds may be given

-- one kind
pub one_passes : (f : Kind → Bool) (made : Kind) → f made ≡ true → Passes f (Some made)
one_passes f made passes kind is = sym (ap f (same_Some made kind is)) ∙ passes

-- a kind, where a test passes
pub tested_passes : (f : Kind → Bool) (b : Bool) (made : Kind) → f made ≡ true → Passes f (if b then Some made else None)
tested_passes f b made passes kind is = one_passes f made passes kind (chosen b (Some made) kind is).1

-- what is made of something, where there is something
pub bound_passes : {A : Type 0} (f : Kind → Bool) (some : Option A) (next : A → Option Kind)
    → ((one : A) → Passes f (next one)) → Passes f (some >>= next)
bound_passes f None next each kind is = absurd cc
bound_passes f (Some one) next each kind is = each one kind is

-- ---- what is given is kept

kept_entry : (f : Kind → Bool) (actor : Actor) (given : Option Kind) → Passes f given
    → kept f (option_map (entry_of actor) given) ≡ option_map (entry_of actor) given
kept_entry f actor None passes = refl
kept_entry f actor (Some kind) passes = rw (passes kind refl) refl

-- where all that the actor gives passes, it is kept
kept_all : (f : Kind → Bool) (t : Setting) (h : History) (actor : Actor) (act : Act) → Passes f (acts t h actor act)
    → kept f (gives t h actor act) ≡ gives t h actor act
kept_all f t h actor act passes = by (is_in t.topology actor && not (stopped actor h))
  where
    by : (b : Bool) → kept f (if b then option_map (entry_of actor) (acts t h actor act) else None)
        ≡ (if b then option_map (entry_of actor) (acts t h actor act) else None)
    by true = kept_entry f actor (acts t h actor act) passes
    by false = refl

-- ---- calls

-- a call that makes entries of all kinds that the actor may give for the act
pub does_where : {S : Type 0} (Is : Setting → History → Actor → S → Type 0) (f : Kind → Bool) (t : Setting) (h : History) (actor : Actor)
    (act : Act) (answer : Option Entry) (new : S)
    → Passes f (acts t h actor act) → Steps Is f t h actor act answer new
    → Does Is t h actor act answer new
does_where Is f t h actor act answer new passes steps = record { given = steps.given ∙ kept_all f t h actor act passes; stands = steps.stands }

-- a call that makes entries of all kinds that the actor may give for a letter
pub does_taking : {S : Type 0} (Is : Setting → History → Actor → S → Type 0) (f : Kind → Bool) (t : Setting) (h : History) (actor : Actor)
    (place : Place) (sent : Letter) (answer : Option Entry) (new : S)
    → letter t.topology h place ≡ Some sent → Passes f (takes_as t h actor place sent) → Steps Is f t h actor (Take place) answer new
    → Does Is t h actor (Take place) answer new
does_taking Is f t h actor place sent answer new there passes steps =
    does_where Is f t h actor (Take place) answer new
    (rw there (λ kind is. passes kind (chosen (is_for t.topology sent actor) (takes_as t h actor place sent) kind is).1))
    steps
