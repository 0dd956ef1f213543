-- The letters of a history, by their places.
use Rattle.std.specs.Prelude.{◌≡◌, ℕ, true, Option, Some, None}
use Rattle.ov_topology.specs.Shape.{Shape}
use Rattle.ov_topology.specs.declared.actor.Actor.{Actor}
use Rattle.ov_topology.specs.declared.place.Place.{Place}
use Rattle.ov_event.specs.declared.entry.Entry.{Entry}
use Rattle.ov_event.specs.declared.letter.Letter.{Letter}
use Rattle.ov_event.specs.Letters.{letter_in, is_for}
use Rattle.ov_history.specs.Past.{History, at}

abbrev pub letter_from : Shape → Option Entry → ℕ → Option Letter
letter_from t None number = None
letter_from t (Some e) number = letter_in t e number

-- the letter at a place
abbrev pub letter : Shape → History → Place → Option Letter
letter t h place = letter_from t (at h place.entry) place.letter

-- The history has the letter at the place, and it is addressed to the actor.
pub record Takes (t : Shape) (h : History) (place : Place) (actor : Actor) (sent : Letter) : Type 0 where
  pub there : letter t h place ≡ Some sent
  pub addressed : is_for t sent actor ≡ true
