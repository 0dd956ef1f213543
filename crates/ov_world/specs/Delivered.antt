-- The letter that a world keeps: the one that was taken last.
use Rattle.std.specs.Prelude.{◌≡◌, ◌==◌, Bool, ◌&&◌, Option, Some, None, if◌then◌else◌}
use Rattle.ov_topology.specs.Shape.{Shape}
use Rattle.ov_topology.specs.declared.place.Place.{Place}
use Rattle.ov_event.specs.declared.letter.Letter.{Letter}
use Rattle.ov_history.specs.Past.{History}
use Rattle.ov_history.specs.Letters.{letter}
use Rattle.ov_history.specs.Gives.{Act, Take}
use Rattle.ov_world.specs.declared.delivered.Delivered.{Delivered}

-- whether two places are one
abbrev pub same_place : Place → Place → Bool
same_place a b = (a.entry == b.entry) && (a.letter == b.letter)

-- the letter that is kept is the history's letter at its place
abbrev pub IsKept : Shape → History → Option Delivered → Type 0
IsKept t h None = Unit {0}
IsKept t h (Some kept) = letter t h kept.place ≡ Some kept.letter

-- a letter of this place is kept
abbrev pub IsAt : Place → Option Delivered → Type 0
IsAt place None = ⊥
IsAt place (Some kept) = kept.place ≡ place

-- the letter that an act takes, where it is kept
abbrev pub letter_in : Option Delivered → Act → Option Letter
letter_in None act = None
letter_in (Some kept) (Take place) = if same_place kept.place place then Some kept.letter else None
letter_in (Some kept) other = None
