-- What calm rounds keep of the commands that were begun and are not replied.
use Rattle.std.specs.Prelude.{◌≡◌, ℕ, ◌+◌, Bool, not, List, [], ◌∷◌, ◌++◌, length, get_or}
use Rattle.std.specs.List.{filter}
use Rattle.ov_topology.specs.Shape.{Shape}
use Rattle.ov_event.specs.Letters.{letters_of}
use Rattle.ov_event.specs.declared.letter.Letter.{Letter}
use Rattle.ov_event.specs.declared.letter.Letter.TheVariants as letters
use Rattle.ov_history.specs.Past.{History}
use Rattle.ov_follow.specs.Passes.{is_replied}
use Rattle.ov_step.specs.declared.wants.Want.{Want}

-- what of a letter wants a reply
abbrev pub wants_in : Shape → ℕ → ℕ → Letter → List Want
wants_in t number place (letters.Want s c g start) = record { entry = number; letter = place; settler = get_or t.gateways g 0; session = s; seq = c } ∷ []
wants_in t number place other = []

-- what of these letters, from one of a number on
abbrev pub wants_over : Shape → ℕ → ℕ → List Letter → List Want
wants_over t number place [] = []
wants_over t number place (letter ∷ letters) = wants_in t number place letter ++ wants_over t number (place + 1) letters

-- what of a history wants a reply, the oldest first
abbrev pub wants_of : Shape → History → List Want
wants_of t [] = []
wants_of t (e ∷ h) = wants_of t h ++ wants_over t (length h + 1) 1 (letters_of t e)

-- whether the command is still to be replied
abbrev pub is_wanting : History → Want → Bool
is_wanting h want = not (is_replied want.session want.seq h)

-- of these wants those that are still to be replied are the history's
abbrev pub AreWants : Shape → History → List Want → Type 0
AreWants t h wants = filter (is_wanting h) wants ≡ filter (is_wanting h) (wants_of t h)
