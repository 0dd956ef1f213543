-- Lines that are followed one after another.
use Rattle.std.proofs.Common.{◌≡◌, List, [], ◌∷◌, ◌++◌, refl}
use Rattle.ov_history.specs.Past.{History}
use Rattle.ov_history.specs.May.{Setting}
use Rattle.ov_follow.specs.Lines.{Line, followed, followed_all}

-- lines behind lines
pub followed_behind : (t : Setting) (h : History) (first others : List Line) → followed_all t h (first ++ others) ≡ followed_all t (followed_all t h first) others
followed_behind t h [] others = refl
followed_behind t h (line ∷ first) others = followed_behind t (followed t h line) first others
