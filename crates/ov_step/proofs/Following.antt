-- Lists of lines as code has them, and those of the definitions.
use Rattle.std.proofs.Common.{◌≡◌, ℕ, ◌+◌, ◌<◌, List, [], ◌∷◌, length, take, drop, map, get_or, refl, sym, ap, ◌∙◌}
use Rattle.std.proofs.lemmas.List.{map_more, map-append, take-append-drop}
use Rattle.ov_follow.specs.Lines.{followed}
use Rattle.ov_world.specs.Acts.{line_in}
use Rattle.ov_world.specs.World.{WorldState, setting_of}
use Rattle.ov_world.specs.declared.line.Line.{Line}
use Rattle.ov_step.specs.Followed.{Followed, FollowedInPart, with_history}
use Rattle.ov_follow.proofs.Following.{followed_behind}

-- ---- lines that are followed

-- one line more
pub followed_next : (lines : List Line) (k : ℕ) (default : Line) (old here new : WorldState) → k < length lines → Followed (map line_in (take k lines)) old here
    → new ≡ with_history (followed (setting_of here) here.history (line_in (get_or lines k default))) here → Followed (map line_in (take (k + 1) lines)) old new
followed_next lines k default old here new within is next =
    rw (map_more line_in lines k default within, followed_behind (setting_of old) old.history (map line_in (take k lines)) (line_in (get_or lines k default) ∷ []), next, is) refl

-- some first lines, where memory ran out
pub followed_some : (lines : List Line) (k : ℕ) (old here : WorldState) → Followed (map line_in (take k lines)) old here → FollowedInPart (map line_in lines) old here
followed_some lines k old here is = record {
  done = map line_in (take k lines);
  rest = map line_in (drop k lines);
  split = ap (map line_in) (sym (take-append-drop k lines)) ∙ map-append line_in (take k lines) (drop k lines);
  followed = is;
}
