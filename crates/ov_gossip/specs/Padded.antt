-- How a vector lies in its eight places.
use Rattle.std.specs.Prelude.{◌≡◌, ℕ, ◌-◌, ◌≤◌, List, length, drop, replicate}
use Rattle.ov_gossip.specs.Marks.{no_marks}
use Rattle.ov_gossip.specs.declared.marks.Marks.{Marks}

-- the most gateways of a vector
abbrev pub vector_room : ℕ
vector_room = 8

-- How a vector lies in its places: the marks of its gateways, and no marks behind them.
pub record IsPadded (marks : List Marks) (count : ℕ) : Type 0 where
  pub room : length marks ≡ vector_room
  pub some : 1 ≤ count
  pub few : count ≤ vector_room
  pub nothing : drop count marks ≡ replicate (vector_room - count) no_marks
