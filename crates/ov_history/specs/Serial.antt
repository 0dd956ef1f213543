-- The serial map of a history, and its windows: for the crates ov_laws and ov_follow, which do not stand on each other.
use Rattle.std.specs.Prelude.{◌≡◌, ◌==◌, ℕ, ◌≤◌, ◌<◌, Option, Some, None, List, [], ◌∷◌, if◌then◌else◌}
use Rattle.ov_functor.specs.Execution.{Map}
use Rattle.ov_functor.specs.Items.{items_of}
use Rattle.ov_functor.specs.Serial.{serial, Begun, insert}
use Rattle.ov_functor.specs.Windows.{Among}
use Rattle.ov_functor.specs.declared.item.Item.{Item}
use Rattle.ov_functor.specs.declared.part.Part.{Part}
use Rattle.ov_history.specs.Past.{History}
use Rattle.ov_history.specs.Draws.{Drawn, drawn_in}

abbrev pub begun_as : ℕ → Option Drawn → Option (List Part)
begun_as version None = None
begun_as version (Some drawn) = if drawn.version == version then Some drawn.transaction else None

abbrev pub or_begun : Option (List Part) → Option (List Part) → Option (List Part)
or_begun None older = older
or_begun (Some transaction) older = Some transaction

-- the transaction that was begun at a version, where there is one
abbrev pub begun_at : History → ℕ → Option (List Part)
begun_at [] version = None
begun_at (e ∷ h) version = or_begun (begun_as version (drawn_in e.kind)) (begun_at h version)

abbrev pub with_drawn : Option Drawn → List Begun → List Begun
with_drawn None older = older
with_drawn (Some drawn) older = insert (record { version = drawn.version; transaction = drawn.transaction }) older

-- the begun transactions by version, the greatest version first
abbrev pub begins : History → List Begun
begins [] = []
begins (e ∷ h) = with_drawn (drawn_in e.kind) (begins h)

-- the map after executing, one at a time in version order, all begun transactions whose versions are below a number
abbrev pub serial_at : History → ℕ → Map
serial_at h n = serial (begun_at h) n

-- The item is one of a begun transaction, and lies in the window from one number up to and without another.
pub record InWindow (h : History) (from below : ℕ) (item : Item) : Type 0 where
  pub transaction : List Part
  pub begun : begun_at h item.version ≡ Some transaction
  pub within : Among item (items_of item.version transaction)
  pub low : from ≤ item.version
  pub high : item.version < below
