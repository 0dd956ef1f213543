-- What a settler is after its own entries: its open round, the answers of it, how far it has settled, and its values.
use Rattle.std.specs.Prelude.{◌≡◌, ◌==◌, ℕ, ◌≤◌, ◌<◌, Bool, true, false, not, ◌&&◌, Option, Some, None, List, [], ◌∷◌, ◌++◌, if◌then◌else◌}
use Rattle.ov_functor.specs.Execution.{Map, reply_of}
use Rattle.ov_functor.specs.Unions.{all_added, backwards}
use Rattle.ov_functor.specs.Values.{just_below, evaluated}
use Rattle.ov_functor.specs.declared.item.Item.{Item}
use Rattle.ov_functor.specs.declared.item.Shown.{Shown}
use Rattle.ov_functor.specs.declared.item.Valued.{Valued}
use Rattle.ov_functor.specs.declared.reply.Reply.{Reply}
use Rattle.ov_functor.specs.declared.reply.Reply.TheVariants.{Snap}
use Rattle.ov_topology.specs.Shape.{Shape}
use Rattle.ov_topology.specs.declared.mode.Mode.{Mode}
use Rattle.ov_topology.specs.declared.mode.Mode.TheVariants.{Quorum, One}
use Rattle.ov_event.specs.declared.entry.Entry.{Entry}
use Rattle.ov_event.specs.declared.kind.Kind.{Kind}
use Rattle.ov_event.specs.declared.kind.Kind.TheVariants.{Asked, Taken, Settled}
use Rattle.ov_event.specs.declared.start.Start.{Start}
use Rattle.ov_event.specs.declared.start.Start.TheVariants.{Draw, Look}
use Rattle.ov_event.specs.Letters.{is_settler}
use Rattle.ov_history.specs.Past.{History, some, tally}
use Rattle.ov_history.specs.Counts.{weight}

-- ---- rounds

-- A round: its number, whom it asks, and its window.
pub record Round : Type 0 where
  pub number : ℕ
  pub mode : Mode
  pub from : ℕ
  pub below : ℕ

-- what an entry of the settler makes of its open round
abbrev pub opened : Kind → Option Round → Option Round
opened (Asked round mode from below) old = Some (record { number = round; mode = mode; from = from; below = below })
opened (Settled values) old = None
opened other old = old

-- the open round of the settler: that of its last `Asked` entry, where no `Settled` entry stands after it
abbrev pub open_round : ℕ → History → Option Round
open_round s [] = None
open_round s (e ∷ h) = if is_settler s e.actor then opened e.kind (open_round s h) else open_round s h

abbrev pub asks : Kind → Bool
asks (Asked round mode from below) = true
asks other = false

-- how many rounds the settler has opened
abbrev pub rounds : ℕ → History → ℕ
rounds s h = tally (λ e. if is_settler s e.actor then asks e.kind else false) h

abbrev pub upper_end : Option Round → ℕ → ℕ
upper_end None settled = settled
upper_end (Some round) settled = round.below

abbrev pub raised : Kind → Option Round → ℕ → ℕ
raised (Settled values) round old = upper_end round old
raised other round old = old

-- how far the settler has settled: the upper end of the last round that it settled, else 0
abbrev pub settled : ℕ → History → ℕ
settled s [] = 0
settled s (e ∷ h) = if is_settler s e.actor then raised e.kind (open_round s h) (settled s h) else settled s h

abbrev pub values_in : Kind → List Valued
values_in (Settled values) = values
values_in other = []

abbrev pub values_by : ℕ → Entry → List Valued
values_by s e = if is_settler s e.actor then values_in e.kind else []

-- the values of the settler: all that it settled
abbrev pub values_of : ℕ → History → List Valued
values_of s [] = []
values_of s (e ∷ h) = values_by s e ++ values_of s h

-- the settler's map just below a number
abbrev pub known_below : ℕ → History → ℕ → Map
known_below s h n = just_below n (values_of s h)

-- ---- the answers of a round

abbrev pub takes : ℕ → ℕ → ℕ → Kind → Bool
takes n c p (Taken place round centre part items) = (round == n) && ((centre == c) && (part == p))
takes n c p other = false

-- whether the settler has taken the answer of the node to the round
abbrev pub took : ℕ → ℕ → ℕ → ℕ → History → Bool
took s n c p h = some (λ e. if is_settler s e.actor then takes n c p e.kind else false) h

-- what an entry of the settler brings to the answers of the round: the first answer of each node alone
abbrev pub brought : ℕ → ℕ → Kind → History → List Item
brought s n (Taken place round centre part items) h = if (round == n) && not (took s n centre part h) then items else []
brought s n other h = []

-- the items of the answers that the settler took in the round, by version and then key
abbrev pub harvest : ℕ → ℕ → History → List Item
harvest s n [] = []
harvest s n (e ∷ h) = if is_settler s e.actor then all_added (brought s n e.kind h) (harvest s n h) else harvest s n h

-- the partition gave answers enough: of a read quorum of centres, or in a round of mode `one` of the settler's own
abbrev pub IsEnough : Shape → ℕ → Round → ℕ → History → Mode → Type 0
IsEnough t s round p h Quorum = t.read ≤ weight t (λ c. took s round.number c p h)
IsEnough t s round p h One = took s round.number s p h ≡ true

-- the values of the plan of a round: those of the items of its answers, by version and then key, over the settler's values just
-- below the round's lower end
abbrev pub plan_values : ℕ → Round → History → List Valued
plan_values s round h = backwards (evaluated (known_below s h round.from) (backwards (harvest s round.number h)))

-- ---- replies

-- these keys with their values in a map
abbrev pub shown : Map → List (List ℕ) → List Shown
shown map [] = []
shown map (key ∷ keys) = record { key = key; value = map key } ∷ shown map keys

-- What a reply shows of maps just below numbers, of which those up to a watermark are known: a transaction what it shows on the
-- map just below its version; a snapshot its keys at the watermark, which is not below its floor.
abbrev pub Shows : (ℕ → Map) → ℕ → Start → Reply → Type 0
Shows maps w (Draw version transaction) reply = (version < w) × (reply ≡ reply_of (maps version) version transaction)
Shows maps w (Look floor keys) reply = (floor ≤ w) × (reply ≡ Snap w (shown (maps w) keys))
