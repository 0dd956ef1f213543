-- What contracts see of the history and of a seat.
use Rattle.std.specs.Prelude.{ℕ, ◌≡◌, ◌+◌, ◌-◌, ◌==◌, ◌≤◌, cond, List, [], ◌∷◌, ◌++◌, length, Option, Some, None, slice_get}
use mathlib.Core.List.{IsPrefix}
use Rattle.atomic_table.specs.Seated.{TableId}
use Rattle.ov_chronicle.specs.declared.rule.Past.{Past}
use Rattle.ov_chronicle.specs.Lists.{entries_by}

-- which history it is, how many entries it may have, and how many actors write in it
pub record Book : Type 0 where
  pub table : TableId
  pub limit : ℕ
  pub actors : ℕ

-- the actor's number, the setting, what was seen and the number of the last turn, 0 before the first
pub record Holder (E T : Type 0) : Type 0 where
  pub table : TableId
  pub limit : ℕ
  pub actors : ℕ
  pub actor : ℕ
  pub setting : T
  pub seen : List E
  pub turn : ℕ

-- the seat is one of this history
abbrev pub IsSeatOf : {E T : Type 0} → Book → Holder E T → Type 0
IsSeatOf book seat = (seat.table ≡ book.table) × (seat.limit ≡ book.limit) × (seat.actors ≡ book.actors)

-- the same seat of the same history
abbrev pub IsSameSeat : {E T : Type 0} → Holder E T → Holder E T → Type 0
IsSameSeat a b = (b.table ≡ a.table) × (b.limit ≡ a.limit) × (b.actors ≡ a.actors) × (b.actor ≡ a.actor) × (b.setting ≡ a.setting)

-- the entries of the seat's actor in what it has seen, which are all of the history
abbrev pub mine : {E T : Type 0} → (E → ℕ) → Holder E T → List E
mine actor_of seat = entries_by actor_of seat.actor seat.seen

-- the list's last entry is this one
abbrev pub EndsWith : {E : Type 0} → List E → E → Type 0
EndsWith {E} list entry = (before : List E) × (list ≡ before ++ entry ∷ [])

-- the entry at a place, counted from 1
abbrev pub entry_at : {E : Type 0} → List E → ℕ → Option E
entry_at list at = cond (at == 0) None (slice_get list (at - 1))

-- a seat for each actor from a number on, in order, of which none has seen anything
abbrev pub AreSeats : {E T : Type 0} → ℕ → Book → T → List (Holder E T) → Type 0
AreSeats {E} {T} from book setting seats = (k : ℕ) (seat : Holder E T) → slice_get seats k ≡ Some seat → IsSeatOf book seat × (seat.actor ≡ from + k) × (seat.setting ≡ setting) × (seat.seen ≡ []) × (seat.turn ≡ 0)

-- all seats of the history, in the order of their numbers
abbrev pub AreAll : {E T : Type 0} → Book → List (Holder E T) → Type 0
AreAll {E} {T} book seats = (length seats ≡ book.actors) × ((k : ℕ) (seat : Holder E T) → slice_get seats k ≡ Some seat → IsSeatOf book seat × (seat.actor ≡ k))

-- seats of the history
abbrev pub AreOf : {E T : Type 0} → Book → List (Holder E T) → Type 0
AreOf {E} {T} book seats = (k : ℕ) (seat : Holder E T) → slice_get seats k ≡ Some seat → IsSeatOf book seat

-- the list is the history of which the seat has seen a beginning: it is lawful in the seat's setting, begins with what the seat has seen, and its entries of the seat's actor are the seat's own
abbrev pub IsHistoryOf : {E T : Type 0} → (E → ℕ) → (T → List E → Type 0) → List E → Holder E T → Type 0
IsHistoryOf actor_of lawful log seat = lawful seat.setting log × IsPrefix seat.seen log × (entries_by actor_of seat.actor log ≡ mine actor_of seat)

-- the list is the history of each seat
abbrev pub IsHistoryOfAll : {E T : Type 0} → (E → ℕ) → (T → List E → Type 0) → List E → List (Holder E T) → Type 0
IsHistoryOfAll {E} {T} actor_of lawful log seats = (k : ℕ) (seat : Holder E T) → slice_get seats k ≡ Some seat → IsHistoryOf actor_of lawful log seat

-- the list has entries of the first so many actors alone
abbrev pub IsByActors : {E : Type 0} → (E → ℕ) → ℕ → List E → Type 0
IsByActors actor_of actors log = (a : ℕ) → actors ≤ a → entries_by actor_of a log ≡ []

-- of each two seats the one with the greater turn number has seen at least as much
abbrev pub SeeInTurn : {E T : Type 0} → List (Holder E T) → Type 0
SeeInTurn {E} {T} seats = (i j : ℕ) (a b : Holder E T) → slice_get seats i ≡ Some a → slice_get seats j ≡ Some b → a.turn ≤ b.turn → IsPrefix a.seen b.seen

-- both at once, of what is kept of seats that are taken in
abbrev pub AreTold : {E T : Type 0} → (E → ℕ) → (T → List E → Type 0) → List E → List (Past E T) → Type 0
AreTold {E} {T} actor_of lawful log pasts =
    ((k : ℕ) (p : Past E T) → slice_get pasts k ≡ Some p → lawful p.setting log × IsPrefix p.seen log × (entries_by actor_of p.actor log ≡ entries_by actor_of p.actor p.seen))
    × ((i j : ℕ) (p q : Past E T) → slice_get pasts i ≡ Some p → slice_get pasts j ≡ Some q → p.turn ≤ q.turn → IsPrefix p.seen q.seen)

-- what is kept of a seat that is taken in
abbrev pub kept_of : {E T : Type 0} → Holder E T → Past E T
kept_of seat = record { actor = seat.actor; setting = seat.setting; turn = seat.turn; seen = seat.seen }
