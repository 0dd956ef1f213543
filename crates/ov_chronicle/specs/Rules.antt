-- The rule of the lock and of the history, and what each step tells.
use Rattle.std.specs.Prelude.{ℕ, ◌≡◌, ◌≢◌, ◌==◌, ◌||◌, ◌+◌, ◌-◌, ◌%◌, ◌^◌, ◌<◌, ◌≤◌, ◌⊎◌, Bool, true, false, cond, List, [], ◌∷◌, ◌++◌, length, slice_index, slice_get, Some}
use Rattle.std.specs.Prelude.{Option as Opt}
use mathlib.Core.Option.{Option, some}
use mathlib.Core.List.{IsPrefix}
use lib.ListN.{get_elem?}
use Rattle.atomic_table.specs.Table.{Step, Me}
use Rattle.ov_chronicle.specs.declared.rule.Past.{Past}
use Rattle.ov_chronicle.specs.declared.rule.View.{View}
use Rattle.ov_chronicle.specs.Lists.{entries_by}

-- the first seat of all
abbrev pub founder : {E T : Type 0} → T → ℕ → ℕ → View E T
founder setting limit actors = record { live = true; first = true; made = 1; alive = 1; joined = []; actor = 0; actors = actors; setting = setting; limit = limit; seen = []; turn = 0; waits = false; ticket = 0; has = false }

-- the first seat has made another
abbrev pub maker : {E T : Type 0} → View E T → View E T
maker v = record { live = v.live; first = v.first; made = v.made + 1; alive = v.alive + 1; joined = v.joined; actor = v.actor; actors = v.actors; setting = v.setting; limit = v.limit; seen = v.seen; turn = v.turn; waits = v.waits; ticket = v.ticket; has = v.has }

-- the seat that it makes
abbrev pub made : {E T : Type 0} → View E T → View E T
made v = record { live = true; first = false; made = 0; alive = 0; joined = []; actor = v.made; actors = v.actors; setting = v.setting; limit = v.limit; seen = []; turn = 0; waits = false; ticket = 0; has = false }

-- a ticket is drawn
abbrev pub drawn : {E T : Type 0} → View E T → ℕ → View E T
drawn v t = record { live = v.live; first = v.first; made = v.made; alive = v.alive; joined = v.joined; actor = v.actor; actors = v.actors; setting = v.setting; limit = v.limit; seen = v.seen; turn = v.turn; waits = true; ticket = t; has = false }

-- the turn is come, and the history is seen
abbrev pub turned : {E T : Type 0} → View E T → List E → ℕ → View E T
turned v log turn = record { live = v.live; first = v.first; made = v.made; alive = v.alive; joined = v.joined; actor = v.actor; actors = v.actors; setting = v.setting; limit = v.limit; seen = log; turn = turn; waits = true; ticket = v.ticket; has = true }

-- the turn is given up, with this history
abbrev pub served : {E T : Type 0} → View E T → List E → View E T
served v log = record { live = v.live; first = v.first; made = v.made; alive = v.alive; joined = v.joined; actor = v.actor; actors = v.actors; setting = v.setting; limit = v.limit; seen = log; turn = v.turn; waits = false; ticket = v.ticket; has = false }

-- a seat that was taken in
abbrev pub gone : {E T : Type 0} → T → View E T
gone setting = record { live = false; first = false; made = 0; alive = 0; joined = []; actor = 0; actors = 0; setting = setting; limit = 0; seen = []; turn = 0; waits = false; ticket = 0; has = false }

-- what is kept of a seat that is taken in
abbrev pub past_of : {E T : Type 0} → View E T → Past E T
past_of v = record { actor = v.actor; setting = v.setting; turn = v.turn; seen = v.seen }

-- the first seat has taken another in
abbrev pub taker : {E T : Type 0} → View E T → View E T → View E T
taker v w = record { live = v.live; first = v.first; made = v.made; alive = v.alive - 1; joined = past_of w ∷ v.joined; actor = v.actor; actors = v.actors; setting = v.setting; limit = v.limit; seen = v.seen; turn = v.turn; waits = v.waits; ticket = v.ticket; has = v.has }

-- how many tickets the seat has
abbrev pub waiting : {E T : Type 0} → View E T → ℕ
waiting v = cond v.waits 1 0

-- how many tickets are out
abbrev pub tickets : {E T : Type 0} → List (View E T) → ℕ
tickets [] = 0
tickets (v ∷ vs) = waiting v + tickets vs

-- how many seats were not taken in
abbrev pub living : {E T : Type 0} → List (View E T) → ℕ
living [] = 0
living (v ∷ vs) = cond v.live 1 0 + living vs

-- the seat of that actor was taken in
abbrev pub has : {E T : Type 0} → List (Past E T) → ℕ → Bool
has [] a = false
has (p ∷ ps) a = (p.actor == a) || has ps a

-- the history after each turn, of so many: empty at first, and each begins all later ones
pub record IsTold {E : Type 0} (log : List E) (turns : ℕ) (history : ℕ → List E) : Type 0 where
  pub start : history 0 ≡ []
  pub last : history turns ≡ log
  pub grows : (i j : ℕ) → i ≤ j → j ≤ turns → IsPrefix (history i) (history j)

-- the history after one more turn
abbrev pub told : {E : Type 0} → (ℕ → List E) → ℕ → List E → ℕ → List E
told history turn log t = cond (t == turn) log (history t)

module _ {E T : Type 0} (actor_of : E → ℕ) (setting : T) where
  -- what holds of one seat: it has seen the history of its turn, and all entries of its actor
  pub record Sits (limit : ℕ) (log : List E) (turns : ℕ) (history : ℕ → List E) (head now : ℕ) (v : View E T) : Type 0 where
    pub ours : v.live ≡ true → (v.setting ≡ setting) × (v.limit ≡ limit) × (entries_by actor_of v.actor log ≡ entries_by actor_of v.actor v.seen)
    pub turn : v.has ≡ false → (v.turn ≤ turns) × (v.seen ≡ history v.turn)
    pub ticket : v.waits ≡ true → (now ≤ v.ticket) × (v.ticket < head)
    pub gone : v.live ≡ false → (v.waits ≡ false) × (v.has ≡ false)
    pub has : v.has ≡ true → (v.waits ≡ true) × (v.ticket ≡ now) × (v.seen ≡ log) × (v.turn ≡ turns + 1)

  -- the same of a seat that was taken in
  abbrev pub IsPast : List E → ℕ → (ℕ → List E) → Past E T → Type 0
  IsPast log turns history p = (p.setting ≡ setting) × (p.turn ≤ turns) × (p.seen ≡ history p.turn) × (entries_by actor_of p.actor log ≡ entries_by actor_of p.actor p.seen)

  -- what the first seat keeps: how many seats were made and are live, and what those had seen that it took in
  pub record IsKeeper (log : List E) (turns : ℕ) (history : ℕ → List E) (views : List (View E T)) (v : View E T) : Type 0 where
    pub made : v.made ≡ length views
    pub alive : v.alive ≡ living views
    pub below : (id : ℕ) (u : View E T) → get_elem? views id ≡ some u → u.live ≡ true → (u.actor < v.made) × (has v.joined u.actor ≡ false)
    pub taken : (a : ℕ) → has v.joined a ≡ true → a < v.made
    pub fresh : (a : ℕ) → v.made ≤ a → entries_by actor_of a log ≡ []
    pub pasts : (k : ℕ) (p : Past E T) → slice_get v.joined k ≡ Some p → IsPast log turns history p

-- what holds of two seats
pub record IsApart {E T : Type 0} (v u : View E T) : Type 0 where
  pub actors : v.live ≡ true → u.live ≡ true → v.actor ≢ u.actor
  pub firsts : v.first ≡ true → u.first ≡ false
  pub tickets : v.waits ≡ true → u.waits ≡ true → v.ticket ≢ u.ticket
  pub turns : v.turn ≡ u.turn → v.turn ≡ 0

-- no seat has the turn
abbrev pub NoneHas : {E T : Type 0} → List (View E T) → Type 0
NoneHas {E} {T} views = (id : ℕ) (v : View E T) → get_elem? views id ≡ some v → v.has ≡ false

-- the slot is at home, with this list and room for so many entries
abbrev pub IsHome : {E P : Type 0} → (P → List E) → (P → ℕ) → ℕ → List E → List (Option P) → Type 0
IsHome {E} {P} items room limit log homes = (page : P) × (get_elem? homes 0 ≡ some (some page)) × (items page ≡ log) × (limit ≤ room page)

module _ {E T P : Type 0} (items : P → List E) (room : P → ℕ) (actor_of : E → ℕ) (lawful : T → List E → Type 0) where
  -- the rule: one lawful history, of which each seat has seen a beginning, and tickets that are served in their order; the numbers head and now do not wrap, the words do
  pub record IsKept (words : List ℕ) (homes : List (Option P)) (views : List (View E T)) : Type 0 where
    pub log : List E
    pub setting : T
    pub limit : ℕ
    pub turns : ℕ
    pub history : ℕ → List E
    pub head : ℕ
    pub now : ℕ
    pub wide : length words ≡ 2
    pub drawn : slice_index words 0 ≡ head % 2 ^ 64
    pub serving : slice_index words 1 ≡ now % 2 ^ 64
    pub out : head ≡ now + tickets views
    pub few : length views ≤ 64
    pub law : lawful setting log
    pub short : length log ≤ limit
    pub told : IsTold log turns history
    pub each : (id : ℕ) (v : View E T) → get_elem? views id ≡ some v → Sits actor_of setting limit log turns history head now v
    pub apart : (i j : ℕ) (v u : View E T) → i ≢ j → get_elem? views i ≡ some v → get_elem? views j ≡ some u → IsApart v u
    pub keeper : (id : ℕ) (v : View E T) → get_elem? views id ≡ some v → v.first ≡ true → IsKeeper actor_of setting log turns history views v
    pub home : NoneHas views → IsHome items room limit log homes

  -- what a seat that knew v sees of the list, at a turn
  abbrev pub Sees : View E T → P → ℕ → Type 0
  Sees v page turn = (v.limit ≤ room page) × (length (items page) ≤ v.limit) × (v.turn < turn)
      × IsPrefix v.seen (items page) × lawful v.setting (items page) × (entries_by actor_of v.actor (items page) ≡ entries_by actor_of v.actor v.seen)

  -- the word is not the seat's ticket, and nothing changes; or the turn is come, the slot is taken and the history is seen
  abbrev pub Turns : Step P → Me P (View E T) → ℕ → Me P (View E T) → Type 0
  Turns s me found me' =
      (found ≢ me.0.ticket % 2 ^ 64 → me' ≡ me)
      × (found ≡ me.0.ticket % 2 ^ 64 → (page : P) × (turn : ℕ) × (me' ≡ (turned me.0 (items page) turn, (0, page) ∷ [])) × Sees me.0 page turn)

  -- the seat, which knew v, has the turn, the list and what the history is
  abbrev pub HasTurn : View E T → Me P (View E T) → Type 0
  HasTurn v me = (t : ℕ) × (page : P) × (turn : ℕ) × (me ≡ (turned (drawn v t) (items page) turn, (0, page) ∷ [])) × Sees v page turn

  -- the same, with the list taken out of the slot
  abbrev pub HasList : View E T → P → Me P (View E T) → Type 0
  HasList v list me = (t : ℕ) × (turn : ℕ) × (rest : P) × (me ≡ (turned (drawn v t) (items list) turn, (0, rest) ∷ [])) × Sees v list turn

-- the word found is that of a ticket, which the seat has then
abbrev pub Draws : {E T P : Type 0} → Step P → Me P (View E T) → ℕ → Me P (View E T) → Type 0
Draws s me found me' = (t : ℕ) × (found ≡ t % 2 ^ 64) × (me' ≡ (drawn me.0 t, me.1))

-- the list in the slot is what was seen, or that with one entry of the actor's more, which may follow
abbrev pub IsNext : {E T : Type 0} → (E → ℕ) → (T → List E → E → Type 0) → View E T → List E → Type 0
IsNext {E} actor_of may_follow v next = (next ≡ v.seen) ⊎ ((e : E) × (next ≡ v.seen ++ e ∷ []) × may_follow v.setting v.seen e × (actor_of e ≡ v.actor))

-- the seat has seen the list that it gave back
abbrev pub Serves : {E T P : Type 0} → (P → List E) → Step P → Me P (View E T) → ℕ → Me P (View E T) → Type 0
Serves {E} {T} {P} items s me found me' = (page : P) → me.1 ≡ (0, page) ∷ [] → me' ≡ (served me.0 (items page), [])

-- the seat waits for nothing and holds nothing
abbrev pub IsIdle : {E T P : Type 0} → Me P (View E T) → Type 0
IsIdle me = (me.1 ≡ []) × (me.0.live ≡ true) × (me.0.waits ≡ false) × (me.0.has ≡ false)

-- the seat of number 0 is the first one, which has made all seats and has taken none in
abbrev pub IsPlaced : {E T : Type 0} → View E T → Type 0
IsPlaced v = v.actor ≡ 0 → (v.first ≡ true) × (v.alive ≡ v.actors) × (v.joined ≡ []) × (v.made ≡ v.actors)

-- the seat, which knew v, has drawn a ticket, and waits for its turn
abbrev pub IsWaiting : {E T P : Type 0} → View E T → ℕ → Me P (View E T) → Type 0
IsWaiting v word me = (t : ℕ) × (word ≡ t % 2 ^ 64) × (me ≡ (drawn v t, []))

-- lawful in a setting that is there
abbrev pub lawful_in : {E T : Type 0} → (T → List E → Type 0) → Opt T → List E → Type 0
lawful_in {E} {T} lawful setting log = (s : T) → setting ≡ Some s → lawful s log

-- the entry may follow in a setting that is there
abbrev pub may_in : {E T : Type 0} → (T → List E → E → Type 0) → Opt T → List E → E → Type 0
may_in {E} {T} may_follow setting log e = (s : T) → setting ≡ Some s → may_follow s log e

-- the first seat, which made so many with itself, has seen nothing and waits for nothing
abbrev pub IsFounder : {E T P : Type 0} → ℕ → T → ℕ → ℕ → Me P (View E T) → Type 0
IsFounder made setting limit actors me =
    IsIdle me × (me.0.first ≡ true) × (me.0.made ≡ made) × (me.0.actor ≡ 0) × (me.0.setting ≡ setting) × (me.0.limit ≡ limit) × (me.0.seen ≡ []) × (me.0.turn ≡ 0)
    × (me.0.alive ≡ made) × (me.0.joined ≡ []) × (me.0.actors ≡ actors)

-- the first seat, idle, with so many seats that were not taken in, this of itself, and these of those that it has taken in
abbrev pub IsGathering : {E T P : Type 0} → ℕ → Past E T → List (Past E T) → Me P (View E T) → Type 0
IsGathering alive own joined me = IsIdle me × (me.0.first ≡ true) × (me.0.alive ≡ alive) × (past_of me.0 ≡ own) × (me.0.joined ≡ joined)
