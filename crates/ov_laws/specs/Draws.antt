-- What gateways began, which entries may move a clock, and how far.
use Rattle.std.specs.Prelude.{◌≡◌, ℕ, Bool, true, false, Some, [], ◌∷◌, ◌⊎◌, ◌+◌, ◌^◌}
use Rattle.ov_event.specs.declared.entry.Entry.{Entry}
use Rattle.ov_event.specs.declared.kind.Kind.{Kind}
use Rattle.ov_event.specs.declared.kind.Kind.TheVariants.{Began, Published}
use Rattle.ov_history.specs.Past.{History, tally}
use Rattle.ov_history.specs.Draws.{Drawn, draw_of}

-- the gateway began this
abbrev pub Drew : ℕ → Drawn → History → Type 0
Drew g drawn [] = ⊥
Drew g drawn (e ∷ h) = (draw_of g e ≡ Some drawn) ⊎ Drew g drawn h

abbrev pub moves : Kind → Bool
moves (Began session seq start) = true
moves (Published time vector) = true
moves other = false

-- whether an entry may move a clock past the range of clocks: it begins a command, or publishes
abbrev pub moves_clock : Entry → Bool
moves_clock e = moves e.kind

-- the end of the range of clocks, and one later for each entry that begins a command or publishes
abbrev pub time_bound : History → ℕ
time_bound h = 2 ^ 46 + tally moves_clock h

-- two draws of one version are one draw of one gateway
abbrev pub DrawsOnce : History → Type 0
DrawsOnce h = (g other : ℕ) (drawn also : Drawn) → Drew g drawn h → Drew other also h → drawn.version ≡ also.version → (g ≡ other) × (drawn ≡ also)
