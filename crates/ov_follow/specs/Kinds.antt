-- Histories with entries of all kinds.
use Rattle.std.specs.Prelude.{ℕ, Bool, ◌==◌}
use Rattle.ov_event.specs.declared.kind.Kind.{Kind}
use Rattle.ov_event.specs.declared.kind.Kind.TheVariants.{Began, Stored, Acked, Published, Heard, Asked, Answered, Taken, Settled, Resulted, Replied, Told, Stopped}
use Rattle.ov_history.specs.Past.{History, some}
use Rattle.ov_history.specs.Counts.{all_below}

-- the kinds of entries, numbered from 0
abbrev pub kind_number : Kind → ℕ
kind_number (Began session seq start) = 0
kind_number (Stored place version items) = 1
kind_number (Acked place version centre part) = 2
kind_number (Published time vector) = 3
kind_number (Heard place vector) = 4
kind_number (Asked round mode from below) = 5
kind_number (Answered place settler round items) = 6
kind_number (Taken place round centre part items) = 7
kind_number (Settled values) = 8
kind_number (Resulted place session seq gate reply) = 9
kind_number (Replied place session seq reply) = 10
kind_number (Told place session seq) = 11
kind_number Stopped = 12

-- whether the history has an entry of each of the thirteen kinds
abbrev pub has_all_kinds : History → Bool
has_all_kinds h = all_below (λ n. some (λ e. kind_number e.kind == n) h) 13
