-- The calls of a core, each whole: what it returns is given, and the core then stands for the longer history.
use Rattle.std.proofs.Common.{◌≡◌, ℕ, ◌<◌, true, false, Some, List, length, refl, sym, ◌∙◌}
use Rattle.ov_gossip.specs.Marks.{mark_at, greater}
use Rattle.ov_gossip.specs.declared.marks.Marks.{Marks}
use Rattle.ov_gossip.proofs.Greater.{greater_swap}
use Rattle.ov_topology.specs.declared.actor.Actor.{Actor}
use Rattle.ov_topology.specs.declared.place.Place.{Place}
use Rattle.ov_event.specs.declared.kind.Kind.TheVariants as kinds
use Rattle.ov_event.specs.declared.letter.Letter.TheVariants as letters
use Rattle.ov_history.specs.Past.{History, stops}
use Rattle.ov_history.specs.Letters.{letter}
use Rattle.ov_history.specs.Gives.{Take, Stop, gives}
use Rattle.ov_history.specs.May.{Setting}
use Rattle.ov_history.specs.Cores.{kept, Steps}
use Rattle.ov_settler.specs.Settler.{SettlerState, IsSettler, is_heard}
use Rattle.ov_settler.proofs.Stands.{by_settler, nothing_more, rests_goes, some_steps, letter_given}

-- ---- a stop

stop_given : (t : Setting) (h : History) (actor : Actor) (s : SettlerState) → IsSettler t h actor s → s.stopped ≡ false → kept stops (gives t h actor Stop) ≡ Some (by_settler s.centre kinds.Stopped)
stop_given t h actor s is running = rw (is.runs.known, sym is.runs.stopped_is, running, is.actor_is) refl

pub stop_steps : (t : Setting) (h : History) (actor : Actor) (s : SettlerState) → IsSettler t h actor s → s.stopped ≡ false
    → Steps IsSettler stops t h actor Stop (Some (by_settler s.centre kinds.Stopped)) (record s { stopped = true })
stop_steps t h actor s is running =
    some_steps stops t h actor Stop s (record s { stopped = true }) kinds.Stopped is (stop_given t h actor s is running)
    (rests_goes t h actor s s.vector true kinds.Stopped is (record { asks = refl; opened = λ round. refl; raised = λ round old. refl; values = refl; takes = λ n c p. refl; brought = λ one n past. refl }) refl refl
    (λ k less. nothing_more (mark_at s.vector k)))

-- ---- gossip

pub heard_steps : (t : Setting) (h : History) (actor : Actor) (s : SettlerState) (place : Place) (sender : ℕ) (sent vector : List Marks) → IsSettler t h actor s → s.stopped ≡ false
    → letter t.topology h place ≡ Some (letters.Gossip sender sent) → length vector ≡ length s.vector
    → ((k : ℕ) → k < length s.vector → mark_at vector k ≡ greater (mark_at s.vector k) (mark_at sent k))
    → Steps IsSettler is_heard t h actor (Take place) (Some (by_settler s.centre (kinds.Heard place sent))) (record s { vector = vector })
heard_steps t h actor s place sender sent vector is running there width merged =
    some_steps is_heard t h actor (Take place) s (record s { vector = vector }) (kinds.Heard place sent) is
    (letter_given is_heard t h actor s place (letters.Gossip sender sent) (kinds.Heard place sent) is running there refl refl refl)
    (rests_goes t h actor s vector s.stopped (kinds.Heard place sent) is (record { asks = refl; opened = λ round. refl; raised = λ round old. refl; values = refl; takes = λ n c p. refl; brought = λ one n past. refl }) refl width
    (λ k less. merged k less ∙ greater_swap (mark_at s.vector k) (mark_at sent k)))
