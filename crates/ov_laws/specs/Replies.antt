-- What a reply must show: the serial map, for the command that began.
use Rattle.std.specs.Prelude.{◌≡◌, ℕ, ◌⊎◌, Some}
use Rattle.ov_functor.specs.declared.reply.Reply.{Reply}
use Rattle.ov_topology.specs.declared.actor.Actor.TheVariants.{Settler}
use Rattle.ov_topology.specs.declared.mode.Mode.{Mode}
use Rattle.ov_event.specs.declared.kind.Kind.TheVariants.{Asked}
use Rattle.ov_event.specs.declared.start.Start.{Start}
use Rattle.ov_history.specs.Past.{History, at}
use Rattle.ov_history.specs.Settlers.{Shows}
use Rattle.ov_history.specs.Serial.{serial_at}
use Rattle.ov_laws.specs.Entries.{began_by}

-- A settler asked for a round up to this number.
pub record IsUpperEnd (h : History) (n : ℕ) : Type 0 where
  pub settler : ℕ
  pub round : ℕ
  pub mode : Mode
  pub from : ℕ
  pub number : ℕ
  pub asked : at h number ≡ Some (record { actor = Settler settler; kind = Asked round mode from n })

-- a published watermark: 0, or the upper end of a round
abbrev pub IsPublished : History → ℕ → Type 0
IsPublished h n = (n ≡ 0) ⊎ IsUpperEnd h n

-- The reply shows the serial map for the command that began at this gateway: a transaction what it shows on the map just below its
-- version, which is below a published watermark; a snapshot its keys at a published watermark, which is not below its floor.
pub record Expected (h : History) (g s c : ℕ) (reply : Reply) : Type 0 where
  pub start : Start
  pub number : ℕ
  pub begun : at h number ≡ Some (began_by g s c start)
  pub watermark : ℕ
  pub published : IsPublished h watermark
  pub shows : Shows (serial_at h) watermark start reply
