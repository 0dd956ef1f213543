-- The marks that actors know, and those that a gateway publishes of its own versions.
use Rattle.std.proofs.Common.{zero, suc}
use Rattle.std.specs.Prelude.{◌==◌, ℕ, min, max, Bool, false, not, ◌&&◌, nat_lt, Option, Some, None, [], ◌∷◌, if◌then◌else◌}
use Rattle.ov_base.specs.Version.{number, time_of}
use Rattle.ov_session.specs.Events.{greatest}
use Rattle.ov_gossip.specs.Marks.{mark_at, low_of, full_of, done_of}
use Rattle.ov_gossip.specs.declared.marks.Marks.{Marks}
use Rattle.ov_topology.specs.Shape.{Shape, gates}
use Rattle.ov_topology.specs.declared.actor.Actor.{Actor}
use Rattle.ov_event.specs.Letters.{touches, is_gate}
use Rattle.ov_event.specs.declared.entry.Entry.{Entry}
use Rattle.ov_event.specs.declared.kind.Kind.{Kind}
use Rattle.ov_event.specs.declared.kind.Kind.TheVariants.{Published, Heard, Replied}
use Rattle.ov_history.specs.Past.{History, some, same_actor}
use Rattle.ov_history.specs.Counts.{any_below, all_below, least_of}
use Rattle.ov_history.specs.Draws.{Drawn, draw_of}
use Rattle.ov_history.specs.Placement.{acked, ackers}

-- ---- the marks that an actor knows

-- the mark of gateway g in an entry; `which` is low, full or done
abbrev pub mark_in : (Marks → ℕ) → ℕ → Kind → ℕ
mark_in which g (Published time vector) = which (mark_at vector g)
mark_in which g (Heard place vector) = which (mark_at vector g)
mark_in which g other = 0

abbrev pub mark_by : (Marks → ℕ) → Actor → ℕ → Entry → ℕ
mark_by which a g e = if same_actor a e.actor then mark_in which g e.kind else 0

-- the mark of gateway g that the actor knows: the greatest of 0 and of those that it published and heard
abbrev pub mark : (Marks → ℕ) → Actor → ℕ → History → ℕ
mark which a g h = greatest (mark_by which a g) h

-- the marks of gateway g that the actor knows
abbrev pub marks : Actor → ℕ → History → Marks
marks a g h = record { low = mark low_of a g h; full = mark full_of a g h; done = mark done_of a g h }

-- the least mark of all gateways that the actor knows
abbrev pub watermark : (Marks → ℕ) → Shape → Actor → History → ℕ
watermark which t a h = least_of (λ g. mark which a g h) (mark which a 0 h) (gates t)

-- the visibility watermark of an actor
abbrev pub visible : Shape → Actor → History → ℕ
visible t a h = watermark low_of t a h

-- the replica watermark of an actor
abbrev pub replicated : Shape → Actor → History → ℕ
replicated t a h = watermark full_of t a h

-- the greatest time of a low mark that the actor knows
abbrev pub top_time : Actor → ℕ → History → ℕ
top_time a zero h = 0
top_time a (suc n) h = max (time_of (mark low_of a n h)) (top_time a n h)

-- ---- the own marks of a gateway

-- whether some touched partition has acknowledged a version from fewer than a write quorum
abbrev pub lacks_quorum : Shape → ℕ → History → Drawn → Bool
lacks_quorum t g h drawn = any_below (λ p. touches t drawn.transaction p && nat_lt (ackers t g drawn.version p h) t.write) t.partitions

-- whether some touched partition has not acknowledged a version from all its nodes
abbrev pub lacks_copies : Shape → ℕ → History → Drawn → Bool
lacks_copies t g h drawn = any_below (λ p. touches t drawn.transaction p && not (all_below (λ c. acked g drawn.version c p h) t.centres)) t.partitions

abbrev pub replies : ℕ → ℕ → Kind → Bool
replies s c (Replied place session seq reply) = (session == s) && (seq == c)
replies s c other = false

-- whether the gateway has replied to the command
abbrev pub replied_to : ℕ → ℕ → ℕ → History → Bool
replied_to g s c h = some (λ e. if is_gate g e.actor then replies s c e.kind else false) h

-- whether the command of a version is not replied
abbrev pub lacks_reply : ℕ → History → Drawn → Bool
lacks_reply g h drawn = not (replied_to g drawn.session drawn.seq h)

-- a version that is held down lowers a mark to it
abbrev pub lowered : (Drawn → Bool) → Option Drawn → ℕ → ℕ
lowered held None mark = mark
lowered held (Some drawn) mark = if held drawn then min drawn.version mark else mark

-- the least of a number and of the own versions of the gateway that are held down
abbrev pub lowest : ℕ → (Drawn → Bool) → ℕ → History → ℕ
lowest g held mark [] = mark
lowest g held mark (e ∷ h) = lowered held (draw_of g e) (lowest g held mark h)

-- the marks that a gateway publishes of its own versions at this time
abbrev pub own_marks : Shape → ℕ → ℕ → History → Marks
own_marks t g time h = record {
  low = lowest g (lacks_quorum t g h) (number time g) h;
  full = lowest g (lacks_copies t g h) (number time g) h;
  done = lowest g (lacks_reply g h) (number time g) h;
}
