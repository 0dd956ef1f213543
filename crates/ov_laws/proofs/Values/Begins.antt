-- The begun transactions of a lawful history as a list: its versions fall, and it has what is begun at each version.
use Rattle.std.proofs.Common.{◌≡◌, ◌==◌, ℕ, ◌^◌, ◌<◌, Bool, true, false, Option, Some, None, List, [], ◌∷◌, refl, sym, ◌∙◌, arith}
use Rattle.std.specs.Prelude.{if◌then◌else◌}
use Rattle.std.proofs.lemmas.Grind.{common_steps}
use Rattle.ov_base.specs.Version.{time_of, IsVersion}
use Rattle.ov_functor.specs.declared.part.Part.{Part}
use Rattle.ov_functor.specs.declared.command.Command.{Command}
use Rattle.ov_functor.specs.declared.command.Command.TheVariants as commands
use Rattle.ov_functor.specs.Serial.{folded, found, Falls}
use Rattle.ov_functor.proofs.SerialFold.{folded-is-serial, found-after-insert, insert-falls}
use Rattle.ov_topology.specs.declared.actor.Actor.{Actor}
use Rattle.ov_topology.specs.declared.actor.Actor.TheVariants.{Gate}
use Rattle.ov_event.specs.declared.entry.Entry.{Entry}
use Rattle.ov_event.specs.declared.kind.Kind.{Kind}
use Rattle.ov_event.specs.declared.kind.Kind.TheVariants.{Began}
use Rattle.ov_event.specs.declared.start.Start.TheVariants.{Draw}
use Rattle.ov_history.specs.Past.{History}
use Rattle.ov_history.specs.Draws.{Drawn, drawn_in, draw_of}
use Rattle.ov_history.specs.May.{Setting, StartsAs, Guard, May, Lawful}
use Rattle.ov_history.specs.Serial.{begun_as, or_begun, begun_at, with_drawn, begins, serial_at}
use Rattle.ov_laws.proofs.Watermarks.Later.{drawn_by_gate, serial_same}
use Rattle.ov_laws.proofs.Times.Begun.{draw_new, begun_is_drawn}

-- the list of the begun transactions has at each version the one that is begun there
pub found_begins : (h : History) (version : ℕ) → found (begins h) version ≡ begun_at h version
found_begins [] version = refl
found_begins (e ∷ h) version = by (drawn_in e.kind) (found_begins h version)
  where
    by : (o : Option Drawn) → found (begins h) version ≡ begun_at h version → found (with_drawn o (begins h)) version ≡ or_begun (begun_as version o) (begun_at h version)
    by None rest = rest
    by (Some drawn) rest = found-after-insert (record { version = drawn.version; transaction = drawn.transaction }) (begins h) version ∙ here (drawn.version == version)
      where
        here : (b : Bool) → (if b then Some drawn.transaction else found (begins h) version) ≡ or_begun (if b then Some drawn.transaction else None) (begun_at h version)
        here true = refl
        here false = rest

-- a number whose time is in its range is the number of a version
version_of_time : (n : ℕ) → time_of n < 2 ^ 47 → n < 2 ^ 63
version_of_time n early = omega (arith, early)

-- a draw that may follow has a version in form
draw_in_form : (t : Setting) (h : History) (a : Actor) (k : Kind) (drawn : Drawn) → Guard t h a k → drawn_in k ≡ Some drawn → IsVersion drawn.version
draw_in_form t h (Gate s) (Began session seq (Draw version transaction)) drawn guard drew = by guard.ready.planned.command guard.starts
  where
    by : (command : Command) → StartsAs h s session command (Draw version transaction) → IsVersion drawn.version
    by (commands.Transact parts) starts =
        let small : version < 2 ^ 63 = version_of_time version starts.1.time.held in
        let same : version ≡ drawn.version = grind (arith, common_steps) in
        rw (sym same) small
    by (commands.Snap keys) starts = absurd starts
draw_in_form t h a k drawn guard drew = absurd (grind (arith, common_steps))

-- nothing is begun yet at the version of a draw that may follow
draw_not_begun : (t : Setting) (h : History) (e : Entry) (s : ℕ) (new : Drawn) → Lawful t h → May t h e → draw_of s e ≡ Some new → begun_at h new.version ≡ None
draw_not_begun t h e s new lawful may drew = by (begun_at h new.version) refl
  where
    by : (o : Option (List Part)) → begun_at h new.version ≡ o → begun_at h new.version ≡ None
    by None is = is
    by (Some transaction) is =
        let old = begun_is_drawn t h new.version transaction lawful is in
        absurd (draw_new t h e s old.gate new old.drawn lawful may drew old.drew (sym old.version_is))

-- the versions of the begun transactions of a lawful history fall
pub begins_fall : (t : Setting) (h : History) → Lawful t h → Falls (2 ^ 63) (begins h)
begins_fall t [] lawful = tt
begins_fall t (e ∷ h) lawful = by (drawn_in e.kind) refl (begins_fall t h lawful.0)
  where
    by : (o : Option Drawn) → drawn_in e.kind ≡ o → Falls (2 ^ 63) (begins h) → Falls (2 ^ 63) (with_drawn o (begins h))
    by None is rest = rest
    by (Some drawn) is rest =
        let own = drawn_by_gate t h e.actor e.kind drawn lawful.1.guard is in
        insert-falls (2 ^ 63) (record { version = drawn.version; transaction = drawn.transaction }) (begins h)
        (draw_in_form t h e.actor e.kind drawn lawful.1.guard is)
        (found_begins h drawn.version ∙ draw_not_begun t h e own.0 drawn lawful.0 lawful.1 own.1)
        rest

-- the fold over the begun transactions of a lawful history is its serial map
pub folded_begins : (t : Setting) (h : History) (n : ℕ) → Lawful t h → folded (begins h) n ≡ serial_at h n
folded_begins t h n lawful =
    folded-is-serial (2 ^ 63) n (begins h) (begins_fall t h lawful) ∙ serial_same (found (begins h)) (begun_at h) n (λ version less. found_begins h version)
