-- The last reply to a command stands in the history, and there is one for exactly the commands that are replied.
use Rattle.std.proofs.Common.{◌≡◌, ◌==◌, ℕ, ◌+◌, Bool, true, false, ◌&&◌, ◌||◌, Option, Some, None, is_some, [], ◌∷◌, length, refl, ap, ◌∙◌, arith}
use Rattle.std.specs.Prelude.{if◌then◌else◌}
use Rattle.std.proofs.lemmas.Grind.{common_steps}
use Rattle.ov_topology.specs.declared.actor.Actor.{Actor}
use Rattle.ov_topology.specs.declared.place.Place.{Place}
use Rattle.ov_functor.specs.declared.reply.Reply.{Reply}
use Rattle.ov_event.specs.declared.entry.Entry.{Entry}
use Rattle.ov_event.specs.declared.kind.Kind.{Kind}
use Rattle.ov_event.specs.declared.kind.Kind.TheVariants.{Replied}
use Rattle.ov_history.specs.Past.{History, at}
use Rattle.ov_history.specs.Marks.{replies}
use Rattle.ov_history.proofs.Past.{at_older}
use Rattle.ov_follow.specs.Passes.{is_replied}
use Rattle.ov_report.specs.Report.{IsShown, or_else, reply_in, reply_to}

-- two tests of numbers, each from the other side
pub swapped : (a b x y : ℕ) → ((a == b) && (x == y)) ≡ ((b == a) && (y == x))
swapped a b x y = grind (arith, common_steps)

-- a kind has a reply to the command where it replies to it
in_answered : (s c : ℕ) (k : Kind) → is_some (reply_in s c k) ≡ replies s c k
in_answered s c (Replied place session seq reply) = by ((s == session) && (c == seq)) ∙ swapped s session c seq
  where
    by : (b : Bool) → is_some (if b then Some reply else None) ≡ b
    by true = refl
    by false = refl
in_answered s c other = refl

-- one of two is there
either_answered : (one other : Option Reply) → is_some (or_else one other) ≡ (is_some one || is_some other)
either_answered None other = refl
either_answered (Some reply) other = refl

-- there is a reply to exactly the commands that are replied
pub answered : (h : History) (s c : ℕ) → is_some (reply_to s c h) ≡ is_replied s c h
answered [] s c = refl
answered (e ∷ h) s c = either_answered (reply_in s c e.kind) (reply_to s c h) ∙ rw (in_answered s c e.kind, answered h s c) refl

-- an entry of these parts
abbrev entry_of : Actor → Kind → Entry
entry_of actor kind = record { actor = actor; kind = kind }

-- what a kind says that has the reply to the command
in_shown : (s c : ℕ) (k : Kind) (reply : Reply) → reply_in s c k ≡ Some reply → (place : Place) × (k ≡ Replied place s c reply)
in_shown s c (Replied place session seq other) reply is = (place, by ((s == session) && (c == seq)) refl is)
  where
    by : (b : Bool) → ((s == session) && (c == seq)) ≡ b → (if b then Some other else None) ≡ Some reply → Replied place session seq other ≡ Replied place s c reply
    by true same is =
        let first : s ≡ session = grind (arith, common_steps) in
        let second : c ≡ seq = grind (arith, common_steps) in
        cc
    by false apart is = cc
in_shown s c other reply is = cc

-- the last reply to a command stands in the history
pub shown_there : (h : History) (s c : ℕ) (reply : Reply) → reply_to s c h ≡ Some reply → IsShown h s c reply
shown_there [] s c reply is = cc
shown_there (e ∷ h) s c reply is = by (reply_in s c e.kind) refl is (shown_there h s c reply)
  where
    by : (o : Option Reply) → reply_in s c e.kind ≡ o → or_else o (reply_to s c h) ≡ Some reply → (reply_to s c h ≡ Some reply → IsShown h s c reply) → IsShown (e ∷ h) s c reply
    by None none is before =
        let shown = before is in
        record {
          number = shown.number;
          actor = shown.actor;
          place = shown.place;
          there = at_older h shown.number _ e shown.there;
        }
    by (Some first) some is before =
        let said = in_shown s c e.kind reply (some ∙ is) in
        let newest : at (e ∷ h) (length h + 1) ≡ Some e = grind (arith, common_steps) in
        record {
          number = length h + 1;
          actor = e.actor;
          place = said.0;
          there = newest ∙ ap (λ (kind : Kind). Some (entry_of e.actor kind)) said.1;
        }
