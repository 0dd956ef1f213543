-- The replies of a settler core.
use Rattle.std.proofs.Common.{◌≡◌, ℕ, Bool, true, false, IsTrue, ◌↔◌, Option, Some, None, refl, sym, ap, ◌∙◌}
use Rattle.std.specs.Prelude.{if◌then◌else◌, nat_le, nat_lt, get_or}
use Rattle.std.proofs.lemmas.Bool.{lt-ltb, le-leb}
use Rattle.std.proofs.lemmas.Option.{same_Some}
use Rattle.ov_functor.specs.Execution.{reply_of}
use Rattle.ov_functor.specs.declared.reply.Reply.{Reply}
use Rattle.ov_functor.specs.declared.reply.Reply.TheVariants.{Snap}
use Rattle.ov_gossip.specs.Marks.{mark_at}
use Rattle.ov_topology.specs.Shape.{Shape}
use Rattle.ov_topology.specs.declared.actor.Actor.{Actor}
use Rattle.ov_topology.specs.declared.actor.Actor.TheVariants.{Settler}
use Rattle.ov_topology.specs.declared.place.Place.{Place}
use Rattle.ov_event.specs.Letters.{is_settler}
use Rattle.ov_event.specs.declared.kind.Kind.TheVariants.{Resulted}
use Rattle.ov_event.specs.declared.letter.Letter.{Letter}
use Rattle.ov_event.specs.declared.letter.Letter.TheVariants.{Want}
use Rattle.ov_event.specs.declared.start.Start.{Start}
use Rattle.ov_event.specs.declared.start.Start.TheVariants.{Draw, Look}
use Rattle.ov_history.specs.Past.{History}
use Rattle.ov_history.specs.Letters.{letter}
use Rattle.ov_history.specs.Settlers.{Shows, known_below, settled, shown}
use Rattle.ov_history.specs.Gives as given
use Rattle.ov_history.specs.Gives.{Take}
use Rattle.ov_history.specs.May.{Setting, MayResult}
use Rattle.ov_history.specs.Cores.{Steps}
use Rattle.ov_history.proofs.Given.{settler_takes_may}
use Rattle.ov_window.specs.Plan.{map_below}
use Rattle.ov_settler.specs.Settler.{SettlerState, IsSettler, is_resulted}
use Rattle.ov_settler.specs.Calls.{reply_to}
use Rattle.ov_settler.proofs.Stands.{by_settler, nothing_more, rests_goes, some_steps, letter_given}
use Rattle.ov_settler.proofs.Settles.{base_is}

-- what a core replies is what its settler replies
pub reply_is : (t : Setting) (h : History) (actor : Actor) (s : SettlerState) (start : Start) → IsSettler t h actor s → reply_to s start ≡ given.reply_to h s.centre start
reply_is t h actor s (Draw version transaction) is = λ i. if nat_lt version (is.settled_is i) then Some (reply_of (base_is t h actor s version is i) version transaction) else None
reply_is t h actor s (Look floor keys) is =
    let base : map_below s.settled s.values ≡ known_below s.centre h (settled s.centre h) = base_is t h actor s s.settled is ∙ ap (known_below s.centre h) is.settled_is in
    λ i. if nat_le floor (is.settled_is i) then Some (Snap (is.settled_is i) (shown (base i) keys)) else None

-- what a gateway of the topology wants is for this settler where the core says so
pub serves_is : (t : Setting) (h : History) (actor : Actor) (s : SettlerState) (gate : ℕ) (b : Bool) → IsSettler t h actor s → is_settler (get_or s.topology.gateways gate 0) (Settler s.centre) ≡ b
    → is_settler (get_or t.topology.gateways gate 0) (Settler s.centre) ≡ b
serves_is t h actor s gate b is serves = ap (λ (shape : Shape). is_settler (get_or shape.gateways gate 0) (Settler s.centre)) (sym is.topology_is) ∙ serves

-- ---- the call

pub result_steps : (t : Setting) (h : History) (actor : Actor) (s : SettlerState) (place : Place) (session seq gate : ℕ) (start : Start) (reply : Reply) → IsSettler t h actor s → s.stopped ≡ false
    → letter t.topology h place ≡ Some (Want session seq gate start) → is_settler (get_or s.topology.gateways gate 0) (Settler s.centre) ≡ true → reply_to s start ≡ Some reply
    → Steps IsSettler is_resulted t h actor (Take place) (Some (by_settler s.centre (Resulted place session seq gate reply))) s
result_steps t h actor s place session seq gate start reply is running there serves computed =
    let takes_it : given.settler_takes h s.centre place (Want session seq gate start) ≡ Some (Resulted place session seq gate reply) = rw (sym (reply_is t h actor s start is), computed) refl in
    some_steps is_resulted t h actor (Take place) s s (Resulted place session seq gate reply) is
    (letter_given is_resulted t h actor s place (Want session seq gate start) (Resulted place session seq gate reply) is running there (serves_is t h actor s gate true is serves) takes_it refl)
    (rests_goes t h actor s s.vector s.stopped (Resulted place session seq gate reply) is (record { asks = refl; opened = λ round. refl; raised = λ round old. refl; values = refl; takes = λ n c p. refl; brought = λ one n past. refl }) refl refl
    (λ k less. nothing_more (mark_at s.vector k)))

-- ---- what may follow

-- a reply that shows the settler's values is the one that the core computes
shows_reply : (t : Setting) (h : History) (actor : Actor) (s : SettlerState) (start : Start) (reply : Reply) → IsSettler t h actor s → Shows (known_below s.centre h) (settled s.centre h) start reply → reply_to s start ≡ Some reply
shows_reply t h actor s (Draw version transaction) reply is shows = reply_is t h actor s (Draw version transaction) is ∙ (rw (lt-ltb version (settled s.centre h) shows.0) (ap (λ (r : Reply). Some r) (sym shows.1)))
shows_reply t h actor s (Look floor keys) reply is shows = reply_is t h actor s (Look floor keys) is ∙ (rw (le-leb floor (settled s.centre h) shows.0) (ap (λ (r : Reply). Some r) (sym shows.1)))

-- a reply may be computed where it is the one that the core computes for the letter
pub reply_iff : (t : Setting) (h : History) (actor : Actor) (s : SettlerState) (place : Place) (session seq gate : ℕ) (start : Start) (reply own : Reply) (o : Option Letter) (b : Bool) → IsSettler t h actor s → o ≡ letter t.topology h place
    → o ≡ Some (Want session seq gate start) → is_settler (get_or s.topology.gateways gate 0) (Settler s.centre) ≡ true → reply_to s start ≡ Some own → (IsTrue b ↔ (reply ≡ own))
    → IsTrue b ↔ MayResult t.topology h place s.centre session seq gate reply
reply_iff t h actor s place session seq gate start reply own o b is there sent serves computed test = (
  λ passes. settler_takes_may t h s.centre place (Want session seq gate start) (Resulted place session seq gate reply)
      (record { there = sym there ∙ sent; addressed = serves_is t h actor s gate true is serves })
      (rw (sym (reply_is t h actor s start is), computed) (ap (λ r. Some (Resulted place session seq gate r)) (sym (test.0 passes)))),
  λ may.
      let both : Some (Want session seq gate may.start) ≡ Some (Want session seq gate start) = sym may.sent.there ∙ (sym there ∙ sent) in
      let same : may.start ≡ start = cc in
      test.1 (same_Some reply own (sym (shows_reply t h actor s may.start reply is may.shows) ∙ (ap (reply_to s) same ∙ computed))),
)
