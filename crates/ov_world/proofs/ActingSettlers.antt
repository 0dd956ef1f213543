-- What a settler gives is of the kinds that its calls make, and the answers that it takes are sound.
use Rattle.std.proofs.Common.{◌≡◌, ℕ, ◌+◌, ◌^◌, ◌&&◌, Bool, true, None, Some, List, refl, sym, subst, ◌∙◌}
use Rattle.std.specs.Prelude.{nat_lt}
use Rattle.std.proofs.lemmas.Option.{same_Some}
use Rattle.ov_functor.specs.declared.item.Item.{Item}
use Rattle.ov_functor.specs.declared.reply.Reply.{Reply}
use Rattle.ov_topology.specs.Shape.{Shape}
use Rattle.ov_topology.specs.declared.actor.Actor.{Actor}
use Rattle.ov_topology.specs.declared.mode.Mode.{Mode}
use Rattle.ov_topology.specs.declared.place.Place.{Place}
use Rattle.ov_event.specs.declared.kind.Kind.{Kind}
use Rattle.ov_event.specs.declared.kind.Kind.TheVariants.{Asked, Resulted, Settled, Taken}
use Rattle.ov_event.specs.declared.letter.Letter.{Letter}
use Rattle.ov_event.specs.declared.letter.Letter.TheVariants as letters
use Rattle.ov_event.specs.declared.start.Start.{Start}
use Rattle.ov_history.specs.Past.{History}
use Rattle.ov_history.specs.Letters.{letter}
use Rattle.ov_history.specs.Counts.{all_below}
use Rattle.ov_history.specs.Settlers.{open_round, plan_values, rounds, settled}
use Rattle.ov_history.specs.Gives.{Settle, asks, is_current, is_enough, reply_to, settler_takes, settles}
use Rattle.ov_history.specs.May.{Setting, Lawful, upper}
use Rattle.ov_laws.proofs.Sound.{sound_answer}
use Rattle.ov_window.specs.Harvest.{Gathered, IsWhole}
use Rattle.ov_settler.specs.Settler.{IsAnswer, IsSettler, IsSound, SettlerState, is_asked, is_settled, is_taken, round_of}
use Rattle.ov_settler.proofs.Settles.{settle_none}
use Rattle.ov_settler.proofs.Takes.{current_is}
use Rattle.ov_world.specs.Actors.{Does}
use Rattle.ov_world.proofs.Acting.{Passes, one_passes, tested_passes, bound_passes, does_where}

-- a round that it opens
pub asks_passes : (t : Shape) (h : History) (s : ℕ) (mode : Mode) → Passes is_asked (asks t h s mode)
asks_passes t h s mode =
    tested_passes is_asked (nat_lt (rounds s h + 1) (2 ^ 64) && nat_lt (settled s h) (upper t s h mode)) (Asked (rounds s h + 1) mode (settled s h) (upper t s h mode)) refl

-- a round that it settles
pub settles_passes : (t : Shape) (h : History) (s : ℕ) → Passes is_settled (settles t h s)
settles_passes t h s =
    bound_passes is_settled (open_round s h) _ (λ round.
    tested_passes is_settled (all_below (is_enough t s round h round.mode) t.partitions) (Settled (plan_values s round h)) refl)

-- an answer that it takes
pub answer_passes : (h : History) (s : ℕ) (place : Place) (settler round c p : ℕ) (items : List Item)
    → Passes is_taken (settler_takes h s place (letters.Answer settler round c p items))
answer_passes h s place settler round c p items = tested_passes is_taken (is_current (open_round s h) round) (Taken place round c p items) refl

-- a reply that it computes
pub want_passes : (f : Kind → Bool) (h : History) (s : ℕ) (place : Place) (session seq gate : ℕ) (start : Start)
    → ((reply : Reply) → f (Resulted place session seq gate reply) ≡ true)
    → Passes f (settler_takes h s place (letters.Want session seq gate start))
want_passes f h s place session seq gate start each =
    bound_passes f (reply_to h s start) _ (λ reply.
    one_passes f (Resulted place session seq gate reply) (each reply))

-- ---- answers

-- an answer of a lawful history to the open round of the core lies in the round of its harvest
answer_in_round : (t : Setting) (h : History) (actor : Actor) (s : SettlerState) (place : Place) (c p : ℕ) (items : List Item) (one : Gathered)
    → Lawful t h → IsSettler t h actor s → letter t.topology h place ≡ Some (letters.Answer s.centre s.rounds c p items) → s.harvest ≡ Some one
    → IsAnswer s.topology one c p items
answer_in_round t h actor s place c p items one lawful is there held =
    let answer = sound_answer t h s.centre place (round_of s.rounds one) c p items lawful there (current_is t h actor s one is held) in
    rw is.topology_is (record { centre_in = answer.centre_in; part_in = answer.part_in; inside = answer.inside })

-- each letter of a lawful history is sound for the core
pub settler_sound : (t : Setting) (h : History) (actor : Actor) (s : SettlerState) (place : Place) (sent : Letter)
    → Lawful t h → IsSettler t h actor s → letter t.topology h place ≡ Some sent → IsSound s sent
settler_sound t h actor s place (letters.Answer settler round c p items) lawful is there =
    λ own current one held. answer_in_round t h actor s place c p items one lawful is (rw (sym own, sym current) there) held
settler_sound t h actor s place other lawful is there = tt

-- ---- settling

-- a core whose open round is not whole gives none to settle
pub settles_none : (t : Setting) (h : History) (actor : Actor) (s : SettlerState) (one : Gathered)
    → IsSettler t h actor s → s.harvest ≡ Some one → (IsWhole one → ⊥) → Does IsSettler t h actor Settle None s
settles_none t h actor s one is held lacks =
    does_where IsSettler is_settled t h actor Settle None s (rw is.actor_is (settles_passes t.topology h s.centre))
    (settle_none t h actor s is (λ below closes. lacks (subst IsWhole (same_Some closes.harvest one (sym closes.open_is ∙ held)) closes.whole)))
