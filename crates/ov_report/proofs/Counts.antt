-- How many of the first entries give a reply of a kind.
use Rattle.std.proofs.Common.{◌≡◌, ℕ, ◌+◌, ◌<◌, Bool, false, List, [], ◌∷◌, ◌++◌, length, get_or, take, refl, arith}
use Rattle.std.specs.Prelude.{if◌then◌else◌}
use Rattle.std.proofs.lemmas.List.{take_more}
use Rattle.ov_functor.specs.declared.reply.Reply.{Reply}
use Rattle.ov_event.specs.declared.entry.Entry.{Entry}
use Rattle.ov_event.specs.declared.kind.Kind.{Kind}
use Rattle.ov_event.specs.declared.kind.Kind.TheVariants.{Replied}
use Rattle.ov_topology.specs.declared.place.Place.{Place}
use Rattle.ov_history.specs.Past.{tally}
use Rattle.ov_report.specs.Summary.{gives_reply, replies_given}

-- how many pass, with one more at the end
tally_after : (f : Entry → Bool) (entries : List Entry) (e : Entry) → tally f (entries ++ e ∷ []) ≡ tally f entries + (if f e then 1 else 0)
tally_after f [] e = omega arith
tally_after f (first ∷ entries) e = let more = tally_after f entries e in omega (arith, more)

-- how many give such a reply, with one entry more
pub given_more : (test : Reply → Bool) (entries : List Entry) (i : ℕ) (d e : Entry) → i < length entries → e ≡ get_or entries i d
    → replies_given test (take (i + 1) entries) ≡ replies_given test (take i entries) + (if gives_reply test e.kind then 1 else 0)
given_more test entries i d e less is = rw (take_more entries i d less, is) (tally_after (λ x. gives_reply test x.kind) (take i entries) (get_or entries i d))

-- an entry that is no reply gives none
pub none_given : (kind : Kind) → ((place : Place) (s c : ℕ) (reply : Reply) → kind ≡ Replied place s c reply → ⊥) → (test : Reply → Bool) → gives_reply test kind ≡ false
none_given (Replied place s c reply) other test = absurd (other place s c reply refl)
none_given kind other test = refl
