-- The replies that are kept by their commands are those of the history.
use Rattle.std.proofs.Common.{◌≡◌, ℕ, Bool, true, false, cond, Some, None, List, [], ◌∷◌, refl, sym, ap, ◌∙◌, arith}
use Rattle.std.specs.Prelude.{if◌then◌else◌}
use Rattle.std.specs.Borrow.{Bor}
use Rattle.std.specs.Map.{lookup}
use Rattle.std.specs.Option.{option_map}
use Rattle.std.proofs.lemmas.Grind.{common_steps}
use Rattle.ov_topology.specs.declared.place.Place.{Place}
use Rattle.ov_functor.specs.declared.reply.Reply.{Reply}
use Rattle.ov_script.specs.contracts.order.CommandAtPartialEq.TheImpl.{ghosts}
use Rattle.ov_script.specs.declared.order.CommandAt.{CommandAt}
use Rattle.ov_event.specs.declared.entry.Entry.{Entry}
use Rattle.ov_event.specs.declared.kind.Kind.{Kind}
use Rattle.ov_event.specs.declared.kind.Kind.TheVariants.{Replied}
use Rattle.ov_history.specs.Past.{History}
use Rattle.ov_report.specs.Replies.{same_command}
use Rattle.ov_report.specs.Report.{or_else, reply_in, reply_to}
use Rattle.ov_report.proofs.Shown.{swapped}

-- ---- the test of commands

-- the derived test is the one of the definitions
test_is : (one other : CommandAt) → ghosts.eq one other ≡ same_command one other
test_is one other = grind (arith, common_steps)

-- a look-up is the same by both
found_alike : {X : Type 0} (k : CommandAt) (known : List (CommandAt × X)) → lookup (ghosts.eq k) known ≡ lookup (same_command k) known
found_alike k [] = refl
found_alike k (first ∷ known) = rw (test_is k first.0, found_alike k known) refl

-- ---- one entry more

-- the pairs are the replies of the history, by their commands
abbrev pub Kept : History → List (CommandAt × Bor Reply) → Type 0
Kept h known = (s c : ℕ) → option_map (λ r. r.now) (lookup (same_command (record { session = s; seq = c })) known) ≡ reply_to s c h

-- with an entry more that replies to a command
pub more_kept : (e : Entry) (place : Place) (at : CommandAt) (r : Bor Reply) (old new : List (CommandAt × Bor Reply)) → e.kind ≡ Replied place at.session at.seq r.now
    → ((k : CommandAt) → lookup (ghosts.eq k) new ≡ cond (ghosts.eq at k) (Some r) (lookup (ghosts.eq k) old))
    → (h : History) → Kept h old → Kept (e ∷ h) new
more_kept e place at r old new replied updated h kept s c =
    let k : CommandAt = record { session = s; seq = c } in
    ap (option_map (λ x. x.now)) (sym (found_alike k new) ∙ updated k ∙ rw (test_is at k, found_alike k old) refl)
    ∙ either (same_command at k)
    ∙ ap (λ (b : Bool). or_else (if b then Some r.now else None) (reply_to s c h)) (swapped at.session s at.seq c)
    ∙ ap (λ (kind : Kind). or_else (reply_in s c kind) (reply_to s c h)) (sym replied)
  where
    either : (b : Bool) → option_map (λ x. x.now) (cond b (Some r) (lookup (same_command (record { session = s; seq = c })) old)) ≡ or_else (if b then Some r.now else None) (reply_to s c h)
    either true = refl
    either false = kept s c
