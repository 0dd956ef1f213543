-- The history after each turn.
use Rattle.std.proofs.Common.{◌≡◌, ℕ, ◌+◌, ◌≤◌, cond, List, sym, refl, ap, ◌∙◌, subst, arith, le_refl, ne_eqb, eq-eqb}
use Rattle.std.specs.Prelude.{Some, slice_get}
use mathlib.Core.List.{IsPrefix}
use mathlib.Core.Logic.{dite}
use native.Mathlib.Decide.{ℕ_discrete}
use Rattle.ov_chronicle.specs.declared.rule.Past.{Past}
use Rattle.ov_chronicle.specs.Rules.{IsTold, told, IsPast}
use Rattle.ov_chronicle.specs.Seats.{AreTold}
use Rattle.ov_chronicle.proofs.Prefixes.{prefix_self, prefix_trans}

module _ {E : Type 0} where
  -- the history after the new turn
  pub told_last : (history : ℕ → List E) (turn : ℕ) (log : List E) (t : ℕ) → t ≡ turn → told history turn log t ≡ log
  told_last history turn log t is = ap (λ b. cond b log (history t)) (eq-eqb t turn is)

  -- the histories after earlier turns stay
  pub told_before : (history : ℕ → List E) (turns : ℕ) (log : List E) (t : ℕ) → t ≤ turns → told history (turns + 1) log t ≡ history t
  told_before history turns log t le = ap (λ b. cond b log (history t)) (ne_eqb t (turns + 1) (λ e. omega arith))

  -- one more turn, after which the history begins with what it was
  pub tells_on : (log : List E) (turns : ℕ) (history : ℕ → List E) (next : List E) → IsTold log turns history → IsPrefix log next → IsTold next (turns + 1) (told history (turns + 1) next)
  tells_on log turns history next old begins = record {
    start = told_before history turns next 0 (omega arith) ∙ old.start;
    last = told_last history (turns + 1) next (turns + 1) refl;
    grows = λ i j le top. dite (ℕ_discrete j (turns + 1))
        (λ new. subst (λ l. IsPrefix (told history (turns + 1) next i) l) (sym (told_last history (turns + 1) next j new)) (dite (ℕ_discrete i (turns + 1))
        (λ same. subst (λ l. IsPrefix l next) (sym (told_last history (turns + 1) next i same)) (prefix_self next))
        (λ earlier. let low : i ≤ turns = omega arith in subst (λ l. IsPrefix l next) (sym (told_before history turns next i low)) (prefix_trans (history i) log next (subst (λ l. IsPrefix (history i) l) old.last (old.grows i turns low (le_refl turns))) begins))))
        (λ earlier. let high : j ≤ turns = omega arith in let low : i ≤ turns = omega arith in
        subst (λ (z : List E × List E). IsPrefix z.0 z.1) (λ k. (sym (told_before history turns next i low) k, sym (told_before history turns next j high) k)) (old.grows i j le high));
  }

  -- what was the history after a turn begins it
  pub seen_begins : (log : List E) (turns : ℕ) (history : ℕ → List E) → IsTold log turns history → (seen : List E) (turn : ℕ) → turn ≤ turns → seen ≡ history turn → IsPrefix seen log
  seen_begins log turns history is seen turn le saw = subst (λ (z : List E × List E). IsPrefix z.0 z.1) (λ k. (sym saw k, is.last k)) (is.grows turn turns le (le_refl turns))

-- what the rule keeps of seats is what `close` tells of them
pub are_told : {E T : Type 0} (actor_of : E → ℕ) (lawful : T → List E → Type 0) (setting : T) (log : List E) (turns : ℕ) (history : ℕ → List E) (pasts : List (Past E T)) → lawful setting log → IsTold log turns history
    → ((k : ℕ) (p : Past E T) → slice_get pasts k ≡ Some p → IsPast actor_of setting log turns history p) → AreTold actor_of lawful log pasts
are_told {E} {T} actor_of lawful setting log turns history pasts law is each = (
  (λ k p e. let o = each k p e in (subst (λ s. lawful s log) (sym o.0) law, seen_begins log turns history is p.seen p.turn o.1 o.2, o.3)),
  (λ i j p q at there le. let a = each i p at in let b = each j q there in
      subst (λ (z : List E × List E). IsPrefix z.0 z.1) (λ k. (sym a.2 k, sym b.2 k)) (is.grows p.turn q.turn le b.1)),
)
