-- A version that is read is written so, and what is written is read again.
use Rattle.std.proofs.Common.{◌≡◌, ℕ, ◌<◌, ltb, ◌&&◌, List, ◌∷◌, ◌++◌, Some, refl, subst, ◌∙◌, arith}
use Rattle.std.specs.Fmt.{decimal}
use Rattle.std.proofs.lemmas.Bool.{lt-ltb, ltb-true, and_parts}
use Rattle.std.proofs.lemmas.Option.{cond_some}
use Rattle.std.proofs.lemmas.Nat.{div-mul-add, mod-mul-add, div-add-mod'}
use Rattle.ov_base.specs.Number.{number_of}
use Rattle.ov_base.specs.Split.{cut_at}
use Rattle.ov_base.specs.Version.{number, time_of, gate_of, time_limit, gate_limit, version_text, version_of, IsVersion}
use Rattle.ov_base.proofs.Readers.{bind_some}
use Rattle.ov_base.proofs.Numbers.{number_again, number_takes}
use Rattle.ov_base.proofs.Splits.{cut_again, cut_takes, decimal_lacks}

pub version_again : (n : ℕ) → IsVersion n → version_of (version_text n) ≡ Some n
unfolding version_of
version_again n small =
    let early : time_of n < time_limit = omega arith in
    let low : gate_of n < gate_limit = omega arith in
    rw (
      cut_again 46 (decimal (time_of n)) (decimal (gate_of n)) (decimal_lacks 46 (time_of n) (omega arith) (omega arith)),
      number_again (time_of n) (omega arith),
      number_again (gate_of n) (omega arith),
      lt-ltb _ _ early,
      lt-ltb _ _ low,
      div-add-mod' n gate_limit,
    ) refl

version_parts : (bs front back : List ℕ) (t g : ℕ) → bs ≡ front ++ 46 ∷ back → front ≡ decimal t → back ≡ decimal g → t < time_limit → g < gate_limit
    → IsVersion (number t g) × (bs ≡ version_text (number t g))
version_parts bs front back t g parts time gate early low =
    (omega arith, parts ∙ rw (time, gate, div-mul-add t gate_limit g low, mod-mul-add t gate_limit g low) refl)

pub version_takes : (bs : List ℕ) (n : ℕ) → version_of bs ≡ Some n → IsVersion n × (bs ≡ version_text n)
unfolding version_of
version_takes bs n e =
    bind_some (cut_at 46 bs) _ n e λ p cut rest.
    bind_some (number_of p.0) _ n rest λ t time rest2.
    bind_some (number_of p.1) _ n rest2 λ g gate last.
    let q = cond_some (ltb t time_limit && ltb g gate_limit) (number t g) n last in
    let tests = and_parts (ltb t time_limit) (ltb g gate_limit) q.0 in
    subst (λ (m : ℕ). IsVersion m × (bs ≡ version_text m)) q.1
    (version_parts bs p.0 p.1 t g (cut_takes 46 bs p.0 p.1 cut) (number_takes p.0 t time).1 (number_takes p.1 g gate).1
    (ltb-true t time_limit tests.0) (ltb-true g gate_limit tests.1))
