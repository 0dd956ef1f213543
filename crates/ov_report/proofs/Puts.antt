-- What a sink holds where one text was put whole and the next one in part.
use Rattle.std.proofs.Common.{ℕ, List, ◌++◌, Option, sym, ap, ◌∙◌, append_assoc}
use Rattle.ov_io.specs.Causes.{Wrote, WroteFront}
use Rattle.ov_io.proofs.Sinks.{wrote_both}

-- a prefix of the first of two texts was put
pub front_first : (old new : Option (List ℕ)) (a b : List ℕ) → WroteFront old new a → WroteFront old new (a ++ b)
front_first old new a b front = (front.0, front.1 ++ b, ap (λ (t : List ℕ). t ++ b) front.2 ∙ append_assoc front.0 front.1 b, front.3)

-- the first of two texts was put, and a prefix of the second
pub front_second : (old mid new : Option (List ℕ)) (a b : List ℕ) → Wrote old mid a → WroteFront mid new b → WroteFront old new (a ++ b)
front_second old mid new a b wrote front =
    (a ++ front.0, front.1, ap (λ (t : List ℕ). a ++ t) front.2 ∙ sym (append_assoc a front.0 front.1), wrote_both old mid new a front.0 wrote front.3)
