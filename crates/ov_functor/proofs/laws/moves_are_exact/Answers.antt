use Rattle.ov_functor.proofs.MovesExact.{out-is-difference, in-is-sum}
use Rattle.ov_functor.proofs.laws.moves_are_exact.Goals as goal

pub returns-clause-out : goal.returns-clause-out
returns-clause-out c = λ amount from to holds some from_is to_is. out-is-difference amount from to holds some from_is

pub returns-clause-into : goal.returns-clause-into
returns-clause-into c = λ amount from to holds some from_is to_is. in-is-sum amount from to holds some to_is
