use Rattle.ov_functor.proofs.Agreement.{apply-is-exec, exec-keeps-others}
use Rattle.ov_functor.proofs.laws.functor_agreement.Goals as goal

pub returns-clause-written : goal.returns-clause-written
returns-clause-written c = apply-is-exec

pub returns-clause-others : goal.returns-clause-others
returns-clause-others c = exec-keeps-others
