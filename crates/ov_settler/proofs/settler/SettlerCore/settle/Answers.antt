use Rattle.ov_settler.proofs.Settles.{settle_none, settle_steps}
use Rattle.ov_settler.proofs.settler.SettlerCore.settle.Goals as goal

pub returns-in_default-clause-steps : goal.returns-in_default-clause-steps
returns-in_default-clause-steps c = λ t h actor is. settle_none t h actor _ is c.in_default.ensures

pub returns-clause-steps : goal.returns-clause-steps
returns-clause-steps c = rw (← c.self.view_is, c.entry.ensures, c.keep_all.ensures, c.as_slice.ensures, c.in_ok-reserve.ensures.entries, c.in_ok-settled.ensures, c.tasks.ensures.tasks) (λ t h actor is.
    settle_steps t h actor _ c.in-Some.below c.args.plan.now c.args.values.now is (rw (← c.self.view_is) at c.in-Some.ensures) (rw (← c.self.view_is) at c.requires))
