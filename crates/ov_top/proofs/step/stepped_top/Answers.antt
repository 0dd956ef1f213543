use Rattle.std.proofs.Common.{◌≡◌, ◌≤◌, ℕ, ◌⊎◌, inl, inr, arith}
use Rattle.ov_top.proofs.Orders.{accepts, all_are_once, completes, did, journal_refused, makes, read_faulted, waits}
use Rattle.ov_top.proofs.step.stepped_top.Goals as goal

low : (status : ℕ) → (status ≡ 0) ⊎ (status ≡ 1) → status ≤ 1
low status (inl zero) = omega (arith, zero)
low status (inr one) = omega (arith, one)

pub returns-clause-done : goal.returns-clause-done
returns-clause-done g c = λ either. did (g.F.Shelf.told c.args.shelf.now) (g.F.Shelf.faults c.args.shelf.now) (g.F.Shelf.faults c.step_by.new.shelf) _ _ _ _ _ c.step_by.ensures.ends
    (low c.step_by.result either)

pub returns-clause-all : goal.returns-clause-all
returns-clause-all g c = λ zero other. all_are_once (g.F.Shelf.told c.args.shelf.now) (g.F.Shelf.faults c.args.shelf.now) (g.F.Shelf.faults c.step_by.new.shelf) _ _ _ _ _ c.step_by.ensures.ends
    (c.step_by.ensures.form (λ nine. omega (arith, nine, zero))) c.step_by.ensures.short c.step_by.ensures.right zero other

pub returns-clause-waits : goal.returns-clause-waits
returns-clause-waits g c = λ one. waits (g.F.Shelf.told c.args.shelf.now) (g.F.Shelf.faults c.args.shelf.now) (g.F.Shelf.faults c.step_by.new.shelf) _ _ _ _ _ c.step_by.ensures.ends
    c.step_by.ensures.short one

pub returns-clause-read : goal.returns-clause-read
returns-clause-read g c = λ seven. read_faulted (g.F.Shelf.told c.args.shelf.now) (g.F.Shelf.faults c.args.shelf.now) (g.F.Shelf.faults c.step_by.new.shelf) _ _ _ _ _ c.step_by.ensures.ends seven

pub returns-clause-complete : goal.returns-clause-complete
returns-clause-complete g c = λ form none sound whole. completes (g.F.Shelf.told c.args.shelf.now) (g.F.Shelf.faults c.args.shelf.now) (g.F.Shelf.faults c.step_by.new.shelf) _ _ _ _ _
    c.step_by.ensures.ends c.step_by.ensures.short form none (λ eight. sound (c.step_by.ensures.write eight)) whole

pub returns-clause-refused : goal.returns-clause-refused
returns-clause-refused g c = λ six. journal_refused (g.F.Shelf.told c.args.shelf.now) (g.F.Shelf.faults c.args.shelf.now) (g.F.Shelf.faults c.step_by.new.shelf) _ _ _ _ _ c.step_by.ensures.ends six

pub returns-clause-accepts : goal.returns-clause-accepts
returns-clause-accepts g c = λ form none sound. accepts (g.F.Shelf.told c.args.shelf.now) (g.F.Shelf.faults c.args.shelf.now) (g.F.Shelf.faults c.step_by.new.shelf) _ _ _ _ _
    c.step_by.ensures.ends form none (λ eight. sound (c.step_by.ensures.write eight))

pub returns-clause-makes : goal.returns-clause-makes
returns-clause-makes g c = λ make sound. makes (g.F.Shelf.told c.args.shelf.now) (g.F.Shelf.faults c.args.shelf.now) (g.F.Shelf.faults c.step_by.new.shelf) _ _ _ _ _ c.step_by.ensures.ends
    make (λ eight. sound (c.step_by.ensures.write eight))
