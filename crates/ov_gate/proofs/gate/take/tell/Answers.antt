use Rattle.ov_gate.proofs.gate.take.tell.Goals as goal

pub returns-then-has : goal.returns-then-has
returns-then-has c = λ roster gate events has stands. c.told.ensures.meaning roster gate events stands
