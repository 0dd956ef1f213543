use Rattle.ov_node.proofs.Letters.{functor_there}
use Rattle.ov_node.proofs.held.Held.functor.Goals as goal

pub returns : goal.returns
returns c = rw (← c.self.view_is, c.as_slice.ensures) (functor_there c.self.inside.items c.self.inside.place _ c.self.invariant)
