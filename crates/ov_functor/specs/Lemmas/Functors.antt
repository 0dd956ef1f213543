-- Tests of functors and transactions hold of equal things alone, in the form that `grind` applies by itself.
use Rattle.std.specs.Prelude.{◌≡◌, false, ◌⊎◌, List}
use Rattle.ov_base.specs.Lemmas.{fails_or_same}
use Rattle.ov_functor.specs.declared.functor.Functor.{Functor}
use Rattle.ov_functor.specs.declared.part.Part.{Part}
use Rattle.ov_functor.specs.contracts.functor.FunctorPartialEq.TheImpl as functor_impl
use Rattle.ov_functor.specs.contracts.functor.FunctorPlain.TheImpl.Laws as functor_laws
use Rattle.ov_functor.specs.contracts.transaction.TransactionPartialEq.TheImpl as transaction_impl
use Rattle.ov_functor.specs.contracts.transaction.TransactionPlain.TheImpl.Laws as transaction_laws

pub functor-cases : (x y : Functor) → (functor_impl.ghosts.eq x y ≡ false) ⊎ (x ≡ y)
functor-cases x y = fails_or_same (functor_impl.ghosts.eq x y) (functor_laws.exact-law x y)

pub transaction-cases : (x y : List Part) → (transaction_impl.ghosts.eq x y ≡ false) ⊎ (x ≡ y)
transaction-cases x y = fails_or_same (transaction_impl.ghosts.eq x y) (transaction_laws.exact-law x y)
