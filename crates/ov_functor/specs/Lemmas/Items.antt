-- Tests of items, shown keys and values hold of equal things alone, in the form that `grind` applies by itself.
use Rattle.std.specs.Prelude.{◌≡◌, false, ◌⊎◌, List}
use Rattle.ov_base.specs.Exact.{lists_same}
use Rattle.ov_base.specs.Lemmas.{lists_same-cases}
use Rattle.ov_functor.specs.declared.item.Item.{Item}
use Rattle.ov_functor.specs.declared.item.Shown.{Shown}
use Rattle.ov_functor.specs.declared.item.Valued.{Valued}
use Rattle.ov_functor.specs.contracts.item.ItemPartialEq.TheImpl as item_impl
use Rattle.ov_functor.specs.contracts.item.ItemPlain.TheImpl.Laws as item_laws
use Rattle.ov_functor.specs.contracts.item.ShownPartialEq.TheImpl as shown_impl
use Rattle.ov_functor.specs.contracts.item.ShownPlain.TheImpl.Laws as shown_laws
use Rattle.ov_functor.specs.contracts.item.ValuedPartialEq.TheImpl as valued_impl
use Rattle.ov_functor.specs.contracts.item.ValuedPlain.TheImpl.Laws as valued_laws

pub items-cases : (xs ys : List Item) → (lists_same item_impl.ghosts.eq xs ys ≡ false) ⊎ (xs ≡ ys)
items-cases xs ys = lists_same-cases item_impl.ghosts.eq item_laws.exact-law xs ys

pub showns-cases : (xs ys : List Shown) → (lists_same shown_impl.ghosts.eq xs ys ≡ false) ⊎ (xs ≡ ys)
showns-cases xs ys = lists_same-cases shown_impl.ghosts.eq shown_laws.exact-law xs ys

pub valueds-cases : (xs ys : List Valued) → (lists_same valued_impl.ghosts.eq xs ys ≡ false) ⊎ (xs ≡ ys)
valueds-cases xs ys = lists_same-cases valued_impl.ghosts.eq valued_laws.exact-law xs ys
