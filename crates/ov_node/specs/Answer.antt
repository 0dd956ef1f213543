-- The answer that a node keeps.
use Rattle.std.specs.Prelude.{◌≡◌, Option, Some, None, List}
use Rattle.std.specs.List.{filter}
use Rattle.ov_functor.specs.Unions.{is_inside}
use Rattle.ov_functor.specs.declared.item.Item.{Item}
use Rattle.ov_node.specs.declared.node.Answer.{Answer}

-- the answer that is kept has all that is held in its window
abbrev pub IsLast : List Item → Option Answer → Type 0
IsLast held None = Unit {0}
IsLast held (Some last) = last.items ≡ filter (is_inside last.from last.below) held
