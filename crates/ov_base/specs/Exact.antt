-- A test of lists by a test of their elements.
use Rattle.std.specs.Prelude.{Bool, List}
use Rattle.std.specs.Cmp.Lexicographic.{pointwise}

-- whether two lists are the same by a test of their elements
unfoldable pub lists_same : {A : Type 0} → (A → A → Bool) → List A → List A → Bool
lists_same E xs ys = pointwise E xs ys
