-- How many moves a transaction has.
use Rattle.std.proofs.Common.{◌≡◌, ◌≤◌, List, [], ◌∷◌, length, None, arith}
use Rattle.std.proofs.lemmas.Bool.Decides.{nat_tests}
use Rattle.ov_functor.specs.declared.part.Part.{Part}
use Rattle.ov_functor.specs.declared.part.Part.TheVariants as parts
use Rattle.ov_functor.specs.Execution.{moves_of}
use Rattle.ov_functor.specs.Transaction.{transaction_error}

-- there are no more moves than parts
pub moves_below : (transaction : List Part) → length (moves_of transaction) ≤ length transaction
moves_below [] = omega arith
moves_below (parts.Put key amount ∷ others) = omega (arith, moves_below others)
moves_below (parts.Del key ∷ others) = omega (arith, moves_below others)
moves_below (parts.Add key amount ∷ others) = omega (arith, moves_below others)
moves_below (parts.Least key amount ∷ others) = omega (arith, moves_below others)
moves_below (parts.Greatest key amount ∷ others) = omega (arith, moves_below others)
moves_below (parts.Move from to amount ∷ others) = omega (arith, moves_below others)
moves_below (parts.Get key ∷ others) = omega (arith, moves_below others)

-- a transaction has at most 8 parts
pub parts_few : (transaction : List Part) → transaction_error transaction ≡ None → length transaction ≤ 8
parts_few transaction form = grind (arith, nat_tests)

-- so a transaction has at most 8 moves
pub moves_few : (transaction : List Part) → transaction_error transaction ≡ None → length (moves_of transaction) ≤ 8
moves_few transaction form = omega (arith, moves_below transaction, parts_few transaction form)
