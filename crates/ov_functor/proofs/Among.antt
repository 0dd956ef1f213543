-- What is among one of two lists is among both joined, and the reverse.
use Rattle.std.proofs.Common.{List, [], ◌∷◌, ◌++◌, inl, inr, ◌⊎◌}
use Rattle.ov_functor.specs.Windows.{Among}

-- what is among the front is among both
pub among_front : {X : Type 0} (x : X) (front back : List X) → Among x front → Among x (front ++ back)
among_front x [] back among = absurd among
among_front x (first ∷ front) back (inl same) = inl same
among_front x (first ∷ front) back (inr later) = inr (among_front x front back later)

-- what is among the back is among both
pub among_back : {X : Type 0} (x : X) (front back : List X) → Among x back → Among x (front ++ back)
among_back x [] back among = among
among_back x (first ∷ front) back among = inr (among_back x front back among)

-- what is among both is among one of them
pub among_either : {X : Type 0} (x : X) (front back : List X) → Among x (front ++ back) → Among x front ⊎ Among x back
among_either x [] back among = inr among
among_either x (first ∷ front) back (inl same) = inl (inl same)
among_either {X} x (first ∷ front) back (inr later) = by (among_either x front back later)
  where
    by : Among x front ⊎ Among x back → Among x (first ∷ front) ⊎ Among x back
    by (inl here) = inl (inr here)
    by (inr there) = inr there
