-- Reading lists of groups that code keeps, and the parts of a beginning.
use Rattle.std.proofs.Common.{◌≡◌, ℕ, ◌+◌, ◌<◌, true, List, [], ◌∷◌, ◌++◌, length, get_or, drop, Option, Some, Bor, refl}
use Rattle.std.specs.List.{list_all}
use Rattle.std.proofs.lemmas.List.{drop_more}
use Rattle.ov_base.specs.Groups.{groups_in, words_in}
use Rattle.ov_base.specs.Split.{all_of, with_front}
use Rattle.ov_base.proofs.Traverse.{all_of_takes, front_then}
use Rattle.ov_functor.specs.Transaction.{is_positive}
use Rattle.ov_functor.specs.Words.{IsPart, part_of, part_words, parts_in}
use Rattle.ov_functor.specs.declared.part.Part.{Part}
use Rattle.ov_functor.proofs.PartWords.{part_takes}
use Rattle.ov_functor.proofs.PartWordsAgain.{parts_positive}

-- a group of words that code keeps
abbrev pub Group : Type 0
Group = Bor (List (Bor (List ℕ)))

-- what a list of groups has past its end
abbrev pub no_group : Group
no_group = record { ref_ptr = (0, 0); now = [] }

-- the next group was read
pub groups_next : {B : Type 0} (f : List (List ℕ) → Option B) (groups : List Group) (i : ℕ) (d : Group) (y : B) (front : List B)
    → i < length groups → f (words_in ((get_or groups i d).now)) ≡ Some y
    → with_front front (all_of f (groups_in (drop i groups))) ≡ with_front (front ++ y ∷ []) (all_of f (groups_in (drop (i + 1) groups)))
groups_next f groups i d y front lt e = rw (drop_more groups i d lt, e) (front_then front y (all_of f (groups_in (drop (i + 1) groups))))

-- the moves of parts that are read are of at least 1
pub read_positive : (groups : List (List (List ℕ))) (parts : List Part) → parts_in groups ≡ Some parts → list_all is_positive parts ≡ true
read_positive groups [] e = refl
read_positive groups (part ∷ parts) e = parts_positive (part ∷ parts) (all_of_takes part_of IsPart part_words part_takes groups (part ∷ parts) e).0
