-- What nodes have nothing left to store of stays so: what is stored stays stored, and who has stopped stays stopped. Lemmas that the pass cites for its law.
use Rattle.std.specs.Prelude.{◌≡◌, ℕ, ◌+◌, List, [], ◌∷◌}
use Rattle.ov_topology.specs.declared.actor.Actor.TheVariants.{Node}
use Rattle.ov_event.specs.Letters.{letters_of}
use Rattle.ov_event.specs.declared.entry.Entry.{Entry}
use Rattle.ov_event.specs.declared.letter.Letter.{Letter}
use Rattle.ov_event.specs.declared.letter.Letter.TheVariants as letters
use Rattle.ov_history.specs.Past.{History}
use Rattle.ov_history.specs.May.{Setting}
use Rattle.ov_follow.specs.Lines.{Line}
use Rattle.ov_follow.specs.Passes.{over, stored_from, take, write_lines}
use Rattle.ov_step.specs.Gathered.{Stays, stored_by}
use Rattle.ov_step.specs.Quiet.{none_both, none_stay, some_stays, undone_stays}
use Rattle.ov_step.specs.Storing.{node_stores}

-- letters that have no line have none, where each of them still has none
over_stay : (f g : ℕ → Letter → List Line) (n : ℕ) (letters : List Letter) → ((k : ℕ) (letter : Letter) → f k letter ≡ [] → g k letter ≡ [])
    → over f n letters ≡ [] → over g n letters ≡ []
over_stay f g n [] still none = none
over_stay f g n (letter ∷ letters) still none =
    let both = none_both (f n letter) (over f (n + 1) letters) none in
    rw (still n letter both.0) (over_stay f g (n + 1) letters still both.1)

-- a node that does not take a letter does not take it after one entry more
node_stays : (number letter p : ℕ) (h : History) (more : Entry) (c : ℕ) → node_stores number letter p h c ≡ [] → node_stores number letter p (more ∷ h) c ≡ []
node_stays number letter p h more c =
    undone_stays h more (stored_from (Node c p) (record { entry = number; letter = letter }) h) (stored_from (Node c p) (record { entry = number; letter = letter }) (more ∷ h))
    (take (Node c p) number letter) (some_stays _ h more)

-- a letter that no node takes is taken by none after one entry more
letter_stays : (t : Setting) (h : History) (more : Entry) (number place : ℕ) (letter : Letter) → write_lines t h number place letter ≡ []
    → write_lines t (more ∷ h) number place letter ≡ []
letter_stays t h more number place (letters.Write version p items) =
    none_stay (node_stores number place p h) (node_stores number place p (more ∷ h)) t.topology.centres (node_stays number place p h more)
letter_stays t h more number place other = λ none. none

-- an entry of which nothing is left to store is so after one entry more
pub stores_stay : Stays stored_by
stores_stay t h more e number =
    over_stay (write_lines t h number) (write_lines t (more ∷ h) number) 1 (letters_of t.topology e) (letter_stays t h more number)
