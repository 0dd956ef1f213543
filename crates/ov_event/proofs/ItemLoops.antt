-- The loops that read items and their moves.
use Rattle.std.proofs.Common.{◌≡◌, ℕ, ◌+◌, ◌*◌, ◌%◌, ◌<◌, ◌≤◌, List, [], ◌∷◌, ◌++◌, length, get_or, drop, Option, Some, None, Bor, refl, sym, ap, ◌∙◌, arith, append_assoc}
use Rattle.std.specs.List.{flat_map}
use Rattle.std.proofs.lemmas.List.{append-nil, drop_more, length-map, nil_from_length, length-drop}
use Rattle.ov_base.specs.Groups.{words_in, groups_in}
use Rattle.ov_base.specs.Split.{all_of, with_front}
use Rattle.ov_base.specs.Word.{◌>>=◌}
use Rattle.ov_functor.specs.declared.part.Move.{Move}
use Rattle.ov_event.specs.ItemWords.{move_words, move_of, moves_of}
use Rattle.ov_event.proofs.ItemWords.{moves_takes}

-- the words of a group that code keeps
abbrev pub Words : Type 0
Words = List (Bor (List ℕ))

-- what a list of groups has past its end
abbrev pub no_group : Bor Words
no_group = record { ref_ptr = (0, 0); now = [] }

front_then : {B : Type 0} (front : List B) (one : B) (rest : Option (List B)) → with_front front (rest >>= λ others. Some (one ∷ others)) ≡ with_front (front ++ one ∷ []) rest
front_then front one None = refl
front_then front one (Some others) = ap (λ (t : List _). Some t) (sym (append_assoc front (one ∷ []) others))

-- one group more was read
pub groups_next : {B : Type 0} (f : List (List ℕ) → Option B) (groups : List (Bor Words)) (i : ℕ) (d : Bor Words) (one : B) (front : List B)
    → i < length groups → f (words_in ((get_or groups i d).now)) ≡ Some one
    → with_front front (all_of f (groups_in (drop i groups))) ≡ with_front (front ++ one ∷ []) (all_of f (groups_in (drop (i + 1) groups)))
groups_next f groups i d one front lt read = rw (drop_more groups i d lt, read) (front_then front one (all_of f (groups_in (drop (i + 1) groups))))

-- a word, and those behind it
next_word : (words : Words) (k next : ℕ) (d : Bor (List ℕ)) → next ≡ k + 1 → k < length words → drop k words ≡ get_or words k d ∷ drop next words
next_word words k next d e lt = drop_more words k d lt ∙ ap (λ (n : ℕ). get_or words k d ∷ drop n words) (sym e)

-- four words, and those behind them
pub four_apart : (words : Words) (k next : ℕ) (d : Bor (List ℕ)) → next ≡ k + 4 → k + 4 ≤ length words
    → drop k words ≡ get_or words k d ∷ get_or words (k + 1) d ∷ get_or words (k + 2) d ∷ get_or words (k + 3) d ∷ drop next words
four_apart words k next d e le =
    next_word words k (k + 1) d (omega arith) (omega arith)
    ∙ ap (λ (t : Words). get_or words k d ∷ t) (next_word words (k + 1) (k + 2) d (omega arith) (omega arith)
    ∙ ap (λ (t : Words). get_or words (k + 1) d ∷ t) (next_word words (k + 2) (k + 3) d (omega arith) (omega arith)
    ∙ ap (λ (t : Words). get_or words (k + 2) d ∷ t) (next_word words (k + 3) next d (omega arith) (omega arith))))

-- one move more was read
pub moves_next : (words : Words) (k next : ℕ) (d : Bor (List ℕ)) (one : Move) (front : List Move) → next ≡ k + 4 → k + 4 ≤ length words
    → move_of ((get_or words k d).now) ((get_or words (k + 1) d).now) ((get_or words (k + 2) d).now) ((get_or words (k + 3) d).now) ≡ Some one
    → with_front front (moves_of (words_in (drop k words))) ≡ with_front (front ++ one ∷ []) (moves_of (words_in (drop next words)))
unfolding moves_of
moves_next words k next d one front e le read = rw (four_apart words k next d e le, read) (front_then front one (moves_of (words_in (drop next words))))

-- four words are no move
pub moves_stop : (words : Words) (k : ℕ) (d : Bor (List ℕ)) (front : List Move) → k + 4 ≤ length words
    → move_of ((get_or words k d).now) ((get_or words (k + 1) d).now) ((get_or words (k + 2) d).now) ((get_or words (k + 3) d).now) ≡ None
    → with_front front (moves_of (words_in (drop k words))) ≡ None
unfolding moves_of
moves_stop words k d front le read = rw (four_apart words k (k + 4) d refl le, read) refl

-- no word is left
pub moves_end : (words : Words) (k : ℕ) (front : List Move) → length words ≤ k → with_front front (moves_of (words_in (drop k words))) ≡ Some front
unfolding moves_of
moves_end words k front le = rw (nil_from_length (drop k words) (omega (arith, length-drop k words))) (ap (λ (t : List Move). Some t) (append-nil front))

moves_length : (moves : List Move) → length (flat_map move_words moves) ≡ 4 * length moves
moves_length [] = refl
moves_length (move ∷ moves) = omega (arith, moves_length moves)

-- words whose number is no multiple of 4 are no moves
pub moves_odd : (words : Words) → (length words % 4 ≡ 0 → ⊥) → None ≡ moves_of (words_in words)
moves_odd words odd = by (moves_of (words_in words)) refl
  where
    by : (read : Option (List Move)) → moves_of (words_in words) ≡ read → None ≡ read
    by None is = refl
    by (Some moves) is =
        let count : length words ≡ 4 * length moves = sym (length-map words (λ (w : Bor (List ℕ)). w.now)) ∙ ap length (moves_takes (words_in words) moves is).1 ∙ moves_length moves in
        absurd (odd (omega (arith, count)))
