-- Lists of bytes are compared by words: the numbers that eight bytes each spell, the first the most significant.
use Rattle.std.proofs.Common.{◌≡◌, ◌≢◌, ℕ, zero, suc, ◌+◌, ◌*◌, ◌≤◌, ◌<◌, List, [], ◌∷◌, length, take, drop, w64, get_or, nat_cmp, ◌&&◌, nat_eq, is_eq, Ordering, Less, Equal, Greater, refl, sym, ap, ap₂, subst, ◌∙◌, arith, length-take-le, length-drop, get_or-drop, drop-drop, drop_of_length-le}
use Rattle.std.specs.Int.{from_be_bytes}
use Rattle.std.specs.Ordering.{MatchOrdering, ordering_then}
use Rattle.std.specs.Cmp.{unsigned_ties, nat_cmp_is}
use Rattle.std.specs.Cmp.Lexicographic.{pointwise, slice_cmp, texts_ties}
use Rattle.std.proofs.lemmas.Cmp.{ranked, by_ranked, nat_cmp_total, tied_itself}

-- each of the list is a byte
abbrev pub Bytes : List ℕ → Type 0
Bytes xs = (k : ℕ) → get_or xs k 0 < 256

-- the word from a place on
abbrev pub word : ℕ → List ℕ → ℕ
word at xs = from_be_bytes w64 (take 8 (drop at xs))

-- how the words of two lists from a place on are ordered
abbrev pub word_order : List ℕ → List ℕ → ℕ → Ordering
word_order xs ys at = nat_cmp (word at xs) (word at ys)

-- ---- one order behind another

then_assoc : (o p q : Ordering) → ordering_then (ordering_then o p) q ≡ ordering_then o (ordering_then p q)
then_assoc Less p q = refl
then_assoc Equal p q = refl
then_assoc Greater p q = refl

then_equal : (o : Ordering) → ordering_then o Equal ≡ o
then_equal Less = refl
then_equal Equal = refl
then_equal Greater = refl

is_eq_then : (o p : Ordering) → is_eq (ordering_then o p) ≡ (is_eq o && is_eq p)
is_eq_then Less p = refl
is_eq_then Equal p = refl
is_eq_then Greater p = refl

-- the same, along four
is_eq_four : (o p q r : Ordering) → is_eq (ordering_then o (ordering_then p (ordering_then q r))) ≡ (((is_eq o && is_eq p) && is_eq q) && is_eq r)
is_eq_four Less p q r = refl
is_eq_four Greater p q r = refl
is_eq_four Equal Less q r = refl
is_eq_four Equal Greater q r = refl
is_eq_four Equal Equal q r = is_eq_then q r

-- ---- bytes as numbers

-- the number that bytes spell behind what was spelt before
abbrev spelt : ℕ → List ℕ → ℕ
spelt n [] = n
spelt n (b ∷ bs) = spelt (n * 256 + b) bs

digit_match : (n m x y : ℕ) (o p : Ordering) → MatchOrdering o (n < m) (n ≡ m) (m < n) → MatchOrdering p (x < y) (x ≡ y) (y < x) → x < 256 → y < 256
    → MatchOrdering (ordering_then o p) (n * 256 + x < m * 256 + y) (n * 256 + x ≡ m * 256 + y) (m * 256 + y < n * 256 + x)
digit_match n m x y Less p h k small low = let before : n < m = h in omega arith
digit_match n m x y Equal Less h k small low = let same : n ≡ m = h in let before : x < y = k in omega arith
digit_match n m x y Equal Equal h k small low = let same : n ≡ m = h in let equal : x ≡ y = k in omega arith
digit_match n m x y Equal Greater h k small low = let same : n ≡ m = h in let behind : y < x = k in omega arith
digit_match n m x y Greater p h k small low = let behind : m < n = h in omega arith

-- one more byte each decides where the numbers before are the same
digit_order : (n m x y : ℕ) → x < 256 → y < 256 → ordering_then (nat_cmp n m) (nat_cmp x y) ≡ nat_cmp (n * 256 + x) (m * 256 + y)
digit_order n m x y small low =
    nat_cmp_is (n * 256 + x) (m * 256 + y) (ordering_then (nat_cmp n m) (nat_cmp x y)) (digit_match n m x y (nat_cmp n m) (nat_cmp x y) (ranked n m (nat_cmp n m) refl) (ranked x y (nat_cmp x y) refl) small low)

-- the first k bytes of two lists decide as the numbers do that they spell
spelt_front : (k n m : ℕ) (xs ys : List ℕ) → k ≤ length xs → k ≤ length ys → Bytes xs → Bytes ys
    → ordering_then (nat_cmp n m) (slice_cmp nat_cmp xs ys) ≡ ordering_then (nat_cmp (spelt n (take k xs)) (spelt m (take k ys))) (slice_cmp nat_cmp (drop k xs) (drop k ys))
spelt_front zero n m xs ys p q bx by = refl
spelt_front (suc k) n m [] ys p q bx by = absurd (omega arith)
spelt_front (suc k) n m (x ∷ xs) [] p q bx by = absurd (omega arith)
spelt_front (suc k) n m (x ∷ xs) (y ∷ ys) p q bx by =
    sym (then_assoc (nat_cmp n m) (nat_cmp x y) (slice_cmp nat_cmp xs ys))
    ∙ ap (λ o. ordering_then o (slice_cmp nat_cmp xs ys)) (digit_order n m x y (bx 0) (by 0))
    ∙ spelt_front k (n * 256 + x) (m * 256 + y) xs ys (omega arith) (omega arith) (λ i. bx (suc i)) (λ i. by (suc i))

eight_spelt : (bs : List ℕ) → length bs ≡ 8 → spelt 0 bs ≡ from_be_bytes w64 bs
eight_spelt [] l = absurd (omega arith)
eight_spelt (a ∷ []) l = absurd (omega arith)
eight_spelt (a ∷ b ∷ []) l = absurd (omega arith)
eight_spelt (a ∷ b ∷ c ∷ []) l = absurd (omega arith)
eight_spelt (a ∷ b ∷ c ∷ d ∷ []) l = absurd (omega arith)
eight_spelt (a ∷ b ∷ c ∷ d ∷ e ∷ []) l = absurd (omega arith)
eight_spelt (a ∷ b ∷ c ∷ d ∷ e ∷ f ∷ []) l = absurd (omega arith)
eight_spelt (a ∷ b ∷ c ∷ d ∷ e ∷ f ∷ g ∷ []) l = absurd (omega arith)
eight_spelt (a ∷ b ∷ c ∷ d ∷ e ∷ f ∷ g ∷ h ∷ []) l = omega arith
eight_spelt (a ∷ b ∷ c ∷ d ∷ e ∷ f ∷ g ∷ h ∷ x ∷ bs) l = absurd (omega arith)

-- ---- lists of bytes as words

-- the first words of two lists decide before the rest
front_word : (xs ys : List ℕ) → 8 ≤ length xs → 8 ≤ length ys → Bytes xs → Bytes ys
    → slice_cmp nat_cmp xs ys ≡ ordering_then (word_order xs ys 0) (slice_cmp nat_cmp (drop 8 xs) (drop 8 ys))
front_word xs ys p q bx by =
    spelt_front 8 0 0 xs ys p q bx by
    ∙ ap (λ o. ordering_then o (slice_cmp nat_cmp (drop 8 xs) (drop 8 ys))) (ap₂ nat_cmp (eight_spelt (take 8 xs) (length-take-le 8 xs p)) (eight_spelt (take 8 ys) (length-take-le 8 ys q)))

module _ (xs ys : List ℕ) (bx : Bytes xs) (by : Bytes ys) (px : length xs ≡ 32) (py : length ys ≡ 32) where
  next_word : (at : ℕ) → at + 8 ≤ 32
      → slice_cmp nat_cmp (drop at xs) (drop at ys) ≡ ordering_then (word_order xs ys at) (slice_cmp nat_cmp (drop (at + 8) xs) (drop (at + 8) ys))
  next_word at le =
      front_word (drop at xs) (drop at ys) (omega (arith, length-drop at xs)) (omega (arith, length-drop at ys))
      (λ k. subst (λ b. b < 256) (sym (get_or-drop at xs k 0)) (bx (at + k))) (λ k. subst (λ b. b < 256) (sym (get_or-drop at ys k 0)) (by (at + k)))
      ∙ ap (ordering_then (word_order xs ys at)) (ap₂ (slice_cmp nat_cmp) (drop-drop 8 at xs) (drop-drop 8 at ys))

  last_word : ordering_then (word_order xs ys 24) (slice_cmp nat_cmp (drop 32 xs) (drop 32 ys)) ≡ word_order xs ys 24
  last_word = ap (ordering_then (word_order xs ys 24)) (ap₂ (slice_cmp nat_cmp) (drop_of_length-le xs {i = 32} (omega arith)) (drop_of_length-le ys {i = 32} (omega arith))) ∙ then_equal (word_order xs ys 24)

  -- 32 bytes are ordered as their four words
  pub words_order : slice_cmp nat_cmp xs ys ≡ ordering_then (word_order xs ys 0) (ordering_then (word_order xs ys 8) (ordering_then (word_order xs ys 16) (word_order xs ys 24)))
  words_order =
      next_word 0 (omega arith)
      ∙ ap (ordering_then (word_order xs ys 0)) (next_word 8 (omega arith)
      ∙ ap (ordering_then (word_order xs ys 8)) (next_word 16 (omega arith)
      ∙ ap (ordering_then (word_order xs ys 16)) (next_word 24 (omega arith) ∙ last_word)))

  -- 32 bytes are the same where their four words are
  pub words_same : pointwise nat_eq xs ys ≡ (((nat_eq (word 0 xs) (word 0 ys) && nat_eq (word 8 xs) (word 8 ys)) && nat_eq (word 16 xs) (word 16 ys)) && nat_eq (word 24 xs) (word 24 ys))
  words_same =
      texts_ties xs ys ∙ ap is_eq words_order ∙ is_eq_four (word_order xs ys 0) (word_order xs ys 8) (word_order xs ys 16) (word_order xs ys 24)
      ∙ sym (λ i. ((unsigned_ties (word 0 xs) (word 0 ys) i && unsigned_ties (word 8 xs) (word 8 ys) i) && unsigned_ties (word 16 xs) (word 16 ys) i) && unsigned_ties (word 24 xs) (word 24 ys) i)

-- what a first order that is no tie answers, before any other
pub decided : (x y : ℕ) (r o : Ordering) → r ≡ nat_cmp x y → (x ≢ y) → r ≡ ordering_then (nat_cmp x y) o
decided x y r o is apart = is ∙ by_ranked (x < y) (x ≡ y) (y < x) (nat_cmp x y) (ranked x y (nat_cmp x y) refl) (λ e l. rw e refl) (λ e l. absurd (apart l)) (λ e l. rw e refl)

-- a first order that is a tie leaves the answer to the second
pub passed : (x y : ℕ) (o : Ordering) → x ≡ y → ordering_then (nat_cmp x y) o ≡ o
passed x y o same = rw (same, tied_itself nat_cmp_total y) refl
