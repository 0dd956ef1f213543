-- Parts of a list: where each begins, and what an edit of one means for the whole.
use Rattle.std.proofs.Common.{◌≡◌, ℕ, zero, suc, ◌+◌, ◌-◌, ◌*◌, ◌<◌, ◌≤◌, List, [], ◌∷◌, ◌++◌, length, get_or, set, take, drop, insert, refl, sym, ap, ◌∙◌, arith}
use Rattle.std.specs.List.{AllByRecursion, range_with_len}
use Rattle.std.proofs.lemmas.List.{length-append, append_assoc, get_or_default, get_or_append_left, get_or-append-add, take-append-drop, append-nil, length-take-le, length-drop}
use Rattle.std.proofs.lemmas.List.Edits.{insert-append_left, insert-append_right}
use Rattle.ov_lists.specs.Parts.{flat, part_at, start, place_in, IsWithin}

module _ {X : Type 0} where
  -- ---- where a part begins

  -- the part behind one begins at its end
  pub start_next : (parts : List (List X)) (i : ℕ) → i < length parts → start parts (suc i) ≡ start parts i + length (part_at parts i)
  start_next [] i lt = absurd (omega arith)
  start_next (part ∷ parts) zero lt = omega arith
  start_next (part ∷ parts) (suc i) lt = omega (arith, start_next parts i (omega arith))

  -- the end of a part is the front of the next
  pub front_of_next : (parts : List (List X)) (i next : ℕ) → i < length parts → next ≡ i + 1 → start parts next ≡ place_in parts i (length (part_at parts i))
  front_of_next parts i next lt is = let more : next ≡ suc i = omega (arith, is) in ap (start parts) more ∙ start_next parts i lt

  -- behind the last part is the end
  pub start_end : (parts : List (List X)) → start parts (length parts) ≡ length (flat parts)
  start_end [] = refl
  start_end (part ∷ parts) = omega (arith, start_end parts, length-append part (flat parts))

  -- a part ends before the end
  pub ends_within : (parts : List (List X)) (i : ℕ) → i < length parts → start parts i + length (part_at parts i) ≤ length (flat parts)
  ends_within [] i lt = absurd (omega arith)
  ends_within (part ∷ parts) zero lt = omega (arith, length-append part (flat parts))
  ends_within (part ∷ parts) (suc i) lt = omega (arith, ends_within parts i (omega arith), length-append part (flat parts))

  -- a position within is no further than the end
  pub position_within : (parts : List (List X)) (block offset : ℕ) → IsWithin parts block offset → place_in parts block offset ≤ length (flat parts)
  position_within [] block offset h = omega (arith, h.within, ap (start {X = X} []) (h.none refl))
  position_within (part ∷ parts) block offset h = omega (arith, ends_within (part ∷ parts) block (h.there (omega arith)), h.within)

  -- what stands at an offset of a part stands there in the whole
  flat_at : (parts : List (List X)) (i offset : ℕ) (d : X) → i < length parts → offset < length (part_at parts i)
      → get_or (flat parts) (start parts i + offset) d ≡ get_or (part_at parts i) offset d
  flat_at [] i offset d lt within = absurd (omega arith)
  flat_at (part ∷ parts) zero offset d lt within =
      let none : 0 + offset ≡ offset = omega arith in
      ap (λ n. get_or (part ++ flat parts) n d) none ∙ get_or_append_left part (flat parts) d offset within
  flat_at (part ∷ parts) (suc i) offset d lt within =
      let along : (length part + start parts i) + offset ≡ length part + (start parts i + offset) = omega arith in
      ap (λ n. get_or (part ++ flat parts) n d) along ∙ get_or-append-add part (flat parts) (start parts i + offset) d ∙ flat_at parts i offset d (omega arith) within

  -- what was read of a part stands at its place in the whole
  pub read_flat : (parts : List (List X)) (i offset : ℕ) (part : List X) (d : X) → i < length parts → part ≡ part_at parts i → offset < length part
      → get_or part offset d ≡ get_or (flat parts) (place_in parts i offset) (get_or part offset d)
  read_flat parts i offset part d lt same within =
      let e = get_or part offset d in
      get_or_default part offset d e within ∙ ap (λ (t : List X). get_or t offset e) same ∙ sym (flat_at parts i offset e lt (omega (arith, within, ap length same)))

  -- ---- edits

  insert_behind : (xs ys : List X) (i : ℕ) (x : X) → insert (xs ++ ys) (length xs + i) x ≡ xs ++ insert ys i x
  insert_behind xs ys i x =
      let rest : (length xs + i) - length xs ≡ i = omega arith in
      insert-append_right xs ys (length xs) (length xs + i) x refl (omega arith) ∙ ap (λ n. xs ++ insert ys n x) rest

  -- one more in a part is one more in the whole
  pub flat_put : (parts : List (List X)) (i offset : ℕ) (x : X) → i < length parts → offset ≤ length (part_at parts i)
      → flat (set parts i (insert (part_at parts i) offset x)) ≡ insert (flat parts) (place_in parts i offset) x
  flat_put [] i offset x lt within = absurd (omega arith)
  flat_put (part ∷ parts) zero offset x lt within =
      let none : offset ≡ 0 + offset = omega arith in
      sym (insert-append_left part (flat parts) offset x within) ∙ ap (λ n. insert (part ++ flat parts) n x) none
  flat_put (part ∷ parts) (suc i) offset x lt within =
      let along : length part + (start parts i + offset) ≡ (length part + start parts i) + offset = omega arith in
      ap (λ (t : List X). part ++ t) (flat_put parts i offset x (omega arith) within)
      ∙ sym (insert_behind part (flat parts) (start parts i + offset) x) ∙ ap (λ n. insert (part ++ flat parts) n x) along

  -- a part of one is one more in the whole
  pub flat_add : (parts : List (List X)) (i : ℕ) (x : X) → i ≤ length parts → flat (insert parts i (x ∷ [])) ≡ insert (flat parts) (start parts i) x
  flat_add [] zero x le = refl
  flat_add [] (suc i) x le = absurd (omega arith)
  flat_add (part ∷ parts) zero x le = refl
  flat_add (part ∷ parts) (suc i) x le =
      ap (λ (t : List X). part ++ t) (flat_add parts i x (omega arith)) ∙ sym (insert_behind part (flat parts) (start parts i) x)

  -- a part behind the last is more at the end
  pub flat_end : (parts : List (List X)) (part : List X) → flat (insert parts (length parts) part) ≡ flat parts ++ part
  flat_end [] part = append-nil part
  flat_end (first ∷ parts) part = ap (λ (t : List X). first ++ t) (flat_end parts part) ∙ sym (append_assoc first (flat parts) part)

  -- ---- a part in two

  -- the parts, of which one is cut in two
  abbrev pub in_two : List (List X) → ℕ → ℕ → List (List X)
  in_two parts i n = insert (set parts i (take n (part_at parts i))) (suc i) (drop n (part_at parts i))

  pub flat_in_two : (parts : List (List X)) (i n : ℕ) → i < length parts → flat (in_two parts i n) ≡ flat parts
  flat_in_two [] i n lt = absurd (omega arith)
  flat_in_two (part ∷ parts) zero n lt = sym (append_assoc (take n part) (drop n part) (flat parts)) ∙ ap (λ (t : List X). t ++ flat parts) (take-append-drop n part)
  flat_in_two (part ∷ parts) (suc i) n lt = ap (λ (t : List X). part ++ t) (flat_in_two parts i n (omega arith))

  pub start_in_two : (parts : List (List X)) (i n : ℕ) → i < length parts → start (in_two parts i n) i ≡ start parts i
  start_in_two [] i n lt = absurd (omega arith)
  start_in_two (part ∷ parts) zero n lt = refl
  start_in_two (part ∷ parts) (suc i) n lt = ap (λ k. length part + k) (start_in_two parts i n (omega arith))

  pub lower_in_two : (parts : List (List X)) (i n : ℕ) → i < length parts → part_at (in_two parts i n) i ≡ take n (part_at parts i)
  lower_in_two [] i n lt = absurd (omega arith)
  lower_in_two (part ∷ parts) zero n lt = refl
  lower_in_two (part ∷ parts) (suc i) n lt = lower_in_two parts i n (omega arith)

  pub upper_in_two : (parts : List (List X)) (i n : ℕ) → i < length parts → part_at (in_two parts i n) (suc i) ≡ drop n (part_at parts i)
  upper_in_two [] i n lt = absurd (omega arith)
  upper_in_two (part ∷ parts) zero n lt = refl
  upper_in_two (part ∷ parts) (suc i) n lt = upper_in_two parts i n (omega arith)

  pub count_in_two : (parts : List (List X)) (i n : ℕ) → i < length parts → length (in_two parts i n) ≡ length parts + 1
  count_in_two [] i n lt = absurd (omega arith)
  count_in_two (part ∷ parts) zero n lt = omega arith
  count_in_two (part ∷ parts) (suc i) n lt = omega (arith, count_in_two parts i n (omega arith))

  -- one more in the lower or the upper half of a part that was cut in two
  module _ (parts : List (List X)) (i n offset : ℕ) (x : X) (lt : i < length parts) (whole : n ≤ length (part_at parts i)) where
    pub put_lower : (cut : List (List X)) → cut ≡ in_two parts i n → offset ≤ n → flat (set cut i (insert (part_at cut i) offset x)) ≡ insert (flat parts) (place_in parts i offset) x
    put_lower cut is le =
        let there : i < length cut = omega (arith, ap length is, count_in_two parts i n lt) in
        let lower = ap (λ (t : List (List X)). part_at t i) is ∙ lower_in_two parts i n lt in
        let long = ap length lower ∙ length-take-le n (part_at parts i) whole in
        let begins = ap (λ (t : List (List X)). start t i) is ∙ start_in_two parts i n lt in
        flat_put cut i offset x there (omega (arith, le, long))
        ∙ ap (λ k. insert (flat cut) (k + offset) x) begins
        ∙ ap (λ (t : List X). insert t (place_in parts i offset) x) (ap flat is ∙ flat_in_two parts i n lt)

    pub put_upper : (cut : List (List X)) (next rest : ℕ) → cut ≡ in_two parts i n → next ≡ i + 1 → offset ≡ n + rest → offset ≤ length (part_at parts i)
        → flat (set cut next (insert (part_at cut next) rest x)) ≡ insert (flat parts) (place_in parts i offset) x
    put_upper cut next rest is follows splits le =
        let more : next ≡ suc i = omega (arith, follows) in
        let there : i < length cut = omega (arith, ap length is, count_in_two parts i n lt) in
        let too : next < length cut = omega (arith, follows, lt, ap length is, count_in_two parts i n lt) in
        let lower = ap length (ap (λ (t : List (List X)). part_at t i) is ∙ lower_in_two parts i n lt) ∙ length-take-le n (part_at parts i) whole in
        let upper = ap length (ap (part_at cut) more ∙ ap (λ (t : List (List X)). part_at t (suc i)) is ∙ upper_in_two parts i n lt) ∙ length-drop n (part_at parts i) in
        let begins = ap (λ (t : List (List X)). start t i) is ∙ start_in_two parts i n lt in
        let at : place_in cut next rest ≡ place_in parts i offset = omega (arith, front_of_next cut i next there follows, lower, begins, splits) in
        flat_put cut next rest x too (omega (arith, upper, splits, le))
        ∙ ap (λ k. insert (flat cut) k x) at
        ∙ ap (λ (t : List X). insert t (place_in parts i offset) x) (ap flat is ∙ flat_in_two parts i n lt)

-- numbers from one on, in two runs
pub range_in_two : (a n m : ℕ) → range_with_len a (n + m) ≡ range_with_len a n ++ range_with_len (a + n) m
range_in_two a zero m =
    let none : 0 + m ≡ m = omega arith in
    let same : a + 0 ≡ a = omega arith in
    ap (range_with_len a) none ∙ ap (λ k. range_with_len k m) (sym same)
range_in_two a (suc n) m =
    let more : suc n + m ≡ suc (n + m) = omega arith in
    let same : (a + 1) + n ≡ a + suc n = omega arith in
    ap (range_with_len a) more ∙ ap (λ (t : List ℕ). a ∷ t) (range_in_two (a + 1) n m ∙ ap (λ k. range_with_len (a + 1) n ++ range_with_len k m) same)

-- one number more
pub range_next : (start place : ℕ) → start ≤ place → range_with_len start ((place + 1) - start) ≡ range_with_len start (place - start) ++ place ∷ []
range_next start place le =
    let next : (place + 1) - start ≡ (place - start) + 1 = omega (arith, le) in
    let last : start + (place - start) ≡ place = omega (arith, le) in
    ap (range_with_len start) next ∙ range_in_two start (place - start) 1 ∙ ap (λ (k : ℕ). range_with_len start (place - start) ++ k ∷ []) last

-- parts of at most so many places have at most so many times as many
pub most_flat : (parts : List (List ℕ)) → AllByRecursion (λ part. (0 < length part) × (length part ≤ 32)) parts → length (flat parts) ≤ 32 * length parts
most_flat [] h = omega arith
most_flat (part ∷ parts) h = omega (arith, most_flat parts h.1, h.0.1, length-append part (flat parts))
