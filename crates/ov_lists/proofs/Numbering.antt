-- Blocks in an order: one that changes, and one more.
use Rattle.std.proofs.Common.{◌≡◌, ℕ, zero, suc, ◌+◌, ◌<◌, ◌≤◌, List, [], ◌∷◌, ◌++◌, length, get_or, set, insert, refl, sym, ap, subst, ◌∙◌, arith}
use Rattle.std.specs.List.{AllByRecursion}
use Rattle.std.proofs.lemmas.List.{get_or-map, get_or-set_same, get_or-set_other, length-set, length-append, length-map, get_or_append_left, get_or_default}
use Rattle.std.proofs.lemmas.List.Edits.{length-insert}
use Rattle.ov_base.proofs.Lists.{all_weaker, all_at}
use Rattle.ov_lists.specs.Parts.{in_order, IsDistinct, IsFiled, part_at}

-- ---- what holds of each

pub all_set : {A : Type 0} (P : A → Type 0) (xs : List A) (i : ℕ) (x : A) → P x → AllByRecursion P xs → AllByRecursion P (set xs i x)
all_set P [] i x here h = tt
all_set P (y ∷ ys) zero x here h = (here, h.1)
all_set P (y ∷ ys) (suc i) x here h = (h.0, all_set P ys i x here h.1)

pub all_insert : {A : Type 0} (P : A → Type 0) (xs : List A) (i : ℕ) (x : A) → P x → AllByRecursion P xs → AllByRecursion P (insert xs i x)
all_insert P [] zero x here h = (here, tt)
all_insert P [] (suc i) x here h = (here, tt)
all_insert P (y ∷ ys) zero x here h = (here, h)
all_insert P (y ∷ ys) (suc i) x here h = (h.0, all_insert P ys i x here h.1)

-- ---- reading

-- the block at a place of the order is the one of the number there
pub block_at : (blocks : List (List ℕ)) (order : List ℕ) (i number : ℕ) → i < length order → number ≡ get_or order i number → part_at (in_order blocks order) i ≡ get_or blocks number []
block_at blocks order i number lt is = get_or-map (λ n. get_or blocks n []) order i number [] lt ∙ ap (λ n. get_or blocks n []) (sym is)

pub count_in_order : (blocks : List (List ℕ)) (order : List ℕ) → length (in_order blocks order) ≡ length order
count_in_order blocks order = length-map order (λ n. get_or blocks n [])

-- what was read of a block by its number in the order is that part
pub read_block : (blocks : List (List ℕ)) (order : List ℕ) (parts : List (List ℕ)) (i number : ℕ) (part : List ℕ) → IsFiled blocks order → in_order blocks order ≡ parts
    → i < length parts → number ≡ get_or order i number → part ≡ get_or blocks number part → (i < length order) × (part ≡ part_at parts i)
read_block blocks order parts i number part h sees lt is reads =
    let within : i < length order = omega (arith, lt, ap length sees, count_in_order blocks order) in
    let known : number < length blocks = subst (λ (n : ℕ). n < length blocks) (sym is) (all_at (λ n. n < length blocks) order i number within h.known) in
    (within, reads ∙ get_or_default blocks number part [] known ∙ sym (block_at blocks order i number within is) ∙ ap (λ (t : List (List ℕ)). part_at t i) sees)

-- a part has 1 to 32 places
pub part_room : (blocks : List (List ℕ)) (order : List ℕ) (parts : List (List ℕ)) (i : ℕ) → IsFiled blocks order → in_order blocks order ≡ parts → i < length parts
    → (0 < length (part_at parts i)) × (length (part_at parts i) ≤ 32)
part_room blocks order parts i h sees lt =
    all_at (λ part. (0 < length part) × (length part ≤ 32)) parts i [] lt (subst (λ (t : List (List ℕ)). AllByRecursion (λ part. (0 < length part) × (length part ≤ 32)) t) sees h.some)

-- ---- a block that changes

set_apart : (blocks : List (List ℕ)) (numbers : List ℕ) (number : ℕ) (part : List ℕ) → AllByRecursion (λ other. number ≡ other → ⊥) numbers
    → in_order (set blocks number part) numbers ≡ in_order blocks numbers
set_apart blocks [] number part h = refl
set_apart blocks (other ∷ others) number part h =
    ap (λ (t : List ℕ). t ∷ in_order (set blocks number part) others) (get_or-set_other blocks number other part [] (λ e. h.0 (sym e)))
    ∙ ap (λ (t : List (List ℕ)). get_or blocks other [] ∷ t) (set_apart blocks others number part h.1)

-- a block that changes changes at its place in the order alone
pub set_in_order : (blocks : List (List ℕ)) (order : List ℕ) (i number : ℕ) (part : List ℕ) → IsDistinct order → AllByRecursion (λ n. n < length blocks) order
    → i < length order → number ≡ get_or order i number → in_order (set blocks number part) order ≡ set (in_order blocks order) i part
set_in_order blocks [] i number part once known lt is = absurd (omega arith)
set_in_order blocks (first ∷ others) zero number part once known lt is =
    subst (λ (n : ℕ). in_order (set blocks n part) (first ∷ others) ≡ part ∷ in_order blocks others) (sym is)
    (ap (λ (t : List ℕ). t ∷ in_order (set blocks first part) others) (get_or-set_same blocks first part [] known.0)
    ∙ ap (λ (t : List (List ℕ)). part ∷ t) (set_apart blocks others first part once.0))
set_in_order blocks (first ∷ others) (suc i) number part once known lt is =
    let apart : first ≡ number → ⊥ = λ e. all_at (λ other. first ≡ other → ⊥) others i number (omega arith) once.0 (e ∙ is) in
    ap (λ (t : List ℕ). t ∷ in_order (set blocks number part) others) (get_or-set_other blocks number first part [] apart)
    ∙ ap (λ (t : List (List ℕ)). get_or blocks first [] ∷ t) (set_in_order blocks others i number part once.1 known.1 (omega arith) is)

pub filed_set : (blocks : List (List ℕ)) (order : List ℕ) (i number : ℕ) (part : List ℕ) → IsFiled blocks order → i < length order → number ≡ get_or order i number
    → 0 < length part → length part ≤ 32 → IsFiled (set blocks number part) order
filed_set blocks order i number part h lt is some short = record {
  known = rw (length-set blocks number part) h.known;
  once = h.once;
  same = h.same ∙ sym (length-set blocks number part);
  some = rw (set_in_order blocks order i number part h.once h.known lt is) (all_set (λ part. (0 < length part) × (length part ≤ 32)) (in_order blocks order) i part (some, short) h.some);
}

-- ---- one more block

more_in_order : (blocks : List (List ℕ)) (numbers : List ℕ) (part : List ℕ) → AllByRecursion (λ n. n < length blocks) numbers
    → in_order (blocks ++ part ∷ []) numbers ≡ in_order blocks numbers
more_in_order blocks [] part known = refl
more_in_order blocks (n ∷ ns) part known =
    ap (λ (t : List ℕ). t ∷ in_order (blocks ++ part ∷ []) ns) (get_or_append_left blocks (part ∷ []) [] n known.0)
    ∙ ap (λ (t : List (List ℕ)). get_or blocks n [] ∷ t) (more_in_order blocks ns part known.1)

last_block : (blocks : List (List ℕ)) (part : List ℕ) → get_or (blocks ++ part ∷ []) (length blocks) [] ≡ part
last_block [] part = refl
last_block (b ∷ bs) part = last_block bs part

-- one more block stands at its place in the order
pub add_in_order : (blocks : List (List ℕ)) (order : List ℕ) (i : ℕ) (part : List ℕ) → AllByRecursion (λ n. n < length blocks) order → i ≤ length order
    → in_order (blocks ++ part ∷ []) (insert order i (length blocks)) ≡ insert (in_order blocks order) i part
add_in_order blocks [] zero part known le = ap (λ (t : List ℕ). t ∷ []) (last_block blocks part)
add_in_order blocks [] (suc i) part known le = absurd (omega arith)
add_in_order blocks (n ∷ ns) zero part known le =
    ap (λ (t : List ℕ). t ∷ in_order (blocks ++ part ∷ []) (n ∷ ns)) (last_block blocks part)
    ∙ ap (λ (t : List (List ℕ)). part ∷ t) (more_in_order blocks (n ∷ ns) part known)
add_in_order blocks (n ∷ ns) (suc i) part known le =
    ap (λ (t : List ℕ). t ∷ in_order (blocks ++ part ∷ []) (insert ns i (length blocks))) (get_or_append_left blocks (part ∷ []) [] n known.0)
    ∙ ap (λ (t : List (List ℕ)). get_or blocks n [] ∷ t) (add_in_order blocks ns i part known.1 (omega arith))

distinct_insert : (order : List ℕ) (i new : ℕ) → IsDistinct order → AllByRecursion (λ n. n < new) order → IsDistinct (insert order i new)
distinct_insert [] zero new once known = (tt, tt)
distinct_insert [] (suc i) new once known = (tt, tt)
distinct_insert (n ∷ ns) zero new once known = (all_weaker (λ m. m < new) (λ m. new ≡ m → ⊥) (λ m less e. omega (arith, less, e)) (n ∷ ns) known, once)
distinct_insert (n ∷ ns) (suc i) new once known =
    (all_insert (λ m. n ≡ m → ⊥) ns i new (λ e. omega (arith, known.0, e)) once.0, distinct_insert ns i new once.1 known.1)

pub filed_add : (blocks : List (List ℕ)) (order : List ℕ) (i : ℕ) (part : List ℕ) → IsFiled blocks order → i ≤ length order
    → 0 < length part → length part ≤ 32 → IsFiled (blocks ++ part ∷ []) (insert order i (length blocks))
filed_add blocks order i part h le some short =
    let long : length (blocks ++ part ∷ []) ≡ length blocks + 1 = length-append blocks (part ∷ []) in
    record {
      known = rw long (all_insert (λ n. n < length blocks + 1) order i (length blocks) (omega arith) (all_weaker (λ n. n < length blocks) (λ n. n < length blocks + 1) (λ n less. omega (arith, less)) order h.known));
      once = distinct_insert order i (length blocks) h.once h.known;
      same = omega (arith, length-insert order i (length blocks) le, long, h.same);
      some = rw (add_in_order blocks order i part h.known le) (all_insert (λ part. (0 < length part) × (length part ≤ 32)) (in_order blocks order) i part (some, short) h.some);
    }
