-- The marks of a harvest, of which the code keeps a vector for each partition.
use Rattle.std.proofs.Common.{◌≡◌, ◌≢◌, ◌==◌, ℕ, ◌<◌, Bool, true, false, List, [], ◌++◌, length, map, get_or, refl, sym, ap, ◌∙◌, arith, Vec, Global}
use Rattle.std.specs.Prelude.{slice_set}
use Rattle.std.specs.Vec.{with_item}
use Rattle.std.proofs.lemmas.List.{map-set, get_or-map, length-set, get_or-set_same, get_or-set_other, length-map}
use Rattle.std.proofs.lemmas.Grind.{common_steps}
use Rattle.ov_functor.specs.declared.item.Item.{Item}
use Rattle.ov_topology.specs.Shape.{Shape}
use Rattle.ov_window.specs.Harvest.{IsMarked, with_answer}
use Rattle.ov_window.specs.declared.round.Round.{Round}

-- the lists of vectors
abbrev pub lists_of : List (Vec Bool Global) → List (List Bool)
lists_of rows = map (λ row. row.items) rows

-- the marks of a partition are those of its vector
pub row_is : (rows : List (Vec Bool Global)) (part : ℕ) (row : Vec Bool Global) → part < length rows → row ≡ get_or rows part row → get_or (lists_of rows) part [] ≡ row.items
row_is rows part row less is = get_or-map (λ (one : Vec Bool Global). one.items) rows part row [] less ∙ ap (λ (one : Vec Bool Global). one.items) (sym is)

-- there is a vector for each partition
pub row_count : (topology : Shape) (rows : List (Vec Bool Global)) → IsMarked topology (lists_of rows) → length rows ≡ topology.partitions
row_count topology rows marked = omega (arith, length-map rows (λ (one : Vec Bool Global). one.items), marked.partitions)

-- the vector of a partition has a mark for each centre
pub row_length : (topology : Shape) (rows : List (Vec Bool Global)) (part : ℕ) (row : Vec Bool Global) → IsMarked topology (lists_of rows) → part < topology.partitions → row ≡ get_or rows part row → length row.items ≡ topology.centres
row_length topology rows part row marked less is =
    ap length (sym (row_is rows part row (omega (arith, row_count topology rows marked)) is)) ∙ marked.centres part less

-- the marks with one more
pub row_marked : (rows : List (Vec Bool Global)) (part centre : ℕ) (row : Vec Bool Global) → part < length rows → row ≡ get_or rows part row
    → lists_of (slice_set rows part (with_item row centre true)) ≡ slice_set (lists_of rows) part (slice_set (get_or (lists_of rows) part []) centre true)
row_marked rows part centre row less is =
    map-set (λ (one : Vec Bool Global). one.items) rows part (with_item row centre true)
    ∙ ap (λ marks. slice_set (lists_of rows) part (slice_set marks centre true)) (sym (row_is rows part row less is))

-- the harvest with one more answer
pub answer_is : (topology : Shape) (round : Round) (rows : List (Vec Bool Global)) (items more : List Item) (part centre : ℕ) (row : Vec Bool Global) → part < length rows → row ≡ get_or rows part row
    → record { topology = topology; round = round; answered = lists_of (slice_set rows part (with_item row centre true)); items = items ++ more }
    ≡ with_answer (record { topology = topology; round = round; answered = lists_of rows; items = items }) centre part more
answer_is topology round rows items more part centre row less is =
    ap (λ marks. record { topology = topology; round = round; answered = marks; items = items ++ more }) (row_marked rows part centre row less is)

-- marks with one more are marks
pub marked_more : (topology : Shape) (answered : List (List Bool)) (part centre : ℕ) → IsMarked topology answered → part < topology.partitions
    → IsMarked topology (slice_set answered part (slice_set (get_or answered part []) centre true))
marked_more topology answered part centre marked less = record {
  partitions = length-set answered part (slice_set (get_or answered part []) centre true) ∙ marked.partitions;
  centres = λ other within. by other within (other == part) refl;
}
  where
    row : List Bool
    row = slice_set (get_or answered part []) centre true

    by : (other : ℕ) → other < topology.partitions → (same : Bool) → (other == part) ≡ same → length (get_or (slice_set answered part row) other []) ≡ topology.centres
    by other within true is =
        let equal : other ≡ part = grind (arith, common_steps) in
        rw equal (ap length (get_or-set_same answered part row [] (omega (arith, marked.partitions, less))) ∙ length-set (get_or answered part []) centre true ∙ marked.centres part less)
    by other within false is =
        let differs : other ≢ part = (λ equal. grind (arith, common_steps)) in
        ap length (get_or-set_other answered part other row [] differs) ∙ marked.centres other within
