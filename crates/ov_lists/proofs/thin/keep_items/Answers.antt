use Rattle.std.proofs.Common.{◌≡◌, ◌+◌, ◌<◌, suc, List, length, take, drop, filter, arith, sym, ap, ◌∙◌}
use Rattle.std.specs.Prelude.{vec_capacity}
use Rattle.std.proofs.lemmas.List.Edits.{length-swap}
use Rattle.ov_lists.specs.Entries.{Entry, is_kept}
use Rattle.ov_lists.specs.Thin.{stays_at}
use Rattle.ov_lists.proofs.Thinning.{front_stays, front_goes, back_stays, back_goes}
use Rattle.ov_lists.proofs.thin.keep_items.Goals as goal
use Rattle.ov_lists.proofs.thin.keep_items.Goals.{then-stays, else-stays}

pub loop-place-preserved : goal.loop-place-preserved
loop-place-preserved g c =
    let old = c.args.items.now.items in
    let items = c.loop-place.items.items in
    let lt : c.loop-place.place < length c.args.items.now.items = omega (arith, c.loop-place-test.true, c.loop-place.invariant.all) in
    let next : c.loop-place.place + 1 ≡ suc c.loop-place.place = omega arith in
    let test : c.stays.result ≡ stays_at c.args.below c.args.keep_last c.loop-place.items.items c.loop-place.place =
    c.stays.ensures ∙ ap (λ (t : List (Entry _)). stays_at c.args.below c.args.keep_last t c.loop-place.place) c.as_slice.ensures.value in
    elim c.if-stays.branch [
      | then-stays w ↦
          let more : c.if-stays.kept ≡ suc c.loop-place.kept = omega (arith, w.kept-is) in
          let swapped = ap (λ v. v.items) w.items-is ∙ w.swap.ensures.items in
          record {
            order = omega (arith, c.loop-place.invariant.order, w.kept-is);
            within = omega (arith, c.loop-place-test.true);
            front = ap (λ n. take n c.if-stays.items.items) more ∙ ap (take (suc c.loop-place.kept)) swapped
                ∙ front_stays c.args.below c.args.keep_last c.args.items.now.items c.loop-place.items.items c.loop-place.kept c.loop-place.place c.requires c.loop-place.invariant.order lt
                c.loop-place.invariant.len c.loop-place.invariant.front c.loop-place.invariant.back (sym test ∙ w.if-stays.true)
                ∙ ap (λ n. filter (is_kept c.args.below c.args.keep_last c.args.items.now.items) (take n c.args.items.now.items)) (sym next);
            back = ap (λ n. drop n c.if-stays.items.items) next ∙ ap (drop (suc c.loop-place.place)) swapped
                ∙ back_stays c.args.below c.args.keep_last c.args.items.now.items c.loop-place.items.items c.loop-place.kept c.loop-place.place c.requires c.loop-place.invariant.order lt
                c.loop-place.invariant.len c.loop-place.invariant.front c.loop-place.invariant.back
                ∙ ap (λ n. drop n c.args.items.now.items) (sym next);
            len = ap length swapped ∙ length-swap c.loop-place.items.items c.loop-place.kept c.loop-place.place ∙ c.loop-place.invariant.len;
            all = c.loop-place.invariant.all;
            capacity = ap (λ v. vec_capacity v) w.items-is ∙ w.swap.ensures.capacity ∙ c.loop-place.invariant.capacity;
          }
      | else-stays w ↦
          let passed = ap (λ v. v.items) w.items-is in
          record {
            order = omega (arith, c.loop-place.invariant.order, w.kept-is);
            within = omega (arith, c.loop-place-test.true);
            front = ap (λ n. take n c.if-stays.items.items) w.kept-is ∙ ap (take c.loop-place.kept) passed
                ∙ front_goes c.args.below c.args.keep_last c.args.items.now.items c.loop-place.items.items c.loop-place.kept c.loop-place.place c.requires c.loop-place.invariant.order lt
                c.loop-place.invariant.len c.loop-place.invariant.front c.loop-place.invariant.back (sym test ∙ w.if-stays.false)
                ∙ ap (λ n. filter (is_kept c.args.below c.args.keep_last c.args.items.now.items) (take n c.args.items.now.items)) (sym next);
            back = ap (λ n. drop n c.if-stays.items.items) next ∙ ap (drop (suc c.loop-place.place)) passed
                ∙ back_goes c.args.below c.args.keep_last c.args.items.now.items c.loop-place.items.items c.loop-place.kept c.loop-place.place c.requires c.loop-place.invariant.order lt
                c.loop-place.invariant.len c.loop-place.invariant.front c.loop-place.invariant.back
                ∙ ap (λ n. drop n c.args.items.now.items) (sym next);
            len = ap length passed ∙ c.loop-place.invariant.len;
            all = c.loop-place.invariant.all;
            capacity = ap (λ v. vec_capacity v) w.items-is ∙ c.loop-place.invariant.capacity;
          }
    ]
