use Rattle.std.proofs.Common.{◌≡◌, ◌++◌, ◌∷◌, [], map, filter, arith, sym, ap, ◌∙◌}
use Rattle.std.proofs.lemmas.List.{take_all, map-append}
use Rattle.ov_lists.specs.Entries.{Entry, is_inside, shown}
use Rattle.ov_lists.specs.Parts.{place_in, listed}
use Rattle.ov_lists.proofs.Picked.{count_listed}
use Rattle.ov_lists.proofs.Places.{filter_skip}
use Rattle.ov_lists.proofs.Thinning.{filter_take_passing}
use Rattle.ov_lists.proofs.window.inside.Goals as goal

pub loop-at-preserved-then-is_inside : goal.loop-at-preserved-then-is_inside
loop-at-preserved-then-is_inside g c =
    let pushed : map shown c.push.new.self.items ≡ map shown c.loop-at.found.items ++ c.entry_at-entry.result.now ∷ [] =
    rw (c.push.ensures.items, c.if-is_err.ensures.negation)
    (map-append shown c.loop-at.found.items _ ∙ ap (λ (e : Entry _). map shown c.loop-at.found.items ++ e ∷ []) c.entry.view_is) in
    record {
      at = c.after-at.ensures.at;
      within = omega (arith, c.after-at.ensures.next, c.entry_at-entry.ensures.within);
      found = pushed
          ∙ filter_take_passing (is_inside c.args.from c.args.below) (listed c.args.items.now c.args.blocks.now.parts) _ (place_in c.args.blocks.now.parts c.loop-at.at.block c.loop-at.at.offset) _ c.entry_at-entry.result.now
          c.after-at.ensures.next c.entry_at-entry.ensures.within c.entry_at-entry.ensures.value (sym c.if-is_inside.ensures) c.loop-at.invariant.found;
    }

pub loop-at-preserved : goal.loop-at-preserved
loop-at-preserved g c =
    let passes = c.next_position-at.ensures.passes in
    record {
      at = c.next_position-at.ensures.at;
      within = passes.within;
      found = c.loop-at.invariant.found
          ∙ sym (filter_skip (is_inside c.args.from c.args.below) (listed c.args.items.now c.args.blocks.now.parts) (place_in c.args.blocks.now.parts c.loop-at.at.block c.loop-at.at.offset) _
          (omega (arith, passes.onward)) passes.outside);
    }

pub returns : goal.returns
returns g c =
    let end = c.loop-at.invariant.at.end (omega (arith, c.count.ensures.value, c.loop-at-test.false)) in
    c.loop-at.invariant.found
    ∙ ap (filter (is_inside c.args.from c.args.below)) (take_all (place_in c.args.blocks.now.parts c.loop-at.at.block c.loop-at.at.offset) (listed c.args.items.now c.args.blocks.now.parts)
    (omega (arith, end, count_listed c.args.items.now c.args.blocks.now.parts c.requires)))

pub loop-at-smaller : goal.loop-at-smaller
loop-at-smaller g c = omega (arith, c.next_position-at.ensures.passes.onward, c.next_position-at.ensures.passes.within)
