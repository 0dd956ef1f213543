use Rattle.std.proofs.Common.{◌≡◌, ◌+◌, ℕ, List, arith, sym, ap, subst}
use Rattle.ov_lists.specs.Entries.{Entry}
use Rattle.ov_lists.specs.Parts.{place_in, listed}
use Rattle.ov_lists.specs.Places.{AreBefore, IsPlace, Passes}
use Rattle.ov_lists.proofs.Places.{passes_front, passes_back, past_window, run_begun}
use Rattle.ov_lists.proofs.window.next_position.Goals as goal

-- what passes up to a place passes up to the same place
moved : {T : Type 0} (from below : ℕ) (entries : List (Entry T)) (place next there : ℕ) → there ≡ next → Passes from below entries place next → Passes from below entries place there
moved from below entries place next there same h = subst (λ (n : ℕ). Passes from below entries place n) (sym same) h

pub position_near-requires-clause-before : goal.position_near-requires-clause-before
position_near-requires-clause-before g c =
    let key = ap (λ (e : Entry _). e.key) c.entry.view_is in
    let version = ap (λ (e : Entry _). e.version) c.entry.view_is in
    subst (λ (k : List ℕ). AreBefore k c.args.from (listed c.args.items.now c.args.blocks.now.parts) (place_in c.args.blocks.now.parts c.args.at.block c.args.at.offset + 1)) (sym key)
    (run_begun (listed c.args.items.now c.args.blocks.now.parts) (place_in c.args.blocks.now.parts c.args.at.block c.args.at.offset) c.args.from c.entry_at-entry.result.now
    c.requires.index.ordered c.entry_at-entry.ensures.within c.entry_at-entry.ensures.value (omega (arith, version, c.number.ensures.value, c.if-number-from.true)))

pub position_near-requires-else-number-from-clause-before : goal.position_near-requires-else-number-from-clause-before
position_near-requires-else-number-from-clause-before g c =
    let key = ap (λ (e : Entry _). e.key) c.entry.view_is in
    let version = ap (λ (e : Entry _). e.version) c.entry.view_is in
    subst (λ (k : List ℕ). AreBefore k 9223372036854775808 (listed c.args.items.now c.args.blocks.now.parts) (place_in c.args.blocks.now.parts c.args.at.block c.args.at.offset + 1)) (sym key)
    (run_begun (listed c.args.items.now c.args.blocks.now.parts) (place_in c.args.blocks.now.parts c.args.at.block c.args.at.offset) 9223372036854775808 c.entry_at-entry.result.now
    c.requires.index.ordered c.entry_at-entry.ensures.within c.entry_at-entry.ensures.value (omega (arith, version, c.number.ensures.value, c.number.ensures.form)))

pub returns-then-number-from-clause-passes : goal.returns-then-number-from-clause-passes
returns-then-number-from-clause-passes g c =
    let key = ap (λ (e : Entry _). e.key) c.entry.view_is in
    let version = ap (λ (e : Entry _). e.version) c.entry.view_is in
    moved c.args.from c.args.below (listed c.args.items.now c.args.blocks.now.parts) _ _ _ c.forward.ensures.same
    (passes_front c.args.from c.args.below (listed c.args.items.now c.args.blocks.now.parts) (place_in c.args.blocks.now.parts c.args.at.block c.args.at.offset) _ c.entry_at-entry.result.now
    c.requires.index.ordered c.entry_at-entry.ensures.within c.entry_at-entry.ensures.value
    (subst (λ (k : List ℕ). IsPlace k c.args.from (listed c.args.items.now c.args.blocks.now.parts) (place_in c.args.blocks.now.parts c.position_near.result.block c.position_near.result.offset)) key c.position_near.ensures.place)
    (omega (arith, version, c.number.ensures.value, c.if-number-from.true)))

pub returns-else-number-from-clause-passes : goal.returns-else-number-from-clause-passes
returns-else-number-from-clause-passes g c =
    let key = ap (λ (e : Entry _). e.key) c.entry.view_is in
    let version = ap (λ (e : Entry _). e.version) c.entry.view_is in
    moved c.args.from c.args.below (listed c.args.items.now c.args.blocks.now.parts) _ _ _ c.forward-else-number-from.ensures.same
    (passes_back c.args.from c.args.below (listed c.args.items.now c.args.blocks.now.parts) (place_in c.args.blocks.now.parts c.args.at.block c.args.at.offset) _ 9223372036854775808 c.entry_at-entry.result.now
    c.requires.index.ordered c.entry_at-entry.ensures.within c.entry_at-entry.ensures.value
    (subst (λ (k : List ℕ). IsPlace k 9223372036854775808 (listed c.args.items.now c.args.blocks.now.parts) (place_in c.args.blocks.now.parts c.position_near-else-number-from.result.block c.position_near-else-number-from.result.offset)) key c.position_near-else-number-from.ensures.place)
    (omega (arith, version, c.number.ensures.value, c.number.ensures.form))
    (past_window c.args.from c.args.below (listed c.args.items.now c.args.blocks.now.parts) (place_in c.args.blocks.now.parts c.args.at.block c.args.at.offset) c.entry_at-entry.result.now c.entry_at-entry.ensures.value c.requires.outside
    (omega (arith, version, c.number.ensures.value, c.if-number-from.false))))
