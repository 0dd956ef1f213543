use Rattle.std.proofs.Common.{◌≡◌, ℕ, false, arith, sym, subst, ◌∙◌, inl, inr}
use Rattle.std.proofs.lemmas.Bool.{cases_Bool}
use Rattle.ov_lists.specs.Entries.{Entry, is_at}
use Rattle.ov_lists.specs.Parts.{place_in, listed}
use Rattle.ov_lists.specs.Places.{IsPlace}
use Rattle.ov_lists.proofs.Places.{pair_there, pair_not_there, read_at}
use Rattle.ov_lists.proofs.Picked.{count_listed}
use Rattle.ov_lists.proofs.search.is_taken.Goals as goal

pub returns-then-at-count : goal.returns-then-at-count
returns-then-at-count g c =
    let end = c.forward-at.ensures.at.end (omega (arith, c.count.ensures.value, c.if-at-count.true)) in
    sym (pair_not_there c.args.key.now c.args.version (listed c.args.items.now c.args.blocks.now.parts) (place_in c.args.blocks.now.parts c.args.at.block c.args.at.offset)
    c.requires.index.ordered c.requires.place
    (λ d lt. absurd (omega (arith, lt, end, c.forward-at.ensures.same, count_listed c.args.items.now c.args.blocks.now.parts c.requires.index))))

pub returns : goal.returns
returns g c =
    let place = subst (λ (n : ℕ). IsPlace c.args.key.now c.args.version (listed c.args.items.now c.args.blocks.now.parts) n) (sym c.forward-at.ensures.same) c.requires.place in
    elim (cases_Bool (is_at c.args.key.now c.args.version c.entry_at.result.now)) [
      | inl there ↦ (c.is_at.ensures ∙ there)
          ∙ sym (pair_there c.args.key.now c.args.version (listed c.args.items.now c.args.blocks.now.parts) _ c.entry_at.result.now c.entry_at.ensures.within c.entry_at.ensures.value there)
      | inr other ↦ (c.is_at.ensures ∙ other)
          ∙ sym (pair_not_there c.args.key.now c.args.version (listed c.args.items.now c.args.blocks.now.parts) _ c.requires.index.ordered place
          (λ d _. subst (λ (t : Entry _). is_at c.args.key.now c.args.version t ≡ false)
          (sym (read_at (listed c.args.items.now c.args.blocks.now.parts) _ c.entry_at.result.now d c.entry_at.ensures.within c.entry_at.ensures.value)) other))
    ]
