use Rattle.std.proofs.Common.{◌≡◌, ◌-◌, true, false, ℕ, List, Some, None, get_or, refl, arith, sym, subst, ap}
use Rattle.ov_base.specs.Key.{key_eq}
use Rattle.ov_lists.specs.Entries.{Entry, Contents, latest_of}
use Rattle.ov_lists.specs.Parts.{start, place_in, listed}
use Rattle.ov_lists.specs.Places.{IsPlace}
use Rattle.ov_lists.proofs.Places.{latest_here, latest_nowhere, latest_other}
use Rattle.ov_lists.proofs.lists.VersionLists.latest.Goals as goal

-- the place of a key and number among what was read is that among the items
place_of : {T : Type 0} (items read : List (Entry T)) (parts : List (List ℕ)) (key : List ℕ) (number place : ℕ) → read ≡ items
    → IsPlace key number (listed read parts) place → IsPlace key number (listed items parts) place
place_of {T} items read parts key number place same h = subst (λ (t : List (Entry T)). IsPlace key number (listed t parts) place) same h

pub returns-then-at-eq0 : goal.returns-then-at-eq0
returns-then-at-eq0 g c =
    let sees = ap (λ (s : Contents _). s.entries) c.self.view_is in
    let place = place_of c.self.inside.items.items c.as_slice-items.result.now c.self.inside.blocks.parts c.args.key c.args.below _ c.as_slice-items.ensures.value c.position_of-at.ensures.place in
    let none : latest_of c.args.key c.args.below (listed c.self.inside.items.items c.self.inside.blocks.parts) ≡ None =
    latest_nowhere c.args.key c.args.below (listed c.self.inside.items.items c.self.inside.blocks.parts) _ place
    (omega (arith, c.if-at-eq0.true, ap (start c.self.inside.blocks.parts) (c.position_of-at.ensures.front c.if-at-eq0.true))) in
    rw (← sees, none) refl

pub returns-then-eq : goal.returns-then-eq
returns-then-eq g c =
    let sees = ap (λ (s : Contents _). s.entries) c.self.view_is in
    let place = place_of c.self.inside.items.items c.as_slice-items.result.now c.self.inside.blocks.parts c.args.key c.args.below _ c.as_slice-items.ensures.value c.position_of-at.ensures.place in
    let last = place_in c.self.inside.blocks.parts c.position_of-at.result.block (c.position_of-at.result.offset - 1) in
    let value = subst (λ (t : List (Entry _)). c.entry_at-entry.result.now ≡ get_or (listed t c.self.inside.blocks.parts) last c.entry_at-entry.result.now) c.as_slice-items.ensures.value c.entry_at-entry.ensures.value in
    let key : key_eq c.entry_at-entry.result.now.key c.args.key ≡ true = rw (← c.entry.view_is) (sym c.if-eq.ensures) in
    let here : latest_of c.args.key c.args.below (listed c.self.inside.items.items c.self.inside.blocks.parts) ≡ Some c.entry_at-entry.result.now =
    latest_here c.args.key c.args.below (listed c.self.inside.items.items c.self.inside.blocks.parts) (place_in c.self.inside.blocks.parts c.position_of-at.result.block c.position_of-at.result.offset)
    last c.entry_at-entry.result.now c.self.invariant.0.ordered place (omega (arith, c.if-at-eq0.false)) value key in
    rw (← sees, here, ← c.entry.view_is) refl

pub returns-else-eq : goal.returns-else-eq
returns-else-eq g c =
    let sees = ap (λ (s : Contents _). s.entries) c.self.view_is in
    let place = place_of c.self.inside.items.items c.as_slice-items.result.now c.self.inside.blocks.parts c.args.key c.args.below _ c.as_slice-items.ensures.value c.position_of-at.ensures.place in
    let last = place_in c.self.inside.blocks.parts c.position_of-at.result.block (c.position_of-at.result.offset - 1) in
    let value = subst (λ (t : List (Entry _)). c.entry_at-entry.result.now ≡ get_or (listed t c.self.inside.blocks.parts) last c.entry_at-entry.result.now) c.as_slice-items.ensures.value c.entry_at-entry.ensures.value in
    let key : key_eq c.entry_at-entry.result.now.key c.args.key ≡ false = rw (← c.entry.view_is) (sym c.if-eq.ensures) in
    let other : latest_of c.args.key c.args.below (listed c.self.inside.items.items c.self.inside.blocks.parts) ≡ None =
    latest_other c.args.key c.args.below (listed c.self.inside.items.items c.self.inside.blocks.parts) (place_in c.self.inside.blocks.parts c.position_of-at.result.block c.position_of-at.result.offset)
    last c.entry_at-entry.result.now c.self.invariant.0.ordered place (omega (arith, c.if-at-eq0.false)) value key in
    rw (← sees, other) refl
