use Rattle.std.proofs.Common.{◌≡◌, ◌<◌, ◌+◌, false, not, ◌||◌, ◌&&◌, leb, length, get_or, sym, ap, arith, ◌∙◌}
use Rattle.std.proofs.lemmas.Bool.{lt-leb}
use Rattle.std.proofs.lemmas.List.{get_or_default}
use Rattle.ov_lists.specs.Entries.{Entry, is_below}
use Rattle.ov_lists.proofs.Thinning.{stays_end, stays_next, stays_high}
use Rattle.ov_lists.proofs.thin.stays.Goals as goal

pub returns-then-number-below : goal.returns-then-number-below
returns-then-number-below g c =
    let version = ap (λ (e : Entry _). e.version) c.item.view_is in
    sym (stays_high c.args.below c.args.keep_last c.args.items.now c.args.place c.index-items-place.result c.requires c.index-items-place.is (omega (arith, version, c.number.ensures.value, c.if-number-below.true)))

pub returns-then-place-items : goal.returns-then-place-items
returns-then-place-items g c =
    let version = ap (λ (e : Entry _). e.version) c.item.view_is in
    let low : leb c.args.below c.index-items-place.result.version ≡ false = lt-leb c.args.below c.index-items-place.result.version (omega (arith, version, c.number.ensures.value, c.if-number-below.false)) in
    sym (stays_end c.args.below c.args.keep_last c.args.items.now c.args.place c.index-items-place.result (omega (arith, c.if-place-items.true)) c.index-items-place.is ∙ ap (λ b. b || c.args.keep_last) low)

pub returns-then-keep_last : goal.returns-then-keep_last
returns-then-keep_last g c =
    let version = ap (λ (e : Entry _). e.version) c.item.view_is in
    let low : leb c.args.below c.index-items-place.result.version ≡ false = lt-leb c.args.below c.index-items-place.result.version (omega (arith, version, c.number.ensures.value, c.if-number-below.false)) in
    let more : c.args.place + 1 < length c.args.items.now = omega (arith, c.requires, c.if-place-items.false) in
    ap not (c.is_below.ensures ∙ ap (λ (e : Entry _). is_below e.key c.args.below c.index-items-place-then-keep_last.result) c.item.view_is)
    ∙ sym (stays_next c.args.below c.args.keep_last c.args.items.now c.args.place c.index-items-place.result c.index-items-place-then-keep_last.result more c.index-items-place.is c.index-items-place-then-keep_last.is
    ∙ ap (λ b. b || (c.args.keep_last && not (is_below c.index-items-place.result.key c.args.below c.index-items-place-then-keep_last.result))) low
    ∙ ap (λ b. b && not (is_below c.index-items-place.result.key c.args.below c.index-items-place-then-keep_last.result)) c.if-keep_last.true)

pub returns-else-keep_last : goal.returns-else-keep_last
returns-else-keep_last g c =
    let version = ap (λ (e : Entry _). e.version) c.item.view_is in
    let low : leb c.args.below c.index-items-place.result.version ≡ false = lt-leb c.args.below c.index-items-place.result.version (omega (arith, version, c.number.ensures.value, c.if-number-below.false)) in
    let more : c.args.place + 1 < length c.args.items.now = omega (arith, c.requires, c.if-place-items.false) in
    let f = get_or c.args.items.now (c.args.place + 1) c.index-items-place.result in
    c.if-keep_last.false
    ∙ sym (stays_next c.args.below c.args.keep_last c.args.items.now c.args.place c.index-items-place.result f more c.index-items-place.is
    (get_or_default c.args.items.now (c.args.place + 1) c.index-items-place.result f more)
    ∙ ap (λ b. b || (c.args.keep_last && not (is_below c.index-items-place.result.key c.args.below f))) low
    ∙ ap (λ b. b && not (is_below c.index-items-place.result.key c.args.below f)) c.if-keep_last.false)
