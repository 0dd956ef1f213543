use Rattle.std.proofs.Common.{◌≡◌, ℕ, false, List, refl, arith, sym, subst, ap, ◌∙◌, insert}
use Rattle.ov_lists.specs.Entries.{Entry, Contents, IsOrdered, has_pair, inserted}
use Rattle.ov_lists.specs.Parts.{place_in, listed}
use Rattle.ov_lists.specs.Places.{IsPlace}
use Rattle.ov_lists.proofs.Entries.{ordered_inserted}
use Rattle.ov_lists.proofs.Places.{inserted_at}
use Rattle.ov_lists.proofs.lists.VersionLists.insert.Goals as goal

-- what an entry at its place gives, where the place was found among the items, and these have more room
given : {T : Type 0} (new : Entry T) (items read roomy : List (Entry T)) (parts wide : List (List ℕ)) (number block offset : ℕ)
    → read ≡ items → roomy ≡ items → wide ≡ parts → number ≡ new.version → IsPlace new.key number (listed read parts) (place_in parts block offset)
    → insert (listed roomy wide) (place_in wide block offset) new ≡ inserted new (listed items parts)
given {T} new items read roomy parts wide number block offset reads kept cut version h =
    let here = subst (λ (t : List (Entry T)). IsPlace new.key number (listed t parts) (place_in parts block offset)) reads h in
    let there = subst (λ (n : ℕ). IsPlace new.key n (listed items parts) (place_in parts block offset)) version here in
    rw (kept, cut) (sym (inserted_at new (listed items parts) (place_in parts block offset) there))

pub returns-then-is_taken-clause-inserts : goal.returns-then-is_taken-clause-inserts
returns-then-is_taken-clause-inserts g c =
    let sees = ap (λ (s : Contents _). s.entries) c.self.view_is in
    let same = ap (λ (t : List (Entry _)). has_pair c.args.key c.args.version (listed t c.self.inside.blocks.parts)) c.as_slice-items.ensures.value in
    (rw (← sees) (sym same ∙ sym c.if-is_taken.ensures), refl)

pub invariant_of-self-2 : goal.invariant_of-self-2
invariant_of-self-2 g c =
    let new : Entry _ = record { key = c.args.key; version = c.args.version; item = c.args.item } in
    let same = ap (λ (t : List (Entry _)). has_pair c.args.key c.args.version (listed t c.self.inside.blocks.parts)) c.as_slice-items.ensures.value in
    let lacks : has_pair c.args.key c.args.version (listed c.self.inside.items.items c.self.inside.blocks.parts) ≡ false = sym same ∙ sym c.if-is_taken.ensures in
    let at = c.insert_entry.ensures.entries ∙ given new c.self.inside.items.items c.as_slice-items.result.now c.make_room.new.items.items c.self.inside.blocks.parts c.make_room.new.blocks.parts c.number.result
    c.position_for-at.result.block c.position_for-at.result.offset c.as_slice-items.ensures.value c.in_ok-room.ensures.items c.in_ok-room.ensures.parts c.number.ensures.value c.position_for-at.ensures.place in
    let room = c.in_ok-room.ensures.ok in (
      record {
        all = c.insert_entry.ensures.all;
        ordered = subst (λ (t : List (Entry _)). IsOrdered t) (sym at) (ordered_inserted new (listed c.self.inside.items.items c.self.inside.blocks.parts) c.self.invariant.0.ordered lacks);
      },
      record {
        few = omega (arith, room.few, c.in_ok-room.ensures.more, c.insert_entry.ensures.len);
        items = omega (arith, room.items, c.in_ok-room.ensures.more, c.insert_entry.ensures.len, c.insert_entry.ensures.capacity);
        blocks = omega (arith, room.blocks, c.in_ok-room.ensures.more, c.insert_entry.ensures.spare);
      },
    )

pub returns-clause-inserts : goal.returns-clause-inserts
returns-clause-inserts g c =
    let new : Entry _ = record { key = c.args.key; version = c.args.version; item = c.args.item } in
    let sees = ap (λ (s : Contents _). s.entries) c.self.view_is in
    let spare = ap (λ (s : Contents _). s.spare) c.self.view_is in
    let same = ap (λ (t : List (Entry _)). has_pair c.args.key c.args.version (listed t c.self.inside.blocks.parts)) c.as_slice-items.ensures.value in
    let lacks : has_pair c.args.key c.args.version (listed c.self.inside.items.items c.self.inside.blocks.parts) ≡ false = sym same ∙ sym c.if-is_taken.ensures in
    let at = c.insert_entry.ensures.entries ∙ given new c.self.inside.items.items c.as_slice-items.result.now c.make_room.new.items.items c.self.inside.blocks.parts c.make_room.new.blocks.parts c.number.result
    c.position_for-at.result.block c.position_for-at.result.offset c.as_slice-items.ensures.value c.in_ok-room.ensures.items c.in_ok-room.ensures.parts c.number.ensures.value c.position_for-at.ensures.place in
    (rw (← sees) lacks, (rw (← sees) at, omega (arith, spare, c.in_ok-room.ensures.grown)))

pub returns-clause-ordered : goal.returns-clause-ordered
returns-clause-ordered g c = (invariant_of-self-2 g c).0.ordered
