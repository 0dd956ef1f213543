use Rattle.std.proofs.Common.{◌≡◌, true, false, Some, None, arith, refl, sym, subst, ap, ◌∙◌, inl, inr}
use Rattle.std.proofs.lemmas.Result.{IfOk-weaker}
use Rattle.std.specs.Prelude.{IsNone}
use Rattle.ov_io.specs.declared.files.NamedFile.{NamedFile}
use Rattle.ov_io.specs.Files.{content, place_from}
use Rattle.ov_io.specs.Memory.{ShelfState, is_to_fail}
use Rattle.ov_io.proofs.Shelves.{absent_rose, content_at, content_none, not_none, agrees_at, longer_at}
use Rattle.ov_io.proofs.memory.MemoryShelfShelf.read.Goals as goal

pub returns-in-None-clause-failed : goal.returns-in-None-clause-failed
returns-in-None-clause-failed c =
    let none : place_from c.self.inside.files.items c.args.name.now ≡ None = sym (rw (c.as_slice.ensures.value, c.as_bytes.ensures.value) at c.in-None.ensures.place) in
    let files : c.self.inside.files.items ≡ c.args.self.now.files = ap (λ (s : ShelfState). s.files) c.self.view_is in
    let absent : c.self.inside.absent ≡ c.args.self.now.absent = ap (λ (s : ShelfState). s.absent) c.self.view_is in
    λ e. rw (← files, ← absent) (absent_rose c.self.inside.files.items c.args.name.now c.self.inside.absent _ none (omega arith))

pub returns-else-fails-clause-bytes : goal.returns-else-fails-clause-bytes
returns-else-fails-clause-bytes c =
    let at : place_from c.self.inside.files.items c.args.name.now ≡ Some c.in-Some.place = sym (rw (c.as_slice.ensures.value, c.as_bytes.ensures.value) at c.in-Some.ensures.place) in
    let told : content c.self.inside.files.items c.args.name.now ≡ Some c.index.result.now.bytes =
    content_at c.self.inside.files.items c.in-Some.place c.index.result.now c.args.name.now at ∙ ap (λ (f : NamedFile). Some f.bytes) (sym c.index.ensures) in
    let here : content c.args.self.now.files c.args.name.now ≡ Some c.index.result.now.bytes = ap (λ (s : ShelfState). content s.files c.args.name.now) (sym c.self.view_is) ∙ told in
    IfOk-weaker c.copy_of.result _ _ (λ v e. agrees_at (content c.args.self.now.files c.args.name.now) _ v.items here e) c.copy_of.ensures.bytes

pub returns-else-fails-clause-long : goal.returns-else-fails-clause-long
returns-else-fails-clause-long c =
    let at : place_from c.self.inside.files.items c.args.name.now ≡ Some c.in-Some.place = sym (rw (c.as_slice.ensures.value, c.as_bytes.ensures.value) at c.in-Some.ensures.place) in
    let told : content c.self.inside.files.items c.args.name.now ≡ Some c.index.result.now.bytes =
    content_at c.self.inside.files.items c.in-Some.place c.index.result.now c.args.name.now at ∙ ap (λ (f : NamedFile). Some f.bytes) (sym c.index.ensures) in
    let here : content c.args.self.now.files c.args.name.now ≡ Some c.index.result.now.bytes = ap (λ (s : ShelfState). content s.files c.args.name.now) (sym c.self.view_is) ∙ told in
    λ e. longer_at (content c.args.self.now.files c.args.name.now) _ c.args.limit here (c.copy_of.ensures.long e)

pub returns-in-None-clause-chosen : goal.returns-in-None-clause-chosen
returns-in-None-clause-chosen c =
    let none : place_from c.self.inside.files.items c.args.name.now ≡ None = sym (rw (c.as_slice.ensures.value, c.as_bytes.ensures.value) at c.in-None.ensures.place) in
    let here : IsNone (content c.args.self.now.files c.args.name.now) =
    subst (λ (s : ShelfState). IsNone (content s.files c.args.name.now)) c.self.view_is (content_none c.self.inside.files.items c.args.name.now none) in
    (λ e. inr here, λ t. refl)

pub returns-then-fails-clause-chosen : goal.returns-then-fails-clause-chosen
returns-then-fails-clause-chosen c =
    let told : is_to_fail c.self.inside.failing.items c.self.inside.calls ≡ true =
    rw (← c.saturating_add-self-inside.ensures, ← c.deref.ensures.value) (sym c.contains-fails.ensures.value ∙ c.if-fails.true) in
    let here : is_to_fail c.args.self.now.failing c.args.self.now.calls ≡ true = ap (λ (s : ShelfState). is_to_fail s.failing s.calls) (sym c.self.view_is) ∙ told in
    (λ e. inl here, λ t. refl)

pub returns-else-fails-clause-chosen : goal.returns-else-fails-clause-chosen
returns-else-fails-clause-chosen c =
    let told : is_to_fail c.self.inside.failing.items c.self.inside.calls ≡ false =
    rw (← c.saturating_add-self-inside.ensures, ← c.deref.ensures.value) (sym c.contains-fails.ensures.value ∙ c.if-fails.false) in
    let here : is_to_fail c.args.self.now.failing c.args.self.now.calls ≡ false = ap (λ (s : ShelfState). is_to_fail s.failing s.calls) (sym c.self.view_is) ∙ told in
    let at : place_from c.self.inside.files.items c.args.name.now ≡ Some c.in-Some.place = sym (rw (c.as_slice.ensures.value, c.as_bytes.ensures.value) at c.in-Some.ensures.place) in
    let there : content c.args.self.now.files c.args.name.now ≡ Some (c.index.result.now.bytes) = ap (λ (s : ShelfState). content s.files c.args.name.now) (sym c.self.view_is)
    ∙ content_at c.self.inside.files.items c.in-Some.place c.index.result.now c.args.name.now at ∙ ap (λ (f : NamedFile). Some f.bytes) (sym c.index.ensures) in (
      λ e. absurd (c.copy_of.ensures.failed e),
      λ t. elim t [
        | inl b ↦ absurd cc
        | inr n ↦ absurd (not_none _ _ there n)
      ],
    )
