-- Each version of a lawful history is drawn once, by the gateway that it names.
use Rattle.std.proofs.Common.{◌≡◌, ◌≢◌, ◌==◌, ℕ, ◌+◌, Bool, true, false, inl, inr, Some, [], ◌∷◌, length, refl, sym, ap, ◌∙◌, arith}
use Rattle.std.specs.Prelude.{if◌then◌else◌}
use Rattle.std.proofs.lemmas.Grind.{common_steps}
use Rattle.ov_base.specs.Version.{gate_of}
use Rattle.ov_event.specs.declared.entry.Entry.{Entry}
use Rattle.ov_history.specs.Past.{History, at}
use Rattle.ov_history.specs.Draws.{Drawn, drawn_in, draw_of}
use Rattle.ov_laws.specs.Draws.{Drew}
use Rattle.ov_history.specs.May.{Setting, Lawful}
use Rattle.ov_laws.proofs.Watermarks.Later.{drawn_by_gate}
use Rattle.ov_laws.proofs.Times.Begun.{draw_is_drawn, drew_own, draw_new}

-- what two gateways draw in one entry is one
draws_of_entry : (g other : ℕ) (e : Entry) (drawn also : Drawn) → draw_of g e ≡ Some drawn → draw_of other e ≡ Some also → drawn ≡ also
draws_of_entry g other e drawn also drew again =
    let same : Some drawn ≡ Some also = sym (draw_is_drawn g e drawn drew) ∙ draw_is_drawn other e also again in
    cc

-- two draws of one version are one
draws_equal : (t : Setting) (h : History) (g other : ℕ) (drawn also : Drawn) → Lawful t h → Drew g drawn h → Drew other also h → drawn.version ≡ also.version → drawn ≡ also
draws_equal t [] g other drawn also lawful drew again same = absurd drew
draws_equal t (e ∷ h) g other drawn also lawful (inl new) (inl newer) same = draws_of_entry g other e drawn also new newer
draws_equal t (e ∷ h) g other drawn also lawful (inl new) (inr old) same = absurd (draw_new t h e g other drawn also lawful.0 lawful.1 new old same)
draws_equal t (e ∷ h) g other drawn also lawful (inr old) (inl new) same = absurd (draw_new t h e other g also drawn lawful.0 lawful.1 new old (sym same))
draws_equal t (e ∷ h) g other drawn also lawful (inr old) (inr older) same = draws_equal t h g other drawn also lawful.0 old older same

-- two draws of one version are one draw of one gateway
pub draws_once : (t : Setting) (h : History) (g other : ℕ) (drawn also : Drawn) → Lawful t h → Drew g drawn h → Drew other also h → drawn.version ≡ also.version
    → (g ≡ other) × (drawn ≡ also)
draws_once t h g other drawn also lawful drew again same =
    (sym (drew_own t h g drawn lawful drew) ∙ (ap gate_of same ∙ drew_own t h other also lawful again), draws_equal t h g other drawn also lawful drew again same)

-- what an entry of a lawful history draws, a gateway drew
pub drew_at : (t : Setting) (h : History) (k : ℕ) (e : Entry) (drawn : Drawn) → Lawful t h → at h k ≡ Some e → drawn_in e.kind ≡ Some drawn → (g : ℕ) × Drew g drawn h
drew_at t [] k e drawn lawful there is = absurd (cc)
drew_at t (new ∷ h) k e drawn lawful there is = by (k == length h + 1) there (drew_at t h k e drawn lawful.0)
  where
    by : (b : Bool) → (if b then Some new else at h k) ≡ Some e → (at h k ≡ Some e → drawn_in e.kind ≡ Some drawn → (g : ℕ) × Drew g drawn h) → (g : ℕ) × Drew g drawn (new ∷ h)
    by true here rest =
        let same : new ≡ e = cc in
        let his : drawn_in new.kind ≡ Some drawn = ap (λ (one : Entry). drawn_in one.kind) same ∙ is in
        let own = drawn_by_gate t h new.actor new.kind drawn lawful.1.guard his in
        (own.0, inl own.1)
    by false here rest = let old = rest here is in (old.0, inr old.1)

-- no older entry draws the version of the next draw
older_differs : (t : Setting) (h : History) (new : Entry) (k : ℕ) (e : Entry) (drawn also : Drawn) → Lawful t (new ∷ h) → drawn_in new.kind ≡ Some drawn
    → at h k ≡ Some e → drawn_in e.kind ≡ Some also → drawn.version ≢ also.version
older_differs t h new k e drawn also lawful is there again =
    let own = drawn_by_gate t h new.actor new.kind drawn lawful.1.guard is in
    let old = drew_at t h k e also lawful.0 there again in
    draw_new t h new own.0 old.0 drawn also lawful.0 lawful.1 own.1 old.1

-- two entries that draw one version are one
pub entries_once : (t : Setting) (h : History) (k j : ℕ) (e other : Entry) (drawn also : Drawn) → Lawful t h → at h k ≡ Some e → at h j ≡ Some other
    → drawn_in e.kind ≡ Some drawn → drawn_in other.kind ≡ Some also → drawn.version ≡ also.version → k ≡ j
entries_once t [] k j e other drawn also lawful there here is again same = absurd (cc)
entries_once t (new ∷ h) k j e other drawn also lawful there here is again same =
    by (k == length h + 1) (j == length h + 1) refl refl there here (entries_once t h k j e other drawn also lawful.0)
  where
    by : (b c : Bool) → (k == length h + 1) ≡ b → (j == length h + 1) ≡ c → (if b then Some new else at h k) ≡ Some e → (if c then Some new else at h j) ≡ Some other
        → (at h k ≡ Some e → at h j ≡ Some other → drawn_in e.kind ≡ Some drawn → drawn_in other.kind ≡ Some also → drawn.version ≡ also.version → k ≡ j) → k ≡ j
    by true true first second one two rest = grind (arith, common_steps)
    by true false first second one two rest =
        let newest : new ≡ e = cc in
        let his : drawn_in new.kind ≡ Some drawn = ap (λ (entry : Entry). drawn_in entry.kind) newest ∙ is in
        absurd (older_differs t h new j other drawn also lawful his two again same)
    by false true first second one two rest =
        let newest : new ≡ other = cc in
        let his : drawn_in new.kind ≡ Some also = ap (λ (entry : Entry). drawn_in entry.kind) newest ∙ again in
        absurd (older_differs t h new k e also drawn lawful his one is (sym same))
    by false false first second one two rest = rest one two is again same
