-- For every list of entries one verdict is right, whether or not someone has memory to find it; and lawful entries are judged lawful.
use Rattle.std.proofs.Common.{◌≡◌, ◌+◌, Bool, true, false, List, [], ◌∷◌, ◌++◌, length, Option, Some, None, refl, sym, ap, subst, ◌∙◌, ◌⊎◌, inl, inr, reverse, append_assoc}
use Rattle.std.proofs.lemmas.List.{append-nil, reverse-append}
use Rattle.ov_topology.specs.Shape.{IsShape}
use Rattle.ov_event.specs.declared.entry.Entry.{Entry}
use Rattle.ov_event.specs.contracts.entry.EntryPartialEq.TheImpl.{ghosts}
use Rattle.ov_event.specs.contracts.entry.EntryEq.TheImpl.Laws.{laws-law}
use Rattle.ov_event.specs.contracts.entry.EntryPlain.TheImpl.Laws.{exact-law}
use Rattle.ov_history.specs.Past.{History}
use Rattle.ov_history.specs.May.{Setting, May}
use Rattle.ov_history.specs.May as may
use Rattle.ov_history.specs.Gives.{act_of, gives}
use Rattle.ov_history.proofs.Given.{given_follows}
use Rattle.ov_history.proofs.Giving.{may_given}
use Rattle.ov_laws.proofs.History.Earlier.{lawful_older}
use Rattle.ov_journal.specs.Audit.{Judges}
use Rattle.ov_journal.specs.declared.verdict.Verdict.{Verdict}
use Rattle.ov_journal.specs.declared.verdict.Verdict.TheVariants.{Lawful, Refused}

-- ---- whether an entry may follow

-- two entries are one, or they are not
same_or_not : (x y : Entry) → (x ≡ y) ⊎ (x ≡ y → ⊥)
same_or_not x y = by (ghosts.eq x y) refl
  where
    by : (b : Bool) → ghosts.eq x y ≡ b → (x ≡ y) ⊎ (x ≡ y → ⊥)
    by true same = inl (exact-law x y same)
    by false differs = inr (λ is. let same : ghosts.eq x y ≡ true = subst (λ (z : Entry). ghosts.eq x z ≡ true) is (laws-law.refl x) in let bad : true ≡ false = sym same ∙ differs in cc)

-- an entry may follow, or it may not
may_or_not : (t : Setting) (h : History) (e : Entry) → IsShape t.topology → May t h e ⊎ (May t h e → ⊥)
may_or_not t h e shape = by (gives t h e.actor (act_of e.kind)) refl
  where
    by : (given : Option Entry) → gives t h e.actor (act_of e.kind) ≡ given → May t h e ⊎ (May t h e → ⊥)
    by None none = inr (λ m. let bad : ◌≡◌ {A = Option Entry} (Some e) None = sym (may_given t h e m) ∙ none in cc)
    by (Some other) some = elim (same_or_not other e) [
      | inl same ↦ inl (given_follows t h e.actor (act_of e.kind) e shape (some ∙ ap Some same)).0
      | inr differs ↦ inr (λ m. let both : ◌≡◌ {A = Option Entry} (Some other) (Some e) = sym some ∙ may_given t h e m in differs cc)
    ]

-- ---- verdicts

-- an entry may follow what stands before it in a lawful list of entries
follows_in : (t : Setting) (front rest : List Entry) (e : Entry) → may.Lawful t (reverse (front ++ e ∷ rest)) → May t (reverse front) e
follows_in t front rest e lawful =
    let split : reverse (front ++ e ∷ rest) ≡ reverse rest ++ e ∷ reverse front =
    ap reverse (sym (append_assoc front (e ∷ []) rest)) ∙ reverse-append (front ++ e ∷ []) rest ∙ ap (λ (es : List Entry). reverse rest ++ es) (reverse-append front (e ∷ [])) in
    (lawful_older t (e ∷ reverse front) (reverse rest) (subst (may.Lawful t) split lawful)).1

-- the verdict on lawful entries is that they are lawful
pub lawful_judged : (t : Setting) (entries : List Entry) (verdict : Verdict) → may.Lawful t (reverse entries) → Judges t entries verdict → verdict ≡ Lawful
lawful_judged t entries Lawful lawful right = refl
lawful_judged t entries (Refused number) lawful first =
    absurd (first.may_not (follows_in t first.front first.rest first.refused (subst (λ (es : List Entry). may.Lawful t (reverse es)) first.split lawful)))

-- the verdict on entries behind others, which are lawful
judged_behind : (t : Setting) (front rest : List Entry) → IsShape t.topology → may.Lawful t (reverse front) → (verdict : Verdict) × Judges t (front ++ rest) verdict
judged_behind t front [] shape lawful = (Lawful, subst (λ (es : List Entry). may.Lawful t (reverse es)) (sym (append-nil front)) lawful)
judged_behind t front (e ∷ rest) shape lawful = elim (may_or_not t (reverse front) e shape) [
  | inl follows ↦
      let here : may.Lawful t (reverse (front ++ e ∷ [])) = subst (may.Lawful t) (sym (reverse-append front (e ∷ []))) (lawful, follows) in
      let behind = judged_behind t (front ++ e ∷ []) rest shape here in
      (behind.0, subst (λ (es : List Entry). Judges t es behind.0) (append_assoc front (e ∷ []) rest) behind.1)
  | inr refused ↦ (Refused (length front + 1), record { front = front; refused = e; rest = rest; split = refl; number_is = refl; lawful = lawful; may_not = refused })
]

-- on every list of entries some verdict is right
pub some_verdict : (t : Setting) (entries : List Entry) → IsShape t.topology → (verdict : Verdict) × Judges t entries verdict
some_verdict t entries shape = judged_behind t [] entries shape tt
