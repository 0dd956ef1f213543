-- A mode that is read is written so, and what is written is read again.
use Rattle.std.proofs.Common.{◌≡◌, ℕ, true, List, Some, refl, subst, codes}
use Rattle.std.specs.Str.{bytes_eq}
use Rattle.ov_base.specs.Split.{lacks}
use Rattle.ov_base.proofs.GroupTexts.{IsGrouped}
use Rattle.ov_base.proofs.Readers.{word_is, chosen, either}
use Rattle.ov_topology.specs.Mode.{IsMode, mode_text, mode_of}
use Rattle.ov_topology.specs.declared.mode.Mode.{Mode}
use Rattle.ov_topology.specs.declared.mode.Mode.TheVariants.{Quorum, One}

pub mode_again : (mode : Mode) → IsMode mode → mode_of (mode_text mode) ≡ Some mode
mode_again Quorum h = refl
mode_again One h = refl

pub mode_takes : (word : List ℕ) (mode : Mode) → mode_of word ≡ Some mode → IsMode mode × (word ≡ mode_text mode)
mode_takes word mode e =
    either (bytes_eq word (codes "quorum")) (Some Quorum) _ mode e
    (λ t h. let q : ◌≡◌ {A = Mode} Quorum mode = cc in (tt, subst (λ (m : Mode). word ≡ mode_text m) q (word_is word (codes "quorum") t)))
    λ h. let c = chosen (bytes_eq word (codes "one")) (Some One) mode h in
    let q : ◌≡◌ {A = Mode} One mode = cc in
    (tt, subst (λ (m : Mode). word ≡ mode_text m) q (word_is word (codes "one") c.0))

-- the word of a mode has no line feed
pub mode_lacks : (mode : Mode) → lacks 10 (mode_text mode) ≡ true
mode_lacks Quorum = refl
mode_lacks One = refl

-- the word of a mode can stand in a group of a line
pub mode_grouped : (mode : Mode) → IsGrouped (mode_text mode)
mode_grouped Quorum = record { space = refl; line = refl; apart = refl }
mode_grouped One = record { space = refl; line = refl; apart = refl }
