-- Readers: steps that may give nothing, and the clause `Reads` from the two laws of a spelling.
use Rattle.std.proofs.Common.{◌≡◌, ℕ, Bool, true, false, cond, List, Option, Some, None, refl, sym, ap, ◌∙◌, inl, inr}
use Rattle.std.specs.Str.{bytes_eq}
use Rattle.std.proofs.lemmas.Bool.{cases_Bool}
use Rattle.std.proofs.lemmas.Slice.Eq.{bytes_eq-Decides}
use Rattle.ov_base.specs.Word.{◌>>=◌, Reads}

-- what follows from the value of a step that gave one
pub bind_some : {A B P : Type 0} (o : Option A) (f : A → Option B) (y : B) → (o >>= f) ≡ Some y → ((x : A) → o ≡ Some x → f x ≡ Some y → P) → P
bind_some None f y e k = absurd cc
bind_some (Some x) f y e k = k x refl e

-- a test of a word, and what it then is
pub word_is : (word text : List ℕ) → bytes_eq word text ≡ true → word ≡ text
word_is word text e = (bytes_eq-Decides word text).0 e

-- a choice that gave a value
pub chosen : {A : Type 0} (b : Bool) (o : Option A) (y : A) → cond b o None ≡ Some y → (b ≡ true) × (o ≡ Some y)
chosen true o y e = (refl, e)
chosen false o y e = absurd cc

-- a choice of two that gave a value
pub either : {A P : Type 0} (b : Bool) (o other : Option A) (y : A) → cond b o other ≡ Some y → (b ≡ true → o ≡ Some y → P) → (other ≡ Some y → P) → P
either true o other y e f g = f refl e
either false o other y e f g = g e

-- a word that is read is not a word that is not
pub words_differ : {A : Type 0} (f : List ℕ → Option A) (word other : List ℕ) (v : A) → f word ≡ Some v → f other ≡ None → bytes_eq word other ≡ false
words_differ f word other v e none =
    elim (cases_Bool (bytes_eq word other)) [
      | inl same ↦ let h : f other ≡ Some v = ap f (sym (word_is word other same)) ∙ e in absurd cc
      | inr apart ↦ apart
    ]

reads_by_cases : {A : Type 0} (f : List ℕ → Option A) (text : A → List ℕ) (Fits : A → Type 0)
    → ((v : A) → Fits v → f (text v) ≡ Some v) → (bs : List ℕ) (r : Option A) → f bs ≡ r → ((v : A) → f bs ≡ Some v → Fits v × (bs ≡ text v)) → Reads text Fits bs r
reads_by_cases f text Fits again bs (Some v) e takes = takes v e
reads_by_cases f text Fits again bs None e takes = λ v fits is. let h : f bs ≡ Some v = ap f is ∙ again v fits in absurd cc

-- a reader by its two laws
pub reads_by_laws : {A : Type 0} (f : List ℕ → Option A) (text : A → List ℕ) (Fits : A → Type 0)
    → ((v : A) → Fits v → f (text v) ≡ Some v) → ((bs : List ℕ) (v : A) → f bs ≡ Some v → Fits v × (bs ≡ text v)) → (bs : List ℕ) → Reads text Fits bs (f bs)
reads_by_laws f text Fits again takes bs = reads_by_cases f text Fits again bs (f bs) refl (takes bs)
