-- Passes over the entries of a history: the lines for the first entries, and up to where there is none.
use Rattle.std.proofs.Common.{◌≡◌, ℕ, ◌+◌, ◌<◌, ◌≤◌, List, [], ◌∷◌, ◌++◌, length, take, get_or, map, refl, sym, ap, ◌∙◌, arith, inl, inr}
use Rattle.std.specs.Prelude.{reverse}
use Rattle.std.proofs.lemmas.Bool.{cases_lt}
use Rattle.std.proofs.lemmas.List.{take_more, take_all, take-append-le, length-take-le, length-reverse, reverse-reverse, reverse-append}
use Rattle.ov_event.specs.declared.entry.Entry.{Entry}
use Rattle.ov_history.specs.Past.{History}
use Rattle.ov_history.specs.May.{Setting}
use Rattle.ov_follow.specs.Lines.{Line}
use Rattle.ov_follow.specs.Passes.{gather}
use Rattle.ov_world.proofs.Numbered.{reverse_more}
use Rattle.ov_step.specs.Gathered.{Lister, NothingUpTo, IsClear, Stays}
use Rattle.ov_step.specs.Quiet.{none_both}

-- ---- the first entries

-- with one entry more
first_more : (entries : List Entry) (place : ℕ) (e : Entry) → place < length entries → e ≡ get_or entries place e
    → reverse (take (place + 1) entries) ≡ e ∷ reverse (take place entries)
first_more entries place e less is = rw (take_more entries place e less, sym is) (reverse_more (take place entries) e)

-- how many they are
first_length : (entries : List Entry) (place : ℕ) → place ≤ length entries → length (reverse (take place entries)) ≡ place
first_length entries place within = length-reverse (take place entries) ∙ length-take-le place entries within

-- the lines for one entry more
pub gather_more : (f : ℕ → Entry → List Line) (entries : List Entry) (place : ℕ) (e : Entry) (before after : List Line)
    → place < length entries → e ≡ get_or entries place e → before ≡ gather f (reverse (take place entries)) → after ≡ before ++ f (place + 1) e → after ≡ gather f (reverse (take (place + 1) entries))
gather_more f entries place e before after less is gathered listed =
    let within : place ≤ length entries = omega (arith, less) in
    rw (listed, gathered, first_more entries place e less is, first_length entries place within) refl

-- the lines for all entries
pub gather_all : (f : ℕ → Entry → List Line) (entries : List Entry) (h : History) (place : ℕ) → entries ≡ reverse h → length entries ≤ place
    → gather f (reverse (take place entries)) ≡ gather f h
gather_all f entries h place are all = rw (take_all place entries all, are, reverse-reverse h) refl

-- ---- no lines

-- where no entry up to a number has a line, which is no less than that of the last one, there is none
none_gathered : (f : ℕ → Entry → List Line) (n : ℕ) (h : History) → length h ≤ n → NothingUpTo f n h → gather f h ≡ []
none_gathered f n [] all nothing = refl
none_gathered f n (e ∷ h) all nothing = rw (none_gathered f n h (omega (arith, all)) nothing.0, nothing.1 (omega (arith, all))) refl

-- and the other way round
gathered_none : (f : ℕ → Entry → List Line) (n : ℕ) (h : History) → gather f h ≡ [] → NothingUpTo f n h
gathered_none f n [] none = tt
gathered_none f n (e ∷ h) none = let parts = none_both (gather f h) (f (length h + 1) e) none in (gathered_none f n h parts.0, λ within. parts.1)

-- the entries in the order in which they came, with one more
in_order : (e : Entry) (h : History) → reverse (e ∷ h) ≡ reverse h ++ e ∷ []
in_order e h = reverse-append (e ∷ []) h

-- the first entries of a history with one more
first_older : (n : ℕ) (e : Entry) (h : History) → n ≤ length h → take n (reverse (e ∷ h)) ≡ take n (reverse h)
first_older n e h within = rw (in_order e h) (take-append-le n (reverse h) (e ∷ []) (omega (arith, within, length-reverse h)))

first_all : (n : ℕ) (h : History) → length h ≤ n → reverse (take n (reverse h)) ≡ h
first_all n h all = rw (take_all n (reverse h) (omega (arith, all, length-reverse h))) (reverse-reverse h)

-- where no entry up to a number has a line, there is none for so many first ones
pub nothing_first : (f : ℕ → Entry → List Line) (n : ℕ) (h : History) → NothingUpTo f n h → gather f (reverse (take n (reverse h))) ≡ []
nothing_first f n [] nothing = rw (first_all n [] (omega arith)) refl
nothing_first f n (e ∷ h) nothing =
    elim (cases_lt (length h) n) [
      | inl past ↦ rw (first_all n (e ∷ h) (omega (arith, past))) (none_gathered f n (e ∷ h) (omega (arith, past)) nothing)
      | inr within ↦ rw (first_older n e h within) (nothing_first f n h nothing.0)
    ]

-- and the other way round
pub first_nothing : (f : ℕ → Entry → List Line) (n : ℕ) (h : History) → gather f (reverse (take n (reverse h))) ≡ [] → NothingUpTo f n h
first_nothing f n [] none = tt
first_nothing f n (e ∷ h) none =
    elim (cases_lt (length h) n) [
      | inl past ↦ gathered_none f n (e ∷ h) (rw (first_all n (e ∷ h) (omega (arith, past))) at none)
      | inr within ↦ (first_nothing f n h (rw (first_older n e h within) at none), λ more. absurd (omega (arith, more, within)))
    ]

-- ---- clear passes

-- of no line there is none of the definitions
none_mapped : {A B : Type 0} (f : A → B) (xs : List A) → length xs ≡ 0 → map f xs ≡ []
none_mapped f [] none = refl
none_mapped f (x ∷ xs) none = absurd (omega (arith, none))

-- up to the number of an entry, where no line is listed for it and those before
pub clear_to : {A : Type 0} (line : A → Line) (f : Lister) (t : Setting) (h : History) (entries : List Entry) (place : ℕ) (lines : List A)
    → entries ≡ reverse h → place < length entries → map line lines ≡ gather (f t h) (reverse (take (place + 1) entries)) → length lines ≡ 0 → IsClear f t h (place + 1)
clear_to line f t h entries place lines are less gathered none = record {
  within = omega (arith, less, ap length are, length-reverse h);
  nothing = first_nothing (f t h) (place + 1) h (rw (sym are) (sym gathered ∙ none_mapped line lines none));
}

-- what is clear stays so after one entry more
nothing_stays : (f : Lister) (t : Setting) (h : History) (more : Entry) (n : ℕ) (first : History) → Stays f → NothingUpTo (f t h) n first
    → NothingUpTo (f t (more ∷ h)) n first
nothing_stays f t h more n [] stays nothing = tt
nothing_stays f t h more n (e ∷ first) stays nothing =
    (nothing_stays f t h more n first stays nothing.0, λ within. stays t h more e (length first + 1) (nothing.1 within))

pub clear_stays : (f : Lister) (t : Setting) (h : History) (more : Entry) (n : ℕ) → Stays f → IsClear f t h n → IsClear f t (more ∷ h) n
clear_stays f t h more n stays clear = record {
  within = omega (arith, clear.within);
  nothing = (nothing_stays f t h more n h stays clear.nothing, λ within. absurd (omega (arith, within, clear.within)));
}

-- and after more entries
pub clear_on : (f : Lister) (t : Setting) (h more : History) (n : ℕ) → Stays f → IsClear f t h n → IsClear f t (more ++ h) n
clear_on f t h [] n stays clear = clear
clear_on f t h (e ∷ more) n stays clear = clear_stays f t (more ++ h) e n stays (clear_on f t h more n stays clear)
