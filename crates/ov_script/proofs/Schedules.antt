-- A schedule that is read is in form and written so, and what is written is read again.
use Rattle.std.proofs.Common.{◌≡◌, ℕ, ◌+◌, ◌≤◌, ltb, List, [], ◌∷◌, ◌++◌, length, Option, Some, None, Result, Ok, Err, refl, arith, inl, inr}
use Rattle.std.specs.List.{AllByRecursion}
use Rattle.std.proofs.lemmas.Bool.{cases_Bool, ltb-false, le-ltb}
use Rattle.ov_script.specs.Step.{IsStep, step_of, step_text}
use Rattle.ov_script.specs.Schedule.{most_steps, IsSchedule, schedule_text, step_read, line_read, unended, schedule_of}
use Rattle.ov_script.specs.declared.step.Step.{Step}
use Rattle.ov_script.specs.declared.fault.ScheduleFault.{ScheduleFault}
use Rattle.ov_script.specs.declared.fault.ScheduleFault.TheVariants.{Lines}
use Rattle.ov_base.proofs.LineTexts.{Follows, follows_each, follows_few, Adds, text_takes, text_again}
use Rattle.ov_script.proofs.Steps.{step_again, step_takes, step_lacks}

-- a step on line k
abbrev Fits : List Step → ℕ → Step → Type 0
Fits before k step = (k ≤ most_steps) × IsStep step

-- ---- what is read

read_takes : (before : List Step) (k : ℕ) (text : List ℕ) (after : List Step) (o : Option Step) → k ≤ most_steps → step_of text ≡ o → step_read before o ≡ Ok after
    → Adds step_text Fits before k text after
read_takes before k text after None low is e = absurd cc
read_takes before k text after (Some step) low is e =
    let s = step_takes text step is in
    record { item = step; fits = (low, s.0); added = cc; spelled = s.1 }

line_takes : (before : List Step) (k : ℕ) (text : List ℕ) (after : List Step) → line_read before k text ≡ Ok after → Adds step_text Fits before k text after
line_takes before k text after e =
    elim (cases_Bool (ltb most_steps k)) [
      | inl past ↦ let bad : ◌≡◌ {A = Result (List Step) ScheduleFault} (Err Lines) (Ok after) = rw past at e in absurd cc
      | inr here ↦ read_takes before k text after (step_of text) (ltb-false most_steps k here) refl (rw here at e)
    ]

-- a schedule that is read is in form, and its bytes are its text
pub schedule_takes : (bytes : List ℕ) (steps : List Step) → schedule_of bytes ≡ Ok steps → IsSchedule steps × (bytes ≡ schedule_text steps)
schedule_takes bytes steps e =
    let t = text_takes line_read unended step_text Fits line_takes bytes steps e in
    let few : length steps + 1 ≤ most_steps + 1 = follows_few Fits most_steps (λ before k step h. h.0) [] 1 steps (omega arith) t.0 in
    (record { few = omega arith; each = follows_each Fits IsStep (λ before k step h. h.1) [] 1 steps t.0 }, t.1)

-- ---- what is written is read again

line_again : (before : List Step) (k : ℕ) (step : Step) → Fits before k step → line_read before k (step_text step) ≡ Ok (before ++ step ∷ [])
line_again before k step h = rw (le-ltb most_steps k h.0, step_again step h.1) refl

fits_all : (before : List Step) (k : ℕ) (steps : List Step) → length steps + k ≤ most_steps + 1 → AllByRecursion IsStep steps → Follows Fits before k steps
fits_all before k [] few h = tt
fits_all before k (step ∷ steps) few h = ((omega arith, h.0), fits_all (before ++ step ∷ []) (k + 1) steps (omega arith) h.1)

-- the text of a schedule is read as that schedule
pub schedule_again : (steps : List Step) → IsSchedule steps → schedule_of (schedule_text steps) ≡ Ok steps
schedule_again steps h =
    text_again line_read unended step_text Fits line_again (λ before k step fits. step_lacks step fits.1) steps (fits_all [] 1 steps (omega (arith, h.few)) h.each)
