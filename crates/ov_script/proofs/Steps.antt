-- A step that is read is written so, and what is written is read again.
use Rattle.std.proofs.Common.{◌≡◌, ℕ, true, List, ◌∷◌, ◌++◌, Some, refl, ap, subst, ◌∙◌, arith, codes}
use Rattle.std.specs.Fmt.{decimal}
use Rattle.std.specs.Str.{bytes_eq}
use Rattle.ov_base.specs.Word.{itself}
use Rattle.ov_base.specs.Split.{cut_at, lacks}
use Rattle.ov_base.specs.Number.{number_of, IsWord64}
use Rattle.ov_base.proofs.Readers.{bind_some, word_is, chosen, either}
use Rattle.ov_base.proofs.Numbers.{number_again, number_takes}
use Rattle.ov_base.proofs.Splits.{cut_takes, pair_again, pair_takes, decimal_lacks, lacks_appended}
use Rattle.ov_topology.specs.Actor.{IsActor, IsGate, IsSettler, actor_text, gate_text, settler_text, actor_of, gate_of, settler_of}
use Rattle.ov_topology.specs.Mode.{IsMode, mode_text, mode_of}
use Rattle.ov_topology.specs.Place.{IsPlace, place_text, place_of}
use Rattle.ov_topology.proofs.Actors.{gate_again, gate_takes, gate_lacks, settler_again, settler_takes, settler_lacks, actor_again, actor_takes, actor_lacks}
use Rattle.ov_topology.proofs.Modes.{mode_again, mode_takes, mode_lacks}
use Rattle.ov_topology.proofs.Places.{place_again, place_takes, place_lacks}
use Rattle.ov_session.specs.Name.{IsName, name_of}
use Rattle.ov_session.proofs.Names.{name_again, name_takes, name_lacks_space, name_lacks_newline}
use Rattle.ov_script.specs.Step.{IsStep, step_text, begin_of, take_of, publish_of, ask_of, settle_of, stop_of, verb_of, step_of}
use Rattle.ov_script.specs.declared.step.Step.{Step}
use Rattle.ov_script.specs.declared.step.Step.TheVariants.{Begin, Take, Publish, Ask, Settle, Stop}

-- ---- what is written is read again

-- the text of a step in form is read as that step
pub step_again : (step : Step) → IsStep step → step_of (step_text step) ≡ Some step
unfolding step_of
step_again (Begin session clock) h =
    pair_again 32 name_of number_of Begin session (decimal clock) session clock (name_lacks_space session h.0) (name_again session h.0) (number_again clock h.1)
step_again (Take actor place) h =
    pair_again 32 actor_of place_of Take (actor_text actor) (place_text place) actor place (actor_lacks 32 actor (omega arith) h.0) (actor_again actor h.0) (place_again place h.1)
step_again (Publish gate clock) h =
    pair_again 32 gate_of number_of Publish (gate_text gate) (decimal clock) gate clock (gate_lacks 32 gate (omega arith) h.0) (gate_again gate h.0) (number_again clock h.1)
step_again (Ask settler mode) h =
    pair_again 32 settler_of mode_of Ask (settler_text settler) (mode_text mode) settler mode (settler_lacks 32 settler (omega arith) h) (settler_again settler h) (mode_again mode tt)
step_again (Settle settler) h = rw (settler_again settler h) refl
step_again (Stop actor) h = rw (actor_again actor h) refl

-- ---- what is read is written so

-- a step of a text behind its first word
abbrev Spells : List ℕ → List ℕ → Step → Type 0
Spells verb rest step = IsStep step × (verb ++ 32 ∷ rest ≡ step_text step)

begin_takes : (rest : List ℕ) (step : Step) → begin_of rest ≡ Some step → Spells (codes "begin") rest step
begin_takes rest step e =
    let p = pair_takes 32 name_of number_of Begin IsName IsWord64 itself decimal name_takes number_takes rest step e in
    subst (Spells (codes "begin") rest) p.made ((p.fits_one, p.fits_other), ap (λ (t : List ℕ). codes "begin" ++ 32 ∷ t) p.spelled)

take_takes : (rest : List ℕ) (step : Step) → take_of rest ≡ Some step → Spells (codes "take") rest step
take_takes rest step e =
    let p = pair_takes 32 actor_of place_of Take IsActor IsPlace actor_text place_text actor_takes place_takes rest step e in
    subst (Spells (codes "take") rest) p.made ((p.fits_one, p.fits_other), ap (λ (t : List ℕ). codes "take" ++ 32 ∷ t) p.spelled)

publish_takes : (rest : List ℕ) (step : Step) → publish_of rest ≡ Some step → Spells (codes "publish") rest step
publish_takes rest step e =
    let p = pair_takes 32 gate_of number_of Publish IsGate IsWord64 gate_text decimal gate_takes number_takes rest step e in
    subst (Spells (codes "publish") rest) p.made ((p.fits_one, p.fits_other), ap (λ (t : List ℕ). codes "publish" ++ 32 ∷ t) p.spelled)

ask_takes : (rest : List ℕ) (step : Step) → ask_of rest ≡ Some step → Spells (codes "ask") rest step
ask_takes rest step e =
    let p = pair_takes 32 settler_of mode_of Ask IsSettler IsMode settler_text mode_text settler_takes mode_takes rest step e in
    subst (Spells (codes "ask") rest) p.made (p.fits_one, ap (λ (t : List ℕ). codes "ask" ++ 32 ∷ t) p.spelled)

settle_takes : (rest : List ℕ) (step : Step) → settle_of rest ≡ Some step → Spells (codes "settle") rest step
settle_takes rest step e =
    bind_some (settler_of rest) _ step e λ settler named last.
    let q : ◌≡◌ {A = Step} (Settle settler) step = cc in
    let s = settler_takes rest settler named in
    subst (Spells (codes "settle") rest) q (s.0, rw s.1 refl)

stop_takes : (rest : List ℕ) (step : Step) → stop_of rest ≡ Some step → Spells (codes "stop") rest step
stop_takes rest step e =
    bind_some (actor_of rest) _ step e λ actor named last.
    let q : ◌≡◌ {A = Step} (Stop actor) step = cc in
    let a = actor_takes rest actor named in
    subst (Spells (codes "stop") rest) q (a.0, rw a.1 refl)

-- the same behind a word that is tested
behind : (verb word rest : List ℕ) (step : Step) → bytes_eq verb word ≡ true → Spells word rest step → Spells verb rest step
behind verb word rest step t h = (h.0, ap (λ (w : List ℕ). w ++ 32 ∷ rest) (word_is verb word t) ∙ h.1)

verb_takes : (verb rest : List ℕ) (step : Step) → verb_of verb rest ≡ Some step → Spells verb rest step
verb_takes verb rest step e =
    either (bytes_eq verb (codes "begin")) (begin_of rest) _ step e (λ t h. behind verb (codes "begin") rest step t (begin_takes rest step h)) λ e2.
    either (bytes_eq verb (codes "take")) (take_of rest) _ step e2 (λ t h. behind verb (codes "take") rest step t (take_takes rest step h)) λ e3.
    either (bytes_eq verb (codes "publish")) (publish_of rest) _ step e3 (λ t h. behind verb (codes "publish") rest step t (publish_takes rest step h)) λ e4.
    either (bytes_eq verb (codes "ask")) (ask_of rest) _ step e4 (λ t h. behind verb (codes "ask") rest step t (ask_takes rest step h)) λ e5.
    either (bytes_eq verb (codes "settle")) (settle_of rest) _ step e5 (λ t h. behind verb (codes "settle") rest step t (settle_takes rest step h)) λ e6.
    let c = chosen (bytes_eq verb (codes "stop")) (stop_of rest) step e6 in
    behind verb (codes "stop") rest step c.0 (stop_takes rest step c.1)

-- a step that is read is in form, and its bytes are its text
pub step_takes : (text : List ℕ) (step : Step) → step_of text ≡ Some step → IsStep step × (text ≡ step_text step)
unfolding step_of
step_takes text step e =
    bind_some (cut_at 32 text) _ step e λ words cut rest.
    let s = verb_takes words.0 words.1 step rest in
    (s.0, cut_takes 32 text words.0 words.1 cut ∙ s.1)

-- ---- no step has a line feed in it

-- the text of a step in form has no line feed
pub step_lacks : (step : Step) → IsStep step → lacks 10 (step_text step) ≡ true
step_lacks (Begin session clock) h = lacks_appended 10 session (32 ∷ decimal clock) (name_lacks_newline session h.0) (decimal_lacks 10 clock (omega arith) h.1)
step_lacks (Take actor place) h = lacks_appended 10 (actor_text actor) (32 ∷ place_text place) (actor_lacks 10 actor (omega arith) h.0) (place_lacks 10 place (omega arith) h.1)
step_lacks (Publish gate clock) h = lacks_appended 10 (gate_text gate) (32 ∷ decimal clock) (gate_lacks 10 gate (omega arith) h.0) (decimal_lacks 10 clock (omega arith) h.1)
step_lacks (Ask settler mode) h = lacks_appended 10 (settler_text settler) (32 ∷ mode_text mode) (settler_lacks 10 settler (omega arith) h) (mode_lacks mode)
step_lacks (Settle settler) h = settler_lacks 10 settler (omega arith) h
step_lacks (Stop actor) h = actor_lacks 10 actor (omega arith) h
