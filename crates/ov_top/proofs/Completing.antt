-- Completeness: where the world is whole at its end, every command is replied.
use Rattle.std.proofs.Common.{◌≡◌, ◌≢◌, ℕ, ◌<◌, ◌≤◌, ◌^◌, Bool, true, false, List, [], length, Option, Some, None, Ok, refl, sym, ap, subst, ◌∙◌, arith, ◌⊎◌, inl, inr, reverse, ◌==◌}
use Rattle.std.proofs.lemmas.Bool.{cases_Bool, eqb-true, eqb-false}
use Rattle.std.proofs.lemmas.List.{reverse-reverse, length-reverse}
use Rattle.std.specs.Prelude.{if◌then◌else◌}
use Rattle.ov_io.specs.Causes.{Agrees}
use Rattle.ov_topology.specs.Shape.{IsShape, Shape, gates}
use Rattle.ov_topology.proofs.Ranges.{topology_is}
use Rattle.ov_script.specs.Script.{Content, IsScript, script_text}
use Rattle.ov_script.specs.Schedule.{IsSchedule, schedule_text}
use Rattle.ov_script.specs.Sessions.{order_of}
use Rattle.ov_script.specs.declared.step.Step.{Step}
use Rattle.ov_script.proofs.Bounds.{script_roster}
use Rattle.ov_follow.specs.Calm.{all_replied}
use Rattle.ov_follow.specs.Lines.{drive}
use Rattle.ov_follow.specs.Whole.{IsWhole}
use Rattle.ov_follow.proofs.Lawful.{drive_lawful}
use Rattle.ov_complete.proofs.Ending.{calm_replies}
use Rattle.ov_complete.proofs.Few.{run_few}
use Rattle.ov_complete.proofs.Scripts.{script_commands, script_order, script_own}
use Rattle.ov_world.specs.World.{setting_by}
use Rattle.ov_world.specs.declared.story.Story.{Story}
use Rattle.ov_journal.proofs.Judging.{lawful_judged}
use Rattle.ov_journal.specs.Audit.{Judges}
use Rattle.ov_journal.specs.Journal.{journal_text}
use Rattle.ov_journal.specs.declared.verdict.Verdict.TheVariants as verdicts
use Rattle.ov_top.specs.declared.names.Task.{Task}
use Rattle.ov_top.specs.declared.names.Task.TheVariants.{Follow, Judge}
use Rattle.ov_top.specs.declared.prepare.Third.TheVariants as thirds
use Rattle.ov_top.specs.Names.{Names, third_word}
use Rattle.ov_top.specs.Form.{accept_script, accept_third, accept_topology, accepted_as}
use Rattle.ov_top.specs.Ending.{Ending, at_third, done, ended, history_status, judged, limit, run_of, verdict_status}
use Rattle.ov_top.specs.Causes.{Told, Counts, Comes, Ends}
use Rattle.ov_top.specs.Headline.{InForm, InLawfulForm, IsShort, IsWholeAtEnd, NoneRose, TextsInForm, Waits}
use Rattle.ov_top.proofs.Endings.{MeantFor, at_script_goes, at_third_goes, at_topology_goes}
use Rattle.ov_journal.specs.declared.verdict.Verdict.{Verdict}
use Rattle.ov_top.proofs.Forms.{journal_said, schedule_said, schedule_says, script_said, script_says, topology_again, topology_takes}
use Rattle.ov_top.proofs.Headlines.{RanStep, audit_status, ran_where, step_story}

-- a run over a world that is whole at its end replies to every command
pub run_replies : (topology : Shape) (script : Content) (schedule : List Step) → IsShape topology → IsScript script → script.gateways ≡ gates topology → IsSchedule schedule
    → IsWhole topology (run_of topology script schedule) → length (run_of topology script schedule) < 2 ^ 64
    → all_replied (setting_by topology script) (run_of topology script schedule) ≡ true
run_replies topology script schedule shape form gateways steps whole short =
    let t = setting_by topology script in
    calm_replies t (order_of script.lines) (drive t [] schedule) (record {
      run = (shape, drive_lawful t schedule [] shape tt);
      roster = script_roster script form;
      own = λ s plan there. subst (λ (n : ℕ). plan.gate < n) gateways (script_own script form s plan there);
      order_is = script_order script form;
      whole = whole;
      few = run_few t schedule shape steps.few (script_commands script t form refl);
      short = short;
    })

waits_by : (b : Bool) → ◌≡◌ {A = ℕ} 1 (if b then 0 else 1) → b ≡ false
waits_by true e = absurd (omega arith)
waits_by false e = refl

-- the verdict on a journal has not the status 1
verdict_not_one : (verdict : Verdict) → verdict_status verdict ≡ 1 → ⊥
verdict_not_one verdicts.Lawful is = omega (arith, is)
verdict_not_one (verdicts.Refused number) is = omega (arith, is)

-- a run after which some command waits is over a world that is not whole
step_waits : (told : Told) (words : Option Names) (end : Ending) (story : Story) → RanStep told words end → story ≡ end.story → IsShort story → end.status ≡ 1 → Waits story
step_waits told words end story r same short one =
    let run = run_of r.topology r.script r.schedule in
    let is = step_story told words end story r same in
    let back : reverse story.entries ≡ run = ap (λ (x : Story). reverse x.entries) is ∙ reverse-reverse run in
    let says : history_status r.topology r.script run ≡ 1 = ap (λ (x : Ending). x.status) r.is ∙ one in
    let waiting : all_replied (setting_by r.topology r.script) run ≡ false = waits_by (all_replied (setting_by r.topology r.script) run) (sym says) in
    let few : length run < 2 ^ 64 = subst (λ (n : ℕ). n < 2 ^ 64) (sym (length-reverse story.entries) ∙ ap length back) short in
    let script = script_says (gates r.topology) r.comes.files.script r.script r.script_is in
    let schedule = schedule_says r.comes.files.third r.schedule r.schedule_is in
    record {
      topology = r.topology;
      script = r.script;
      has = record { topology_is = ap (λ (x : Story). x.topology) is; script_is = ap (λ (x : Story). x.script) is };
      waiting = rw back waiting;
      broken = λ whole. let all = run_replies r.topology r.script r.schedule (topology_is r.comes.files.topology r.topology (topology_takes r.comes.files.topology r.topology r.topology_is)) script.form script.gates_are schedule.0
          (rw back at whole) few in
          absurd (let bad : true ≡ false = sym all ∙ waiting in cc);
    }

-- at 1 some command is not replied, and the world is not whole
pub waits_files : (told : Told) (counts now : Counts) (words : Option Names) (status : ℕ) (story : Story) (old new : Option (List ℕ)) → Ends (MeantFor told counts now words) status story old new → IsShort story
    → status ≡ 1 → Waits story
waits_files told counts now words status story old new e short one =
    let eight : status ≢ 8 = λ h. omega (arith, h, one) in
    let nine : status ≢ 9 = λ h. omega (arith, h, one) in
    let is : e.end.status ≡ 1 = sym (e.came.status_is eight nine) ∙ one in
    elim (ran_where told counts now words e.end e.meant (omega (arith, is))) [
      | inl r ↦ step_waits told words e.end story r (e.came.story_is nine) short is
      | inr r ↦ absurd (verdict_not_one r.comes.verdict (audit_status told words e.end r ∙ is))
    ]

agrees_told : (told : Option (List ℕ)) (bytes content : List ℕ) → told ≡ Some content → Agrees told bytes → bytes ≡ content
agrees_told None bytes content is agrees = absurd cc
agrees_told (Some known) bytes content is agrees = let same : known ≡ content = cc in agrees ∙ same

-- with a topology and a script in form the order of work comes to the third file
third_meant : (told : Told) (names : Names) (end : Ending) (f : TextsInForm told names) (comes : Comes told names end) → at_third names comes.files comes.verdict f.shape f.script ≡ end
third_meant told names end f comes =
    let topology : comes.files.topology ≡ f.topology = agrees_told (told names.topology) comes.files.topology f.topology f.topology_told comes.agree.topology in
    let script : comes.files.script ≡ script_text f.script.lines = agrees_told (told names.script) comes.files.script (script_text f.script.lines) f.script_told comes.agree.script in
    sym (at_topology_goes names comes.files comes.verdict f.shape (rw topology f.topology_short) (rw topology (topology_again f.topology f.shape f.topology_is))
    ∙ at_script_goes names comes.files comes.verdict f.shape f.script (rw script f.script_short) (rw (script, ← f.script_gates) (script_said f.script f.script_form)))
    ∙ comes.is

-- the texts are accepted
texts_accepted : (told : Told) (names : Names) (end : Ending) (f : TextsInForm told names) (comes : Comes told names end)
    → (accept_topology comes.files.topology ≡ Ok f.shape) × (accept_script (gates f.shape) comes.files.script ≡ Ok f.script)
texts_accepted told names end f comes =
    let topology : comes.files.topology ≡ f.topology = agrees_told (told names.topology) comes.files.topology f.topology f.topology_told comes.agree.topology in
    let script : comes.files.script ≡ script_text f.script.lines = agrees_told (told names.script) comes.files.script (script_text f.script.lines) f.script_told comes.agree.script in
    (rw topology (topology_again f.topology f.shape f.topology_is), rw (script, ← f.script_gates) (script_said f.script f.script_form))

-- the order of work comes to the run
step_meant : {words : Option Names} (told : Told) (end : Ending) (f : InForm told words) → Comes told f.names end → end ≡ done f.journal f.texts.shape f.texts.script f.schedule
step_meant told end f comes =
    let bytes : comes.files.third ≡ schedule_text f.schedule = agrees_told (told f.names.third) comes.files.third (schedule_text f.schedule) f.schedule_told comes.agree.third in
    let said : accept_third (Follow f.journal) (schedule_text f.schedule) ≡ Ok (thirds.Schedule f.schedule) = ap (accepted_as thirds.Schedule) (schedule_said f.schedule f.schedule_form) in
    let accepts : accept_third f.names.task comes.files.third ≡ Ok (thirds.Schedule f.schedule) = rw (f.task_is, bytes) said in
    let short : length comes.files.third ≤ limit (third_word f.names.task) = rw (f.task_is, bytes) f.schedule_short in
    sym (third_meant told f.names end f.texts comes)
    ∙ at_third_goes f.names comes.files comes.verdict f.texts.shape f.texts.script (thirds.Schedule f.schedule) short accepts
    ∙ ap (λ (task : Task). ended task comes.verdict f.texts.shape f.texts.script (thirds.Schedule f.schedule)) f.task_is

-- the order of work comes to the verdict
judge_meant : {words : Option Names} (told : Told) (end : Ending) (f : InLawfulForm told words) → Comes told f.names end → end ≡ judged f.texts.shape f.texts.script f.entries verdicts.Lawful
judge_meant told end f comes =
    let bytes : comes.files.third ≡ journal_text f.entries = agrees_told (told f.names.third) comes.files.third (journal_text f.entries) f.journal_told comes.agree.third in
    let said : accept_third Judge (journal_text f.entries) ≡ Ok (thirds.Journal f.entries) = ap (accepted_as thirds.Journal) (journal_said f.entries f.lines) in
    let accepts : accept_third f.names.task comes.files.third ≡ Ok (thirds.Journal f.entries) = rw (f.task_is, bytes) said in
    let short : length comes.files.third ≤ limit (third_word f.names.task) = rw (f.task_is, bytes) f.journal_short in
    let texts = texts_accepted told f.names end f.texts comes in
    let right : Judges (setting_by f.texts.shape f.texts.script) f.entries comes.verdict = comes.right f.texts.shape f.texts.script (thirds.Journal f.entries) texts.0 texts.1 accepts in
    let lawful : comes.verdict ≡ verdicts.Lawful = lawful_judged (setting_by f.texts.shape f.texts.script) f.entries comes.verdict f.lawful right in
    sym (third_meant told f.names end f.texts comes)
    ∙ at_third_goes f.names comes.files comes.verdict f.texts.shape f.texts.script (thirds.Journal f.entries) short accepts
    ∙ ap (judged f.texts.shape f.texts.script f.entries) lawful

-- what is meant with files in form of which no read failed is a run
run_meant : (told : Told) (counts now : Counts) (words : Option Names) (end : Ending) (f : InForm told words) → NoneRose counts now words → MeantFor told counts now words end
    → end ≡ done f.journal f.texts.shape f.texts.script f.schedule
run_meant told counts now None end f none meant = absurd (let bad = f.words_are in cc)
run_meant told counts now (Some names) end f none (inr faulted) = absurd (none names faulted.word refl faulted.rose)
run_meant told counts now (Some names) end f none (inl comes) =
    let same : names ≡ f.names = let is = f.words_are in cc in
    step_meant told end f (subst (λ (n : Names). Comes told n end) same comes)

-- what is meant with files in form of which no read failed is the verdict that the entries are lawful
audit_meant : (told : Told) (counts now : Counts) (words : Option Names) (end : Ending) (f : InLawfulForm told words) → NoneRose counts now words → MeantFor told counts now words end
    → end ≡ judged f.texts.shape f.texts.script f.entries verdicts.Lawful
audit_meant told counts now None end f none meant = absurd (let bad = f.words_are in cc)
audit_meant told counts now (Some names) end f none (inr faulted) = absurd (none names faulted.word refl faulted.rose)
audit_meant told counts now (Some names) end f none (inl comes) =
    let same : names ≡ f.names = let is = f.words_are in cc in
    judge_meant told end f (subst (λ (n : Names). Comes told n end) same comes)

low_or_one : (b : Bool) → ◌≡◌ {A = ℕ} (if b then 0 else 1) 0 ⊎ ◌≡◌ {A = ℕ} (if b then 0 else 1) 1
low_or_one true = inl refl
low_or_one false = inr refl

-- two numbers are equal or not
pub is_or_not : (n m : ℕ) → (n ≡ m) ⊎ (n ≢ m)
is_or_not n m = elim (cases_Bool (n == m)) [
  | inl same ↦ inl (eqb-true n m same)
  | inr differs ↦ inr (eqb-false n m differs)
]

-- with words and files in form, no risen count and a world that is whole at its end, the status of `step` is 0 or, out of memory, 9
pub completes_files : (told : Told) (counts now : Counts) (words : Option Names) (status : ℕ) (story : Story) (old new : Option (List ℕ)) → Ends (MeantFor told counts now words) status story old new → IsShort story
    → InForm told words → NoneRose counts now words → status ≢ 8 → IsWholeAtEnd story → (status ≡ 0) ⊎ (status ≡ 9)
completes_files told counts now words status story old new e short f none eight whole =
    elim (is_or_not status 9) [
      | inl nine ↦ inr nine
      | inr nine ↦
          let is : status ≡ history_status f.texts.shape f.texts.script (run_of f.texts.shape f.texts.script f.schedule) =
          e.came.status_is eight nine ∙ ap (λ (x : Ending). x.status) (run_meant told counts now words e.end f none e.meant) in
          elim (low_or_one (all_replied (setting_by f.texts.shape f.texts.script) (run_of f.texts.shape f.texts.script f.schedule))) [
            | inl zero ↦ inl (is ∙ zero)
            | inr one ↦ let w = waits_files told counts now words status story old new e short (is ∙ one) in absurd (w.broken (whole w.topology w.has.topology_is))
          ]
    ]

-- with words and files in form, a journal of lawful entries and no risen count, the status of `audit` is 0 or, out of memory, 9
pub accepts_files : (told : Told) (counts now : Counts) (words : Option Names) (status : ℕ) (story : Story) (old new : Option (List ℕ)) → Ends (MeantFor told counts now words) status story old new
    → InLawfulForm told words → NoneRose counts now words → status ≢ 8 → (status ≡ 0) ⊎ (status ≡ 9)
accepts_files told counts now words status story old new e f none eight = elim (is_or_not status 9) [
  | inl nine ↦ inr nine
  | inr nine ↦ inl (e.came.status_is eight nine ∙ ap (λ (x : Ending). x.status) (audit_meant told counts now words e.end f none e.meant))
]
