-- The headline of the top call, from how the call ended.
use Rattle.std.proofs.Common.{◌≡◌, ◌≢◌, ℕ, ◌≤◌, Bool, true, false, cond, ltb, List, [], ◌++◌, codes, decimal, length, Option, Some, None, Result, Ok, Err, refl, sym, ap, subst, ◌∙◌, arith, ◌⊎◌, inl, inr, reverse, append_assoc}
use Rattle.std.proofs.lemmas.List.{reverse-reverse}
use Rattle.std.specs.Prelude.{if◌then◌else◌}
use Rattle.ov_io.specs.Causes.{Wrote}
use Rattle.ov_topology.specs.Shape.{Shape, gates}
use Rattle.ov_script.specs.Script.{Content}
use Rattle.ov_script.specs.declared.step.Step.{Step}
use Rattle.ov_event.specs.declared.entry.Entry.{Entry}
use Rattle.ov_history.specs.Past.{History}
use Rattle.ov_follow.specs.Calm.{all_replied}
use Rattle.ov_complete.proofs.Ending.{all_once}
use Rattle.ov_world.specs.World.{setting_by}
use Rattle.ov_world.specs.declared.story.Story.{Story}
use Rattle.ov_top.specs.declared.refusal.FormFault.{FormFault}
use Rattle.ov_history.specs.May.{Lawful}
use Rattle.ov_world.specs.Judging.{FirstRefused}
use Rattle.ov_journal.specs.Audit.{Judges}
use Rattle.ov_journal.specs.Journal.{journal_of, journal_text}
use Rattle.ov_journal.specs.declared.verdict.Verdict.{Verdict}
use Rattle.ov_journal.specs.declared.verdict.Verdict.TheVariants as verdicts
use Rattle.ov_top.specs.declared.names.Task.{Task}
use Rattle.ov_top.specs.declared.names.Task.TheVariants.{Follow, Judge}
use Rattle.ov_top.specs.declared.prepare.Third.{Third}
use Rattle.ov_top.specs.declared.refusal.FileWord.{FileWord}
use Rattle.ov_top.specs.declared.refusal.FileWord.TheVariants as word
use Rattle.ov_top.specs.Names.{IsAudit, Names, name_at, third_word}
use Rattle.ov_top.specs.Form.{accept_topology, accept_script, accept_schedule, accept_third, form_status, form_text}
use Rattle.ov_top.specs.Ending.{Files, Ending, IsRightOn, accepted, at_third, at_script, at_topology, done, ended, history_status, history_text, judged, limit, nothing, refused, run_of, story_of, story_with, too_long_text, verdict_status, verdict_text, with_topology, within}
use Rattle.ov_top.specs.Causes.{Told, Counts, Comes, Ends}
use Rattle.ov_top.specs.Headline.{AllOnce, Audited, IsRight, JournalRefused, Performed, Read, ReadFault}
use Rattle.ov_top.proofs.Endings.{MeantFor}
use Rattle.ov_top.proofs.Running.{right_has}
use Rattle.ov_top.proofs.Forms.{SaysJournal, form_stops, journal_faults, journal_says, schedule_says, script_not_six, script_says, third_faults, third_journal, third_not_six, third_schedule, topology_not_six, topology_takes}

-- ---- the order of work, from its end

-- A line of the journal is off the grammar, and its number is the end's text.
pub record OffGrammar (names : Names) (files : Files) (end : Ending) : Type 0 where
  pub task_is : names.task ≡ Judge
  pub line : ℕ
  pub read : journal_of files.third ≡ Err line
  pub text : end.text ≡ codes "journal: line " ++ decimal line ++ codes "\n"

-- Nothing was followed or judged, no read had failed, and the status is 6 only where the journal is off its grammar.
pub record Stopped (names : Names) (files : Files) (end : Ending) : Type 0 where
  pub late : 2 ≤ end.status
  pub not_read : end.status ≢ 7
  pub six : end.status ≡ 6 → OffGrammar names files end

-- The files are in form, and the end is that of the task with them.
pub record Ran (names : Names) (files : Files) (verdict : Verdict) (end : Ending) : Type 0 where
  pub topology : Shape
  pub topology_is : accept_topology files.topology ≡ Ok topology
  pub script : Content
  pub script_is : accept_script (gates topology) files.script ≡ Ok script
  pub third : Third
  pub third_is : accept_third names.task files.third ≡ Ok third
  pub is : ended names.task verdict topology script third ≡ end

cond_cases : {A : Type 0} (b : Bool) (x y z : A) → cond b x y ≡ z → (x ≡ z) ⊎ (y ≡ z)
cond_cases true x y z e = inl e
cond_cases false x y z e = inr e

-- A file of which these bytes are refused, and the end of the order of work there.
record Refused {A : Type 0} (verdict : Result A FormFault) (story : Story) (end : Ending) : Type 0 where
  fault : FormFault
  verdict_is : verdict ≡ Err fault
  is : refused (form_status fault) (form_text fault) story ≡ end

accepted_ends : {A : Type 0} (verdict : Result A FormFault) (story : Story) (next : A → Ending) (end : Ending) → accepted verdict story next ≡ end
    → Refused verdict story end ⊎ ((value : A) × (verdict ≡ Ok value) × (next value ≡ end))
accepted_ends (Ok value) story next end e = inr (value, refl, e)
accepted_ends (Err fault) story next end e = inl (record { fault = fault; verdict_is = refl; is = e })

-- one file on the way: the order of work stops, or goes on with what is accepted of it
file_ends : {A : Type 0} (names : Names) (files : Files) (which : FileWord) (bytes : List ℕ) (verdict : Result A FormFault) (story : Story) (next : A → Ending) (end : Ending)
    → (Refused verdict story end → Stopped names files end) → within names which bytes story (accepted verdict story next) ≡ end
    → Stopped names files end ⊎ ((value : A) × (verdict ≡ Ok value) × (next value ≡ end))
file_ends names files which bytes verdict story next end stops e =
    elim (cond_cases (ltb (limit which) (length bytes)) (refused 10 (too_long_text (name_at names which)) story) (accepted verdict story next) end e) [
      | inl long ↦ inl (subst (Stopped names files) long (record { late = omega arith; not_read = λ h. omega arith; six = λ h. absurd (omega arith) }))
      | inr short ↦ elim (accepted_ends verdict story next end short) [
        | inl refused ↦ inl (stops refused)
        | inr goes ↦ inr goes
      ]
    ]

-- a refusal that is not 6 stops the order of work
stops_before : {A : Type 0} (names : Names) (files : Files) (verdict : Result A FormFault) (story : Story) (end : Ending) → ((fault : FormFault) → verdict ≡ Err fault → form_status fault ≢ 6)
    → Refused verdict story end → Stopped names files end
stops_before names files verdict story end other r =
    let stops = form_stops r.fault in
    subst (Stopped names files) r.is (record { late = stops.0; not_read = stops.1; six = λ h. absurd (other r.fault r.verdict_is h) })

-- a refusal of the third file does
stops_third : (names : Names) (files : Files) (story : Story) (end : Ending) → Refused (accept_third names.task files.third) story end → Stopped names files end
stops_third names files story end r = by names.task refl r.verdict_is
  where
    by : (task : Task) → names.task ≡ task → accept_third task files.third ≡ Err r.fault → Stopped names files end
    by (Follow journal) is refused =
        stops_before names files (accept_third names.task files.third) story end (λ fault e h. third_not_six journal files.third fault (rw is at e) h) r
    by Judge is refused =
        let line = journal_faults files.third r.fault (third_faults files.third r.fault refused) in
        let stops = form_stops r.fault in
        let text : form_text r.fault ≡ codes "journal: line " ++ decimal line.0 ++ codes "\n" = ap form_text line.2 ∙ append_assoc (codes "journal: line ") (decimal line.0) (codes "\n") in
        subst (Stopped names files) r.is (record { late = stops.0; not_read = stops.1; six = λ h. record { task_is = is; line = line.0; read = line.1; text = text } })

-- the order of work stops before the task, or comes to it
work_ends : (names : Names) (files : Files) (verdict : Verdict) (end : Ending) → at_topology names files verdict ≡ end → Stopped names files end ⊎ Ran names files verdict end
work_ends names files verdict end e =
    elim (file_ends names files word.Topology files.topology (accept_topology files.topology) nothing (at_script names files verdict) end
    (stops_before names files (accept_topology files.topology) nothing end (topology_not_six files.topology)) e) [
      | inl stopped ↦ inl stopped
      | inr first ↦ elim (file_ends names files word.Script files.script (accept_script (gates first.0) files.script) (with_topology first.0) (at_third names files verdict first.0) end
          (stops_before names files (accept_script (gates first.0) files.script) (with_topology first.0) end (script_not_six (gates first.0) files.script)) first.2) [
            | inl stopped ↦ inl stopped
            | inr second ↦ elim (file_ends names files (third_word names.task) files.third (accept_third names.task files.third) (story_of first.0 second.0 [])
                (ended names.task verdict first.0 second.0) end (stops_third names files (story_of first.0 second.0 []) end) second.2) [
                  | inl stopped ↦ inl stopped
                  | inr third ↦ inr (record {
                    topology = first.0;
                    topology_is = first.1;
                    script = second.0;
                    script_is = second.1;
                    third = third.0;
                    third_is = third.1;
                    is = third.2;
                  })
                ]
          ]
    ]

-- ---- what was done

-- The end is that of a schedule that was followed.
pub record RanStep (told : Told) (words : Option Names) (end : Ending) : Type 0 where
  pub names : Names
  pub words_are : words ≡ Some names
  pub comes : Comes told names end
  pub journal : Bool
  pub task_is : names.task ≡ Follow journal
  pub topology : Shape
  pub topology_is : accept_topology comes.files.topology ≡ Ok topology
  pub script : Content
  pub script_is : accept_script (gates topology) comes.files.script ≡ Ok script
  pub schedule : List Step
  pub schedule_is : accept_schedule comes.files.third ≡ Ok schedule
  pub is : done journal topology script schedule ≡ end

-- The end is that of a journal that was judged.
pub record RanAudit (told : Told) (words : Option Names) (end : Ending) : Type 0 where
  pub names : Names
  pub words_are : words ≡ Some names
  pub comes : Comes told names end
  pub task_is : names.task ≡ Judge
  pub topology : Shape
  pub topology_is : accept_topology comes.files.topology ≡ Ok topology
  pub script : Content
  pub script_is : accept_script (gates topology) comes.files.script ≡ Ok script
  pub entries : List Entry
  pub journal : SaysJournal comes.files.third entries
  pub right : Judges (setting_by topology script) entries comes.verdict
  pub is : judged topology script entries comes.verdict ≡ end

-- The journal is off its grammar.
pub record Unread (told : Told) (words : Option Names) (end : Ending) : Type 0 where
  pub names : Names
  pub words_are : words ≡ Some names
  pub comes : Comes told names end
  pub off : OffGrammar names comes.files end

-- the task that was come to
ran_as : (told : Told) (names : Names) (end : Ending) (comes : Comes told names end) → Ran names comes.files comes.verdict end → RanStep told (Some names) end ⊎ RanAudit told (Some names) end
ran_as told names end comes ran = by names.task refl
  where
    by : (task : Task) → names.task ≡ task → RanStep told (Some names) end ⊎ RanAudit told (Some names) end
    by (Follow journal) is =
        let schedule = third_schedule journal comes.files.third ran.third (subst (λ (task : Task). accept_third task comes.files.third ≡ Ok ran.third) is ran.third_is) in
        let came : done journal ran.topology ran.script schedule.0 ≡ end =
        sym (ap (λ (t : Third). ended (Follow journal) comes.verdict ran.topology ran.script t) schedule.2)
        ∙ ap (λ (task : Task). ended task comes.verdict ran.topology ran.script ran.third) (sym is) ∙ ran.is in
        inl (record {
          names = names;
          words_are = refl;
          comes = comes;
          journal = journal;
          task_is = is;
          topology = ran.topology;
          topology_is = ran.topology_is;
          script = ran.script;
          script_is = ran.script_is;
          schedule = schedule.0;
          schedule_is = schedule.1;
          is = came;
        })
    by Judge is =
        let journal = third_journal comes.files.third ran.third (subst (λ (task : Task). accept_third task comes.files.third ≡ Ok ran.third) is ran.third_is) in
        let came : judged ran.topology ran.script journal.0 comes.verdict ≡ end =
        sym (ap (λ (t : Third). ended Judge comes.verdict ran.topology ran.script t) journal.2)
        ∙ ap (λ (task : Task). ended task comes.verdict ran.topology ran.script ran.third) (sym is) ∙ ran.is in
        let right : IsRightOn ran.topology ran.script comes.verdict ran.third = comes.right ran.topology ran.script ran.third ran.topology_is ran.script_is ran.third_is in
        inr (record {
          names = names;
          words_are = refl;
          comes = comes;
          task_is = is;
          topology = ran.topology;
          topology_is = ran.topology_is;
          script = ran.script;
          script_is = ran.script_is;
          entries = journal.0;
          journal = journal_says comes.files.third journal.0 journal.1;
          right = subst (IsRightOn ran.topology ran.script comes.verdict) journal.2 right;
          is = came;
        })

-- an end that is neither usage nor a failed read nor another refusal is that of a task, or at 6 of a journal off its grammar
pub came_to : (told : Told) (counts now : Counts) (words : Option Names) (end : Ending) → MeantFor told counts now words end → (end.status ≤ 1) ⊎ (end.status ≡ 6)
    → (RanStep told words end ⊎ RanAudit told words end) ⊎ (Unread told words end × (end.status ≡ 6))
came_to told counts now None end meant some = absurd (let two : 2 ≡ end.status = ap (λ (e : Ending). e.status) meant in not_both two some)
  where
    not_both : 2 ≡ end.status → (end.status ≤ 1) ⊎ (end.status ≡ 6) → ⊥
    not_both two (inl low) = omega (arith, two, low)
    not_both two (inr six) = omega (arith, two, six)
came_to told counts now (Some names) end (inr faulted) some = absurd (let seven : 7 ≡ end.status = ap (λ (e : Ending). e.status) faulted.is in not_both seven some)
  where
    not_both : 7 ≡ end.status → (end.status ≤ 1) ⊎ (end.status ≡ 6) → ⊥
    not_both seven (inl low) = omega (arith, seven, low)
    not_both seven (inr six) = omega (arith, seven, six)
came_to told counts now (Some names) end (inl comes) some =
    elim (work_ends names comes.files comes.verdict end comes.is) [
      | inl stopped ↦ by stopped some
      | inr ran ↦ inl (ran_as told names end comes ran)
    ]
  where
    by : Stopped names comes.files end → (end.status ≤ 1) ⊎ (end.status ≡ 6) → (RanStep told (Some names) end ⊎ RanAudit told (Some names) end) ⊎ (Unread told (Some names) end × (end.status ≡ 6))
    by stopped (inl low) = absurd (omega (arith, stopped.late, low))
    by stopped (inr six) = inr (record { names = names; words_are = refl; comes = comes; off = stopped.six six }, six)

-- an end with a low status is that of a task
pub ran_where : (told : Told) (counts now : Counts) (words : Option Names) (end : Ending) → MeantFor told counts now words end → end.status ≤ 1 → RanStep told words end ⊎ RanAudit told words end
ran_where told counts now words end meant low = elim (came_to told counts now words end meant (inl low)) [
  | inl ran ↦ ran
  | inr unread ↦ absurd (omega (arith, unread.1, low))
]

-- ---- statuses 0 and 1

-- the status of a run is 0 or 1
low_status : (topology : Shape) (script : Content) (h : History) → history_status topology script h ≤ 1
low_status topology script h = by (all_replied (setting_by topology script) h)
  where
    by : (b : Bool) → (if b then 0 else 1) ≤ 1
    by true = omega arith
    by false = omega arith

-- the story of a schedule that was followed
pub step_story : (told : Told) (words : Option Names) (end : Ending) (story : Story) (r : RanStep told words end) → story ≡ end.story → story ≡ story_of r.topology r.script (run_of r.topology r.script r.schedule)
step_story told words end story r same = same ∙ ap (λ (e : Ending). e.story) (sym r.is)

-- the story of a journal that was judged
audit_story : (told : Told) (words : Option Names) (end : Ending) (story : Story) (r : RanAudit told words end) → story ≡ end.story → story ≡ story_with r.topology r.script r.entries
audit_story told words end story r same = same ∙ ap (λ (e : Ending). e.story) (sym r.is)

-- the topology and the script that are accepted are those of the files
read_texts : (files : Files) (topology : Shape) (script : Content) (story : Story) (entries : List Entry) → accept_topology files.topology ≡ Ok topology
    → accept_script (gates topology) files.script ≡ Ok script → story ≡ story_with topology script entries → Read files story
read_texts files topology script story entries first second same =
    let says = script_says (gates topology) files.script script second in
    record {
      topology = topology;
      topology_is = topology_takes files.topology topology first;
      script = script;
      script_form = says.form;
      script_gates = says.gates_are;
      script_is = says.text;
      told_topology = ap (λ (s : Story). s.topology) same;
      told_script = ap (λ (s : Story). s.script) same;
    }

-- a schedule that was followed was performed
step_performed : (told : Told) (words : Option Names) (end : Ending) (story : Story) (old new : Option (List ℕ)) → RanStep told words end → story ≡ end.story → Wrote old new end.text
    → Performed told words story old new
unfolding read_texts
step_performed told words end story old new r same wrote =
    let run = run_of r.topology r.script r.schedule in
    let is = step_story told words end story r same in
    let schedule = schedule_says r.comes.files.third r.schedule r.schedule_is in
    let entries : story.entries ≡ reverse run = ap (λ (s : Story). s.entries) is in
    let back : reverse story.entries ≡ run = ap reverse entries ∙ reverse-reverse run in
    let text : end.text ≡ history_text r.journal r.script (reverse story.entries) = ap (λ (x : Ending). x.text) (sym r.is) ∙ ap (history_text r.journal r.script) (sym back) in
    record {
      names = r.names;
      words_are = r.words_are;
      journal = r.journal;
      task_is = r.task_is;
      files = r.comes.files;
      agree = r.comes.agree;
      read = read_texts r.comes.files r.topology r.script story (reverse run) r.topology_is r.script_is is;
      schedule = r.schedule;
      schedule_form = schedule.0;
      schedule_is = schedule.1;
      entries = entries;
      wrote = subst (Wrote old new) text wrote;
    }

-- a journal that was judged lawful was audited
lawful_audited : (told : Told) (words : Option Names) (end : Ending) (story : Story) (old new : Option (List ℕ)) (r : RanAudit told words end) → r.comes.verdict ≡ verdicts.Lawful → story ≡ end.story
    → Wrote old new end.text → Audited told words story old new
unfolding read_texts
lawful_audited told words end story old new r verdict same wrote =
    let is = audit_story told words end story r same in
    let entries : story.entries ≡ r.entries = ap (λ (s : Story). s.entries) is in
    let right : Judges (setting_by r.topology r.script) r.entries verdicts.Lawful = subst (Judges (setting_by r.topology r.script) r.entries) verdict r.right in
    let text : end.text ≡ verdict_text (length story.entries) verdicts.Lawful =
    ap (λ (x : Ending). x.text) (sym r.is) ∙ ap (verdict_text (length r.entries)) verdict ∙ ap (λ (es : List Entry). verdict_text (length es) verdicts.Lawful) (sym entries) in
    record {
      names = r.names;
      words_are = r.words_are;
      task_is = r.task_is;
      files = r.comes.files;
      agree = r.comes.agree;
      read = read_texts r.comes.files r.topology r.script story r.entries r.topology_is r.script_is is;
      journal_is = r.journal.text ∙ ap journal_text (sym entries);
      lawful = subst (λ (es : List Entry). Lawful (setting_by r.topology r.script) (reverse es)) (sym entries) right;
      wrote = subst (Wrote old new) text wrote;
    }

-- a verdict with a low status is lawful
low_verdict : (verdict : Verdict) → verdict_status verdict ≤ 1 → verdict ≡ verdicts.Lawful
low_verdict verdicts.Lawful low = refl
low_verdict (verdicts.Refused number) low = absurd (omega (arith, low))

-- the status of a journal that was judged
pub audit_status : (told : Told) (words : Option Names) (end : Ending) (r : RanAudit told words end) → verdict_status r.comes.verdict ≡ end.status
audit_status told words end r = ap (λ (e : Ending). e.status) r.is

-- where the status is low, what was asked for with the files was done
pub did_files : (told : Told) (counts now : Counts) (words : Option Names) (status : ℕ) (story : Story) (old new : Option (List ℕ)) → Ends (MeantFor told counts now words) status story old new → status ≤ 1
    → Performed told words story old new ⊎ Audited told words story old new
did_files told counts now words status story old new e low =
    let eight : status ≢ 8 = λ h. omega (arith, h, low) in
    let nine : status ≢ 9 = λ h. omega (arith, h, low) in
    let is = e.came.status_is eight nine in
    elim (ran_where told counts now words e.end e.meant (omega (arith, is, low))) [
      | inl r ↦ inl (step_performed told words e.end story old new r (e.came.story_is nine) (e.came.wrote eight nine))
      | inr r ↦
          let lawful = low_verdict r.comes.verdict (let says = audit_status told words e.end r in omega (arith, says, is, low)) in
          inr (lawful_audited told words e.end story old new r lawful (e.came.story_is nine) (e.came.wrote eight nine))
    ]

-- ---- status 6

-- where the status is 6, the journal is refused by its cause
pub refused_files : (told : Told) (counts now : Counts) (words : Option Names) (status : ℕ) (story : Story) (old new : Option (List ℕ)) → Ends (MeantFor told counts now words) status story old new → status ≡ 6
    → JournalRefused told words story old new
unfolding read_texts
refused_files told counts now words status story old new e six =
    let eight : status ≢ 8 = λ h. omega (arith, h, six) in
    let nine : status ≢ 9 = λ h. omega (arith, h, six) in
    let is : e.end.status ≡ 6 = sym (e.came.status_is eight nine) ∙ six in
    let wrote = e.came.wrote eight nine in
    let same = e.came.story_is nine in
    elim (came_to told counts now words e.end e.meant (inr is)) [
      | inl (inl r) ↦ absurd (let says : history_status r.topology r.script (run_of r.topology r.script r.schedule) ≡ e.end.status = ap (λ (x : Ending). x.status) r.is in
          let low = low_status r.topology r.script (run_of r.topology r.script r.schedule) in omega (arith, says, low, is))
      | inl (inr r) ↦ refused_by r.comes.verdict r refl (audit_status told words e.end r ∙ is) same wrote
      | inr unread ↦ record {
        names = unread.0.names;
        words_are = unread.0.words_are;
        task_is = unread.0.off.task_is;
        files = unread.0.comes.files;
        agree = unread.0.comes.agree;
        number = unread.0.off.line;
        why = inl (unread.0.off.read, subst (Wrote old new) unread.0.off.text wrote);
      }
    ]
  where
    refused_by : (verdict : Verdict) (r : RanAudit told words e.end) → r.comes.verdict ≡ verdict → verdict_status r.comes.verdict ≡ 6 → story ≡ e.end.story → Wrote old new e.end.text
        → JournalRefused told words story old new
    refused_by verdicts.Lawful r verdict status same wrote = absurd (let zero : 0 ≡ 6 = ap verdict_status (sym verdict) ∙ status in omega (arith, zero))
    refused_by (verdicts.Refused number) r verdict status same wrote =
        let is = audit_story told words e.end story r same in
        let entries : story.entries ≡ r.entries = ap (λ (s : Story). s.entries) is in
        let right : Judges (setting_by r.topology r.script) r.entries (verdicts.Refused number) = subst (Judges (setting_by r.topology r.script) r.entries) verdict r.right in
        let text : e.end.text ≡ verdict_text (length story.entries) (verdicts.Refused number) =
        ap (λ (x : Ending). x.text) (sym r.is) ∙ ap (verdict_text (length r.entries)) verdict ∙ ap (λ (es : List Entry). verdict_text (length es) (verdicts.Refused number)) (sym entries) in
        record {
          names = r.names;
          words_are = r.words_are;
          task_is = r.task_is;
          files = r.comes.files;
          agree = r.comes.agree;
          number = number;
          why = inr (
            r.journal.read ∙ ap (λ (es : List Entry). Ok es) (sym entries),
            read_texts r.comes.files r.topology r.script story r.entries r.topology_is r.script_is is,
            subst (λ (es : List Entry). FirstRefused (setting_by r.topology r.script) es number) (sym entries) right,
            subst (Wrote old new) text wrote,
          );
        }

-- ---- each command once

-- what is there is one thing
pub same_some : {A : Type 0} (o : Option A) (x y : A) → o ≡ Some x → o ≡ Some y → x ≡ y
same_some {A = A} o x y one two = let both : ◌≡◌ {A = Option A} (Some x) (Some y) = sym one ∙ two in cc

-- that all is replied is said of equal scripts and histories alike
pub same_all : (one topology : Shape) (first script : Content) (run h : History) → topology ≡ one → script ≡ first → h ≡ run → all_replied (setting_by one first) run ≡ true
    → all_replied (setting_by topology script) h ≡ true
same_all one topology first script run h a b c all =
    subst (λ (t : Shape). all_replied (setting_by t script) h ≡ true) (sym a)
    (subst (λ (s : Content). all_replied (setting_by one s) h ≡ true) (sym b) (subst (λ (x : History). all_replied (setting_by one first) x ≡ true) (sym c) all))

all_by : (b : Bool) → ◌≡◌ {A = ℕ} 0 (if b then 0 else 1) → b ≡ true
all_by true e = refl
all_by false e = absurd (omega arith)

is_audit : (words : Option Names) (names : Names) → words ≡ Some names → names.task ≡ Judge → IsAudit words
is_audit words names are task = rw (are, task) tt

-- at 0 of `step` each command began in exactly one entry and was replied in exactly one
pub once_files : (told : Told) (counts now : Counts) (words : Option Names) (status : ℕ) (story : Story) (old new : Option (List ℕ)) → Ends (MeantFor told counts now words) status story old new
    → ((IsAudit words → status ≡ 0) → IsRight story) → status ≡ 0 → ¬ IsAudit words → AllOnce story
once_files told counts now words status story old new e right zero other topology script has s c plan session less =
    let eight : status ≢ 8 = λ h. omega (arith, h, zero) in
    let nine : status ≢ 9 = λ h. omega (arith, h, zero) in
    let is = e.came.status_is eight nine in
    elim (ran_where told counts now words e.end e.meant (omega (arith, is, zero))) [
      | inl r ↦
          let run = run_of r.topology r.script r.schedule in
          let same = step_story told words e.end story r (e.came.story_is nine) in
          let same_topology : topology ≡ r.topology = same_some story.topology topology r.topology has.topology_is (ap (λ (x : Story). x.topology) same) in
          let same_script : script ≡ r.script = same_some story.script script r.script has.script_is (ap (λ (x : Story). x.script) same) in
          let back : reverse story.entries ≡ run = ap (λ (x : Story). reverse x.entries) same ∙ reverse-reverse run in
          let says : history_status r.topology r.script run ≡ 0 = ap (λ (x : Ending). x.status) r.is ∙ sym is ∙ zero in
          let all : all_replied (setting_by r.topology r.script) run ≡ true = all_by (all_replied (setting_by r.topology r.script) run) (sym says) in
          let here : all_replied (setting_by topology script) (reverse story.entries) ≡ true = same_all r.topology topology r.script script run (reverse story.entries) same_topology same_script back all in
          all_once (setting_by topology script) (reverse story.entries) (right_has story topology script (right (λ audit. zero)) has).lawful.1 here s c plan session less
      | inr r ↦ absurd (other (is_audit words r.names r.words_are r.task_is))
    ]

-- ---- status 7

-- where the status is 7, a read failed and was told
pub read_files : (told : Told) (counts now : Counts) (words : Option Names) (status : ℕ) (story : Story) (old new : Option (List ℕ)) → Ends (MeantFor told counts now words) status story old new → status ≡ 7
    → ReadFault counts now words old new
read_files told counts now words status story old new e seven =
    let eight : status ≢ 8 = λ h. omega (arith, h, seven) in
    let nine : status ≢ 9 = λ h. omega (arith, h, seven) in
    by words e.meant (e.came.wrote eight nine) (sym seven ∙ e.came.status_is eight nine)
  where
    verdict_not : (verdict : Verdict) → 7 ≡ verdict_status verdict → ⊥
    verdict_not verdicts.Lawful is = omega (arith, is)
    verdict_not (verdicts.Refused number) is = omega (arith, is)

    ran_not : (names : Names) → RanStep told (Some names) e.end ⊎ RanAudit told (Some names) e.end → 7 ≡ e.end.status → ⊥
    ran_not names (inl r) is =
        let low = low_status r.topology r.script (run_of r.topology r.script r.schedule) in
        let same : history_status r.topology r.script (run_of r.topology r.script r.schedule) ≡ e.end.status = ap (λ (x : Ending). x.status) r.is in
        omega (arith, low, same, is)
    ran_not names (inr r) is = verdict_not r.comes.verdict (is ∙ sym (audit_status told (Some names) e.end r))

    by : (names : Option Names) → MeantFor told counts now names e.end → Wrote old new e.end.text → 7 ≡ e.end.status → ReadFault counts now names old new
    by None meant wrote is = absurd (let two : 2 ≡ e.end.status = ap (λ (x : Ending). x.status) meant in omega (arith, two, is))
    by (Some names) (inl comes) wrote is = elim (work_ends names comes.files comes.verdict e.end comes.is) [
      | inl stopped ↦ absurd (stopped.not_read (sym is))
      | inr ran ↦ absurd (ran_not names (ran_as told names e.end comes ran) is)
    ]
    by (Some names) (inr faulted) wrote is = record {
      names = names;
      words_are = refl;
      word = faulted.word;
      rose = faulted.rose;
      wrote = rw (ap (λ (x : Ending). x.text) faulted.is) wrote;
    }
