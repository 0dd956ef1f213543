-- How a call ends, from what its halves did.
use Rattle.std.proofs.Common.{◌≡◌, ℕ, Bool, List, [], ◌∷◌, ◌++◌, reverse, Option, Some, None, refl, sym, ap, subst, ◌∙◌, inl}
use Rattle.std.specs.Prelude.{if◌then◌else◌}
use Rattle.ov_base.proofs.Lists.{front_of_nothing}
use Rattle.ov_io.specs.Causes.{Wrote, WroteFront}
use Rattle.ov_io.proofs.Sinks.{wrote_none}
use Rattle.ov_topology.specs.Shape.{Shape}
use Rattle.ov_script.specs.Script.{Content, IsScript}
use Rattle.ov_script.specs.declared.step.Step.{Step}
use Rattle.ov_journal.specs.Journal.{journal_text}
use Rattle.ov_world.specs.declared.story.Story.{Story}
use Rattle.ov_report.specs.Report.{lines_text, report_lines, report_text, story_lines}
use Rattle.ov_report.specs.Summary.{summary_of, summary_text}
use Rattle.ov_top.specs.declared.prepare.Accepted.{Accepted}
use Rattle.ov_top.specs.declared.refusal.Refusal.{Refusal}
use Rattle.ov_top.specs.declared.refusal.Refusal.TheVariants as why
use Rattle.ov_top.specs.Names.{Names, audit_names, step_names}
use Rattle.ov_top.specs.Ending.{Ending, IsPartOf, done, ended, history_status, history_text, made, nothing, refused, report_status, run_of, summed, usage_text}
use Rattle.ov_top.specs.declared.words.Order.{Order}
use Rattle.ov_top.specs.declared.words.Order.TheVariants as orders
use Rattle.ov_top.proofs.Reports.{lines_of_run, status_of_run}
use Rattle.ov_top.specs.Causes.{Told, Counts, Ends, EndsAs, Meant, MeantBy, Puts}
use Rattle.ov_top.specs.Performing.{Performs}
use Rattle.ov_top.specs.Reading.{Accepts, Refuses, refusal_status, refusal_text}
use Rattle.ov_top.proofs.Endings.{meant_some, nothing_is_part}

-- ---- parts of stories

append_nothing : {X : Type 0} (xs : List X) → xs ≡ xs ++ []
append_nothing [] = refl
append_nothing (x ∷ xs) = ap (λ (t : _). x ∷ t) (append_nothing xs)

-- a story is a part of itself
pub whole_is_part : (story : Story) → IsPartOf story story
whole_is_part story = record { topology = inl refl; script = inl refl; both = inl (refl, refl); entries = (story.entries, [], append_nothing story.entries, refl) }

-- ---- ends

-- the text of an end was put, and the story is the one of that end
pub ends_put : (end : Ending) (status count later : ℕ) (story : Story) (old new : Option (List ℕ)) → story ≡ end.story → Puts end.status end.text status count later old new
    → EndsAs end status story old new
ends_put end status count later story old new same puts = record {
  status_is = λ eight nine. (puts.whole eight nine).0;
  wrote = λ eight nine. (puts.whole eight nine).1;
  wrote_front = puts.front;
  story_is = λ nine. same;
  part = rw same (whole_is_part end.story);
}

-- memory ran out before anything was written
pub ends_without_memory : (end : Ending) (status : ℕ) (story : Story) (old new : Option (List ℕ)) → IsPartOf story end.story → status ≡ 9 → WroteFront old new []
    → EndsAs end status story old new
ends_without_memory end status story old new part nine front = record {
  status_is = λ eight other. absurd (other nine);
  wrote = λ eight other. absurd (other nine);
  wrote_front = ([], end.text, refl, subst (Wrote old new) (front_of_nothing front.0 front.1 front.2) front.3);
  story_is = λ other. absurd (other nine);
  part = part;
}

-- some end is meant, whatever the words are
meant_by_some : (told : Told) (counts now : Counts) (order : Option Order) → (end : Ending) × MeantBy told counts now order end
meant_by_some told counts now None = (refused 2 usage_text nothing, refl)
meant_by_some told counts now (Some (orders.Step journal topology script schedule)) = meant_some told counts now (step_names journal topology script schedule)
meant_by_some told counts now (Some (orders.Audit topology script journal)) = meant_some told counts now (audit_names topology script journal)
meant_by_some told counts now (Some (orders.Make number commands)) = (made number commands, refl)

-- memory ran out before the words were known
pub ends_before : (told : Told) (counts now : Counts) (order : Option Order) (old : Option (List ℕ)) → Ends (MeantBy told counts now order) 9 nothing old old
ends_before told counts now order old =
    let some = meant_by_some told counts now order in
    record { end = some.0; meant = some.1; came = ends_without_memory some.0 9 nothing old old (nothing_is_part some.0.story) refl (wrote_none old []) }

-- the text of a refusal was put
pub ends_refused : (told : Told) (counts now : Counts) (names : Names) (refusal : Refusal) (status count later : ℕ) (story : Story) (old new : Option (List ℕ))
    → Refuses told counts now names refusal story → Puts (refusal_status refusal) (refusal_text names refusal) status count later old new
    → (refusal ≡ why.Memory → status ≡ 9) → Ends (Meant told counts now names) status story old new
ends_refused told counts now names why.Memory status count later story old new p puts memory =
    record { end = p.end; meant = p.meant; came = ends_without_memory p.end status story old new p.leads (memory refl) puts.front }
ends_refused told counts now names (why.Failed word) status count later story old new p puts memory =
    record { end = p.end; meant = p.meant; came = ends_put p.end status count later story old new (sym (ap (λ (e : Ending). e.story) p.leads)) (rw p.leads puts) }
ends_refused told counts now names (why.TooLong word) status count later story old new p puts memory =
    record { end = p.end; meant = p.meant; came = ends_put p.end status count later story old new (sym (ap (λ (e : Ending). e.story) p.leads)) (rw p.leads puts) }
ends_refused told counts now names (why.Form fault) status count later story old new p puts memory =
    record { end = p.end; meant = p.meant; came = ends_put p.end status count later story old new (sym (ap (λ (e : Ending). e.story) p.leads)) (rw p.leads puts) }

-- what was asked for was done with the texts that are accepted
pub ends_performed : (told : Told) (counts now : Counts) (names : Names) (texts : Accepted) (before story : Story) (status : ℕ) (old new : Option (List ℕ))
    → Accepts told counts now names texts before → Performs names.task texts status story old new → Ends (Meant told counts now names) status story old new
ends_performed told counts now names texts before story status old new accepts performs = record {
  end = ended names.task performs.verdict texts.topology texts.script texts.third;
  meant = accepts.meant performs.verdict performs.right;
  came = performs.came;
}

-- the history of the run was put
pub ends_done : (journal : Bool) (topology : Shape) (script : Content) (schedule : List Step) (story : Story) (status count later : ℕ) (old new : Option (List ℕ))
    → IsScript script → story ≡ (done journal topology script schedule).story
    → Puts (report_status (story_lines story.script story.entries)) (if journal then journal_text story.entries else lines_text (story_lines story.script story.entries)) status count later old new
    → EndsAs (done journal topology script schedule) status story old new
ends_done journal topology script schedule story status count later old new form same puts =
    let run = run_of topology script schedule in
    let lines = lines_of_run topology script run story same in
    let entries : story.entries ≡ reverse run = ap (λ (s : Story). s.entries) same in
    let here : Puts (report_status (report_lines script run)) (if journal then journal_text (reverse run) else report_text script run) status count later old new = rw (lines, entries) at puts in
    let there : Puts (history_status topology script run) (history_text journal script run) status count later old new = rw (status_of_run topology script run form) at here in
    ends_put (done journal topology script schedule) status count later story old new same there

-- the summary of a run over the empty schedule was put
pub ends_summed : (topology : Shape) (script : Content) (story : Story) (status count later : ℕ) (old new : Option (List ℕ)) → story ≡ (summed topology script).story
    → Puts 0 (summary_text (summary_of story.script story.entries)) status count later old new → EndsAs (summed topology script) status story old new
ends_summed topology script story status count later old new same puts =
    ends_put (summed topology script) status count later story old new same (rw same at puts)

-- the usage text was put
pub ends_usage : (told : Told) (counts : Counts) (status count later : ℕ) (old new : Option (List ℕ)) → Puts 2 usage_text status count later old new
    → Ends (MeantBy told counts counts None) status nothing old new
ends_usage told counts status count later old new puts =
    record { end = refused 2 usage_text nothing; meant = refl; came = ends_put (refused 2 usage_text nothing) status count later nothing old new refl puts }
