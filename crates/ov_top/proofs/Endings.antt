-- How the reading half ends, file by file in the order of work.
use Rattle.std.proofs.Common.{◌≡◌, ℕ, ◌≤◌, ◌<◌, List, [], length, Option, Some, None, Result, Ok, Err, refl, sym, subst, ◌∙◌, arith, inl, inr}
use Rattle.std.specs.Prelude.{unwrap_or, nat_lt, if◌then◌else◌, Bool, true, false}
use Rattle.std.proofs.lemmas.Bool.{lt-ltb, le-ltb, le-leb}
use Rattle.ov_io.specs.Causes.{NoneFell, SameTold, Agrees}
use Rattle.ov_topology.specs.Shape.{Shape, gates}
use Rattle.ov_script.specs.Script.{Content}
use Rattle.ov_topology.specs.Shape.{IsShape}
use Rattle.ov_topology.proofs.Ranges.{topology_is}
use Rattle.ov_journal.proofs.Judging.{some_verdict}
use Rattle.ov_journal.specs.declared.verdict.Verdict.{Verdict}
use Rattle.ov_journal.specs.declared.verdict.Verdict.TheVariants.{Lawful}
use Rattle.ov_world.specs.World.{setting_by}
use Rattle.ov_world.specs.declared.story.Story.{Story}
use Rattle.ov_top.specs.declared.prepare.Accepted.{Accepted}
use Rattle.ov_top.specs.declared.refusal.FileWord.{FileWord}
use Rattle.ov_top.specs.declared.refusal.FileWord.TheVariants as word
use Rattle.ov_top.specs.declared.refusal.FormFault.{FormFault}
use Rattle.ov_top.specs.declared.refusal.Refusal.{Refusal}
use Rattle.ov_top.specs.declared.refusal.Refusal.TheVariants as why
use Rattle.ov_top.specs.declared.names.Task.{Task}
use Rattle.ov_top.specs.declared.names.Task.TheVariants.{Follow, Judge}
use Rattle.ov_top.specs.declared.prepare.Third.{Third}
use Rattle.ov_top.specs.declared.prepare.Third.TheVariants as thirds
use Rattle.ov_top.specs.Names.{Names, name_at, third_word}
use Rattle.ov_top.specs.Form.{accept_topology, accept_script, accept_third, form_status, form_text}
use Rattle.ov_top.specs.Ending.{Files, Ending, IsPartOf, IsRightOn, IsVerdict, accepted, at_third, at_script, at_topology, ended, limit, nothing, read_fault_text, refused, story_of, too_long_text, usage_text, with_topology, within}
use Rattle.ov_top.specs.Causes.{Told, Counts, Agree, Meant, reached, reached_third}
use Rattle.ov_top.specs.Reading.{Accepts, Becomes, Reads, ReadsBy, Refuses, RefusesRead}
use Rattle.ov_top.proofs.Forms.{topology_takes}

-- what is meant with these files; without any it is the usage text
abbrev pub MeantFor : Told → Counts → Counts → Option Names → Ending → Type 0
MeantFor told counts now None end = refused 2 usage_text nothing ≡ end
MeantFor told counts now (Some names) end = Meant told counts now names end

-- bytes that agree with what is told, whatever that is
pub some_bytes : Option (List ℕ) → List ℕ
some_bytes told = unwrap_or told []

-- such bytes agree with it
pub some_agree : (told : Option (List ℕ)) → Agrees told (some_bytes told)
unfolding some_bytes
some_agree None = tt
some_agree (Some bytes) = refl

-- ---- reads after other reads

-- a refusal of a later read, as it is seen from before the earlier ones
refuses_from : {A : Type 0} (told later : Option (List ℕ)) (count mid now : ℕ) (which : FileWord) (accept : List ℕ → Result A FormFault) (refusal : Refusal) → later ≡ told → count ≤ mid
    → RefusesRead later mid now which accept refusal → RefusesRead told count now which accept refusal
refuses_from told later count mid now which accept why.Memory same fell h = tt
refuses_from told later count mid now which accept (why.Failed failed) same fell h = (h.0, omega (arith, fell, h.1))
refuses_from told later count mid now which accept (why.TooLong long) same fell h = (h.0, rw same at h.1)
refuses_from told later count mid now which accept (why.Form fault) same fell h = rw same at h

reads_by_from : {A : Type 0} (told later : Option (List ℕ)) (count mid now : ℕ) (which : FileWord) (accept : List ℕ → Result A FormFault) (result : Result A Refusal) → later ≡ told → count ≤ mid
    → ReadsBy later mid now which accept result → ReadsBy told count now which accept result
reads_by_from told later count mid now which accept (Ok value) same fell h = rw same at h
reads_by_from told later count mid now which accept (Err refusal) same fell h = refuses_from told later count mid now which accept refusal same fell h

-- a later read, as it is seen from before the earlier ones
pub reads_from : {A : Type 0} (told later : Told) (counts mid now : Counts) (names : Names) (which : FileWord) (accept : List ℕ → Result A FormFault) (result : Result A Refusal)
    → SameTold told later → NoneFell counts mid → Reads later mid now names which accept result → Reads told counts now names which accept result
reads_from told later counts mid now names which accept result same fell reads =
    reads_by_from (told (name_at names which)) (later (name_at names which)) (counts (name_at names which)) (mid (name_at names which)) (now (name_at names which)) which accept result
    (same (name_at names which)) (fell (name_at names which)) reads

-- what is told stays over two reads
pub same_twice : (told mid now : Told) → SameTold told mid → SameTold mid now → SameTold told now
same_twice told mid now first second = λ name. second name ∙ first name

-- no count falls over two reads
pub none_fell_twice : (counts mid now : Counts) → NoneFell counts mid → NoneFell mid now → NoneFell counts now
none_fell_twice counts mid now first second = λ name. omega (arith, first name, second name)

-- ---- the bytes of all three files

abbrev some_files : Told → Names → Files
some_files told names = record { topology = some_bytes (told names.topology); script = some_bytes (told names.script); third = some_bytes (told names.third) }

some_files_agree : (told : Told) (names : Names) → Agree told names (some_files told names)
some_files_agree told names = record { topology = some_agree (told names.topology); script = some_agree (told names.script); third = some_agree (told names.third) }

abbrev first_files : Told → Names → List ℕ → Files
first_files told names topology = record { topology = topology; script = some_bytes (told names.script); third = some_bytes (told names.third) }

first_agree : (told : Told) (names : Names) (topology : List ℕ) → Agrees (told names.topology) topology → Agree told names (first_files told names topology)
first_agree told names topology agrees = record { topology = agrees; script = some_agree (told names.script); third = some_agree (told names.third) }

-- ---- the verdict on the journal

same_ok : {A : Type 0} (r : Result A FormFault) (x y : A) → r ≡ Ok x → r ≡ Ok y → x ≡ y
same_ok {A = A} r x y one two = let both : ◌≡◌ {A = Result A FormFault} (Ok x) (Ok y) = sym one ∙ two in cc

not_ok : {A : Type 0} (r : Result A FormFault) (fault : FormFault) (x : A) → r ≡ Err fault → r ≡ Ok x → ⊥
not_ok {A = A} r fault x one two = let both : ◌≡◌ {A = Result A FormFault} (Err fault) (Ok x) = sym one ∙ two in cc

-- a verdict that is right of the texts that are accepted is the right one
pub verdict_right : (names : Names) (files : Files) (topology : Shape) (script : Content) (third : Third) (verdict : Verdict) → accept_topology files.topology ≡ Ok topology
    → accept_script (gates topology) files.script ≡ Ok script → accept_third names.task files.third ≡ Ok third → IsRightOn topology script verdict third → IsVerdict names files verdict
verdict_right names files topology script third verdict first second last right other content text a b c =
    let topologies : topology ≡ other = same_ok (accept_topology files.topology) topology other first a in
    let there : accept_script (gates topology) files.script ≡ Ok content = subst (λ (t : Shape). accept_script (gates t) files.script ≡ Ok content) (sym topologies) b in
    let scripts : script ≡ content = same_ok (accept_script (gates topology) files.script) script content second there in
    let texts : third ≡ text = same_ok (accept_third names.task files.third) third text last c in
    subst (λ (t : Shape). IsRightOn t content verdict text) topologies
    (subst (λ (s : Content). IsRightOn topology s verdict text) scripts (subst (IsRightOn topology script verdict) texts right))

-- on every third text some verdict is right
some_right : (topology : Shape) (script : Content) (third : Third) → IsShape topology → (verdict : Verdict) × IsRightOn topology script verdict third
some_right topology script (thirds.Schedule schedule) shape = (Lawful, tt)
some_right topology script (thirds.Journal entries) shape = some_verdict (setting_by topology script) entries shape

-- on all files some verdict is right
verdict_for : (names : Names) (files : Files) → (verdict : Verdict) × IsVerdict names files verdict
verdict_for names files = first (accept_topology files.topology) refl
  where
    third : (topology : Shape) (script : Content) (text : Result Third FormFault) → accept_topology files.topology ≡ Ok topology → accept_script (gates topology) files.script ≡ Ok script
        → accept_third names.task files.third ≡ text → (verdict : Verdict) × IsVerdict names files verdict
    third topology script (Ok text) a b c =
        let right = some_right topology script text (topology_is files.topology topology (topology_takes files.topology topology a)) in
        (right.0, verdict_right names files topology script text right.0 a b c right.1)
    third topology script (Err fault) a b c = (Lawful, λ other content text d e f. absurd (not_ok (accept_third names.task files.third) fault text c f))

    second : (topology : Shape) (script : Result Content FormFault) → accept_topology files.topology ≡ Ok topology → accept_script (gates topology) files.script ≡ script
        → (verdict : Verdict) × IsVerdict names files verdict
    second topology (Ok script) a b = third topology script (accept_third names.task files.third) a b refl
    second topology (Err fault) a b = (
      Lawful,
      λ other content text d e f.
          let there : accept_script (gates topology) files.script ≡ Ok content =
          subst (λ (t : Shape). accept_script (gates t) files.script ≡ Ok content) (sym (same_ok (accept_topology files.topology) topology other a d)) e in
          absurd (not_ok (accept_script (gates topology) files.script) fault content b there),
    )

    first : (topology : Result Shape FormFault) → accept_topology files.topology ≡ topology → (verdict : Verdict) × IsVerdict names files verdict
    first (Ok topology) a = second topology (accept_script (gates topology) files.script) a refl
    first (Err fault) a = (Lawful, λ other content text d e f. absurd (not_ok (accept_topology files.topology) fault other a d))

-- an end that comes with every verdict is meant
comes_so : (told : Told) (counts now : Counts) (names : Names) (files : Files) (end : Ending) → Agree told names files → ((verdict : Verdict) → at_topology names files verdict ≡ end)
    → Meant told counts now names end
comes_so told counts now names files end agree is =
    let some = verdict_for names files in
    inl (record { files = files; agree = agree; verdict = some.0; right = some.1; is = is some.0 })

-- some end is meant, whatever the shelf tells
pub meant_some : (told : Told) (counts now : Counts) (names : Names) → (end : Ending) × Meant told counts now names end
meant_some told counts now names =
    let files = some_files told names in
    let some = verdict_for names files in
    (at_topology names files some.0, inl (record { files = files; agree = some_files_agree told names; verdict = some.0; right = some.1; is = refl }))

-- the empty story is a part of each
pub nothing_is_part : (whole : Story) → IsPartOf nothing whole
nothing_is_part whole = record { topology = inr refl; script = inr refl; both = inr refl; entries = ([], whole.entries, refl, refl) }

-- ---- what stands before a file in the order of work

-- a file within its limit goes on
goes_within : (names : Names) (which : FileWord) (bytes : List ℕ) (story : Story) (next : Ending) → length bytes ≤ limit which → within names which bytes story next ≡ next
goes_within names which bytes story next short = rw (le-ltb (limit which) (length bytes) short) refl

-- a longer one is the end
stops_long : (names : Names) (which : FileWord) (bytes : List ℕ) (story : Story) (next : Ending) → limit which < length bytes
    → within names which bytes story next ≡ refused 10 (too_long_text (name_at names which)) story
stops_long names which bytes story next long = rw (lt-ltb (limit which) (length bytes) long) refl

-- an accepted file goes on
goes_accepted : {A : Type 0} (verdict : Result A FormFault) (value : A) (story : Story) (next : A → Ending) → verdict ≡ Ok value → accepted verdict story next ≡ next value
goes_accepted verdict value story next is = rw is refl

-- a refused one is the end
stops_refused : {A : Type 0} (verdict : Result A FormFault) (fault : FormFault) (story : Story) (next : A → Ending) → verdict ≡ Err fault
    → accepted verdict story next ≡ refused (form_status fault) (form_text fault) story
stops_refused verdict fault story next is = rw is refl

-- the order of work comes to the script where the topology is accepted
pub at_topology_goes : (names : Names) (files : Files) (verdict : Verdict) (topology : Shape) → length files.topology ≤ limit word.Topology → accept_topology files.topology ≡ Ok topology
    → at_topology names files verdict ≡ at_script names files verdict topology
at_topology_goes names files verdict topology short is =
    goes_within names word.Topology files.topology nothing _ short ∙ goes_accepted (accept_topology files.topology) topology nothing (at_script names files verdict) is

-- and to the third file where the script is accepted
pub at_script_goes : (names : Names) (files : Files) (verdict : Verdict) (topology : Shape) (script : Content) → length files.script ≤ limit word.Script
    → accept_script (gates topology) files.script ≡ Ok script → at_script names files verdict topology ≡ at_third names files verdict topology script
at_script_goes names files verdict topology script short is =
    goes_within names word.Script files.script (with_topology topology) _ short
    ∙ goes_accepted (accept_script (gates topology) files.script) script (with_topology topology) (at_third names files verdict topology) is

-- and to the task where the third file is accepted
pub at_third_goes : (names : Names) (files : Files) (verdict : Verdict) (topology : Shape) (script : Content) (third : Third) → length files.third ≤ limit (third_word names.task)
    → accept_third names.task files.third ≡ Ok third → at_third names files verdict topology script ≡ ended names.task verdict topology script third
at_third_goes names files verdict topology script third short is =
    goes_within names (third_word names.task) files.third (story_of topology script []) _ short
    ∙ goes_accepted (accept_third names.task files.third) third (story_of topology script []) (ended names.task verdict topology script) is

-- ---- the story of each end behind a file

-- what is true of the story here and of the one behind is true of the one at the end
within_all : (P : Story → Type 0) (names : Names) (which : FileWord) (bytes : List ℕ) (story : Story) (next : Ending) → P story → P next.story → P (within names which bytes story next).story
within_all P names which bytes story next here behind = by (nat_lt (limit which) (length bytes))
  where
    by : (long : Bool) → P (if long then refused 10 (too_long_text (name_at names which)) story else next).story
    by true = here
    by false = behind

accepted_all : {A : Type 0} (P : Story → Type 0) (verdict : Result A FormFault) (story : Story) (next : A → Ending) → P story → ((value : A) → P (next value).story)
    → P (accepted verdict story next).story
accepted_all P (Ok value) story next here behind = behind value
accepted_all P (Err fault) story next here behind = here

-- The story has this topology and this script.
abbrev HasBoth : Shape → Content → Story → Type 0
HasBoth topology script story = (story.topology ≡ Some topology) × (story.script ≡ Some script)

ended_has : (task : Task) (verdict : Verdict) (topology : Shape) (script : Content) (third : Third) → HasBoth topology script (ended task verdict topology script third).story
ended_has task verdict topology script (thirds.Schedule schedule) = (refl, refl)
ended_has task verdict topology script (thirds.Journal entries) = (refl, refl)

third_has : (names : Names) (files : Files) (verdict : Verdict) (topology : Shape) (script : Content) → HasBoth topology script (at_third names files verdict topology script).story
third_has names files verdict topology script =
    within_all (HasBoth topology script) names (third_word names.task) files.third (story_of topology script []) _ (refl, refl)
    (accepted_all (HasBoth topology script) (accept_third names.task files.third) (story_of topology script []) (ended names.task verdict topology script) (refl, refl)
    (ended_has names.task verdict topology script))

abbrev HasTopology : Shape → Story → Type 0
HasTopology topology story = story.topology ≡ Some topology

script_has : (names : Names) (files : Files) (verdict : Verdict) (topology : Shape) → HasTopology topology (at_script names files verdict topology).story
script_has names files verdict topology =
    within_all (HasTopology topology) names word.Script files.script (with_topology topology) _ refl
    (accepted_all (HasTopology topology) (accept_script (gates topology) files.script) (with_topology topology) (at_third names files verdict topology) refl
    (λ script. (third_has names files verdict topology script).0))

-- ---- the topology

-- where the topology is refused, the end is meant
pub topology_stops : (told : Told) (counts now : Counts) (names : Names) (refusal : Refusal)
    → RefusesRead (told names.topology) (counts names.topology) (now names.topology) word.Topology accept_topology refusal → Refuses told counts now names refusal nothing
topology_stops told counts now names why.Memory h =
    let some = meant_some told counts now names in
    record { end = some.0; meant = some.1; leads = nothing_is_part some.0.story }
topology_stops told counts now names (why.Failed failed) h = record {
  end = refused 7 (read_fault_text names.topology) nothing;
  meant = inr (record { word = word.Topology; files = some_files told names; agree = some_files_agree told names; story = nothing; reached_is = refl; rose = h.1; is = refl });
  leads = rw h.0 refl;
}
topology_stops told counts now names (why.TooLong long) h =
    record {
      end = refused 10 (too_long_text names.topology) nothing;
      meant = comes_so told counts now names (first_files told names h.1.0) _ (first_agree told names h.1.0 h.1.1) (λ verdict. stops_long names word.Topology h.1.0 nothing _ h.1.2);
      leads = rw h.0 refl;
    }
topology_stops told counts now names (why.Form fault) h =
    let files = first_files told names h.bytes in
    record {
      end = refused (form_status fault) (form_text fault) nothing;
      meant = comes_so told counts now names files _ (first_agree told names h.bytes h.agrees)
          (λ verdict. goes_within names word.Topology h.bytes nothing _ h.short ∙ stops_refused (accept_topology h.bytes) fault nothing (at_script names files verdict) h.becomes);
      leads = refl;
    }

-- ---- the script

-- The topology was read and accepted.
abbrev pub TopologyIs : Told → Names → Shape → Type 0
TopologyIs told names topology = Becomes (told names.topology) word.Topology accept_topology (Ok topology)

abbrev second_files : Told → Names → List ℕ → List ℕ → Files
second_files told names topology script = record { topology = topology; script = script; third = some_bytes (told names.third) }

second_agree : (told : Told) (names : Names) (topology script : List ℕ) → Agrees (told names.topology) topology → Agrees (told names.script) script
    → Agree told names (second_files told names topology script)
second_agree told names topology script first second = record { topology = first; script = second; third = some_agree (told names.third) }

-- the order of work comes to the script
to_script : (told : Told) (names : Names) (topology : Shape) (script : List ℕ) (t : TopologyIs told names topology) (verdict : Verdict)
    → at_topology names (second_files told names t.bytes script) verdict ≡ at_script names (second_files told names t.bytes script) verdict topology
to_script told names topology script t verdict = at_topology_goes names (second_files told names t.bytes script) verdict topology t.short t.becomes

-- where the script is refused, the end is meant
pub script_stops : (told : Told) (counts now : Counts) (names : Names) (topology : Shape) (refusal : Refusal) → TopologyIs told names topology
    → RefusesRead (told names.script) (counts names.script) (now names.script) word.Script (accept_script (gates topology)) refusal
    → Refuses told counts now names refusal (with_topology topology)
script_stops told counts now names topology why.Memory t h =
    let bytes = some_bytes (told names.script) in
    let files = second_files told names t.bytes bytes in
    let agree = second_agree told names t.bytes bytes t.agrees (some_agree (told names.script)) in
    let some = verdict_for names files in
    record {
      end = at_script names files some.0 topology;
      meant = inl (record { files = files; agree = agree; verdict = some.0; right = some.1; is = to_script told names topology bytes t some.0 });
      leads = record {
        topology = inl (sym (script_has names files some.0 topology));
        script = inr refl;
        both = inr refl;
        entries = ([], (at_script names files some.0 topology).story.entries, refl, refl);
      };
    }
script_stops told counts now names topology (why.Failed failed) t h =
    let bytes = some_bytes (told names.script) in
    record {
      end = refused 7 (read_fault_text names.script) (with_topology topology);
      meant = inr (record {
        word = word.Script;
        files = second_files told names t.bytes bytes;
        agree = second_agree told names t.bytes bytes t.agrees (some_agree (told names.script));
        story = with_topology topology;
        reached_is = rw (t.becomes, le-leb (length t.bytes) (limit word.Topology) t.short) refl;
        rose = h.1;
        is = refl;
      });
      leads = rw h.0 refl;
    }
script_stops told counts now names topology (why.TooLong long) t h = record {
  end = refused 10 (too_long_text names.script) (with_topology topology);
  meant = comes_so told counts now names (second_files told names t.bytes h.1.0) _ (second_agree told names t.bytes h.1.0 t.agrees h.1.1)
      (λ verdict. to_script told names topology h.1.0 t verdict ∙ stops_long names word.Script h.1.0 (with_topology topology) _ h.1.2);
  leads = rw h.0 refl;
}
script_stops told counts now names topology (why.Form fault) t h =
    let files = second_files told names t.bytes h.bytes in
    record {
      end = refused (form_status fault) (form_text fault) (with_topology topology);
      meant = comes_so told counts now names files _ (second_agree told names t.bytes h.bytes t.agrees h.agrees)
          (λ verdict. to_script told names topology h.bytes t verdict ∙ goes_within names word.Script h.bytes (with_topology topology) _ h.short
          ∙ stops_refused (accept_script (gates topology) h.bytes) fault (with_topology topology) (at_third names files verdict topology) h.becomes);
      leads = refl;
    }

-- ---- the third file

-- The script was read and accepted.
abbrev pub ScriptIs : Told → Names → Shape → Content → Type 0
ScriptIs told names topology script = Becomes (told names.script) word.Script (accept_script (gates topology)) (Ok script)

abbrev third_files : List ℕ → List ℕ → List ℕ → Files
third_files topology script third = record { topology = topology; script = script; third = third }

-- the order of work comes to the third file
to_third : (told : Told) (names : Names) (topology : Shape) (script : Content) (third : List ℕ) (t : TopologyIs told names topology) (s : ScriptIs told names topology script) (verdict : Verdict)
    → at_topology names (third_files t.bytes s.bytes third) verdict ≡ at_third names (third_files t.bytes s.bytes third) verdict topology script
to_third told names topology script third t s verdict =
    at_topology_goes names (third_files t.bytes s.bytes third) verdict topology t.short t.becomes
    ∙ at_script_goes names (third_files t.bytes s.bytes third) verdict topology script s.short s.becomes

-- the order of work has come to the third file of a task
reaches_third : (told : Told) (names : Names) (topology : Shape) (script : Content) (third : List ℕ) (t : TopologyIs told names topology) (s : ScriptIs told names topology script)
    → reached (third_word names.task) (third_files t.bytes s.bytes third) ≡ Some (story_of topology script [])
reaches_third told names topology script third t s = by names.task
  where
    here : reached_third (third_files t.bytes s.bytes third) ≡ Some (story_of topology script [])
    here = rw (t.becomes, le-leb (length t.bytes) (limit word.Topology) t.short, s.becomes, le-leb (length s.bytes) (limit word.Script) s.short) refl

    by : (task : Task) → reached (third_word task) (third_files t.bytes s.bytes third) ≡ Some (story_of topology script [])
    by (Follow journal) = here
    by Judge = here

third_name : (names : Names) → name_at names (third_word names.task) ≡ names.third
third_name names = by names.task
  where
    by : (task : Task) → name_at names (third_word task) ≡ names.third
    by (Follow journal) = refl
    by Judge = refl

-- what the read of the third file gave
pub third_read : (told : Told) (counts now : Counts) (names : Names) (result : Result Third Refusal) → Reads told counts now names (third_word names.task) (accept_third names.task) result
    → ReadsBy (told names.third) (counts names.third) (now names.third) (third_word names.task) (accept_third names.task) result
third_read told counts now names result reads =
    subst (λ (name : List ℕ). ReadsBy (told name) (counts name) (now name) (third_word names.task) (accept_third names.task) result) (third_name names) reads

-- where the third file is refused, the end is meant
pub third_stops : (told : Told) (counts now : Counts) (names : Names) (topology : Shape) (script : Content) (refusal : Refusal) → TopologyIs told names topology
    → ScriptIs told names topology script → RefusesRead (told names.third) (counts names.third) (now names.third) (third_word names.task) (accept_third names.task) refusal
    → Refuses told counts now names refusal (story_of topology script [])
third_stops told counts now names topology script why.Memory t s h =
    let bytes = some_bytes (told names.third) in
    let files = third_files t.bytes s.bytes bytes in
    let some = verdict_for names files in
    let has = third_has names files some.0 topology script in
    record {
      end = at_third names files some.0 topology script;
      meant = inl (record {
        files = files;
        agree = record { topology = t.agrees; script = s.agrees; third = some_agree (told names.third) };
        verdict = some.0;
        right = some.1;
        is = to_third told names topology script bytes t s some.0;
      });
      leads = record {
        topology = inl (sym has.0);
        script = inl (sym has.1);
        both = inr refl;
        entries = ([], (at_third names files some.0 topology script).story.entries, refl, refl);
      };
    }
third_stops told counts now names topology script (why.Failed failed) t s h =
    let bytes = some_bytes (told names.third) in
    record {
      end = refused 7 (read_fault_text (name_at names (third_word names.task))) (story_of topology script []);
      meant = inr (record {
        word = third_word names.task;
        files = third_files t.bytes s.bytes bytes;
        agree = record { topology = t.agrees; script = s.agrees; third = some_agree (told names.third) };
        story = story_of topology script [];
        reached_is = reaches_third told names topology script bytes t s;
        rose = rw (third_name names) h.1;
        is = refl;
      });
      leads = rw h.0 refl;
    }
third_stops told counts now names topology script (why.TooLong long) t s h = record {
  end = refused 10 (too_long_text (name_at names (third_word names.task))) (story_of topology script []);
  meant = comes_so told counts now names (third_files t.bytes s.bytes h.1.0) _ (record { topology = t.agrees; script = s.agrees; third = h.1.1 })
      (λ verdict. to_third told names topology script h.1.0 t s verdict ∙ stops_long names (third_word names.task) h.1.0 (story_of topology script []) _ h.1.2);
  leads = rw h.0 refl;
}
third_stops told counts now names topology script (why.Form fault) t s h = record {
  end = refused (form_status fault) (form_text fault) (story_of topology script []);
  meant = comes_so told counts now names (third_files t.bytes s.bytes h.bytes) _ (record { topology = t.agrees; script = s.agrees; third = h.agrees })
      (λ verdict. to_third told names topology script h.bytes t s verdict ∙ goes_within names (third_word names.task) h.bytes (story_of topology script []) _ h.short
      ∙ stops_refused (accept_third names.task h.bytes) fault (story_of topology script []) (ended names.task verdict topology script) h.becomes);
  leads = refl;
}

-- where all three files are accepted, the end of the task is meant
pub all_read : (told : Told) (counts now : Counts) (names : Names) (texts : Accepted) → TopologyIs told names texts.topology → ScriptIs told names texts.topology texts.script
    → Becomes (told names.third) (third_word names.task) (accept_third names.task) (Ok texts.third) → Accepts told counts now names texts nothing
all_read told counts now names texts t s h = record {
  empty = refl;
  meant = λ verdict right. inl (record {
    files = third_files t.bytes s.bytes h.bytes;
    agree = record { topology = t.agrees; script = s.agrees; third = h.agrees };
    verdict = verdict;
    right = verdict_right names (third_files t.bytes s.bytes h.bytes) texts.topology texts.script texts.third verdict t.becomes s.becomes h.becomes right;
    is = to_third told names texts.topology texts.script h.bytes t s verdict
        ∙ at_third_goes names (third_files t.bytes s.bytes h.bytes) verdict texts.topology texts.script texts.third h.short h.becomes;
  });
}
