-- What is shown of every order, from how the call ended: of a made script, and of files.
use Rattle.std.proofs.Common.{◌≡◌, ◌≢◌, ℕ, ◌≤◌, ◌<◌, ◌^◌, true, List, [], length, Option, Some, None, refl, sym, ap, subst, ◌∙◌, arith, ◌⊎◌, inl, inr, reverse}
use Rattle.std.proofs.lemmas.List.{length-reverse, reverse-reverse}
use Rattle.ov_topology.specs.Shape.{Shape}
use Rattle.ov_script.specs.Script.{Content}
use Rattle.ov_history.specs.Past.{History}
use Rattle.ov_follow.specs.Calm.{all_replied}
use Rattle.ov_complete.proofs.Ending.{all_once}
use Rattle.ov_complete.proofs.Wholeness.{calm_whole, nothing_whole}
use Rattle.ov_make.specs.Made.{made_script, made_topology}
use Rattle.ov_make.proofs.Whole.{made_gateways, made_is_script, made_shape}
use Rattle.ov_report.specs.Summary.{summary_of, summary_text}
use Rattle.ov_io.specs.Causes.{Wrote}
use Rattle.ov_world.specs.World.{setting_by}
use Rattle.ov_world.specs.declared.story.Story.{Story}
use Rattle.ov_top.specs.declared.words.Order.{Order}
use Rattle.ov_top.specs.declared.words.Order.TheVariants as orders
use Rattle.ov_top.specs.Words.{AreFormed}
use Rattle.ov_top.specs.Names.{IsAudit, IsMake, files_of}
use Rattle.ov_top.specs.Ending.{Ending, made, made_run, run_of}
use Rattle.ov_top.specs.Causes.{Told, Counts, Ends, MeantBy}
use Rattle.ov_top.specs.Headline.{AllOnce, Did, Has, InForm, InLawfulForm, IsRight, IsShort, IsWholeAtEnd, JournalRefused, NoneRose, ReadFault, Summed, Waits}
use Rattle.ov_top.proofs.Completing.{accepts_files, completes_files, is_or_not, run_replies, waits_files}
use Rattle.ov_top.proofs.Endings.{MeantFor}
use Rattle.ov_top.proofs.Headlines.{did_files, once_files, read_files, refused_files, same_all, same_some}
use Rattle.ov_top.proofs.Running.{right_has}

-- The order is to make a script, and the end is that of the made script.
pub record IsMade (order : Option Order) (end : Ending) : Type 0 where
  pub number : ℕ
  pub commands : ℕ
  pub order_is : order ≡ Some (orders.Make number commands)
  pub is : made number commands ≡ end

-- what is meant is the end of a made script, or one that is meant with the files
pub meant_of : (told : Told) (counts now : Counts) (order : Option Order) (end : Ending) → MeantBy told counts now order end → IsMade order end ⊎ MeantFor told counts now (files_of order) end
meant_of told counts now None end meant = inr meant
meant_of told counts now (Some (orders.Step journal topology script schedule)) end meant = inr meant
meant_of told counts now (Some (orders.Audit topology script journal)) end meant = inr meant
meant_of told counts now (Some (orders.Make number commands)) end meant = inl (record { number = number; commands = commands; order_is = refl; is = meant })

-- so a call ended
pub ended_of : (told : Told) (counts now : Counts) (order : Option Order) (status : ℕ) (story : Story) (old new : Option (List ℕ)) → Ends (MeantBy told counts now order) status story old new
    → Ends (IsMade order) status story old new ⊎ Ends (MeantFor told counts now (files_of order)) status story old new
ended_of told counts now order status story old new e = elim (meant_of told counts now order e.end e.meant) [
  | inl made ↦ inl (record { end = e.end; meant = made; came = e.came })
  | inr files ↦ inr (record { end = e.end; meant = files; came = e.came })
]

-- ---- a made script

-- its status is 0, unless the sink failed or memory ran out
made_status : (order : Option Order) (status : ℕ) (story : Story) (old new : Option (List ℕ)) → Ends (IsMade order) status story old new → status ≢ 8 → status ≢ 9 → status ≡ 0
made_status order status story old new e eight nine = e.came.status_is eight nine ∙ ap (λ (x : Ending). x.status) (sym e.meant.is)

-- and no other
not_made : (order : Option Order) (status other : ℕ) (story : Story) (old new : Option (List ℕ)) → Ends (IsMade order) status story old new → status ≡ other → 1 ≤ other → other ≤ 7 → ⊥
not_made order status other story old new e is low high =
    let zero = made_status order status story old new e (λ h. omega (arith, h, is, high)) (λ h. omega (arith, h, is, high)) in
    omega (arith, zero, is, low)

-- its story
made_story : (order : Option Order) (status : ℕ) (story : Story) (old new : Option (List ℕ)) (e : Ends (IsMade order) status story old new) → status ≢ 9
    → story ≡ (made e.meant.number e.meant.commands).story
made_story order status story old new e nine = e.came.story_is nine ∙ ap (λ (x : Ending). x.story) (sym e.meant.is)

-- it was summed up
summed_up : (order : Option Order) (status : ℕ) (story : Story) (old new : Option (List ℕ)) → Ends (IsMade order) status story old new → status ≢ 8 → status ≢ 9 → Summed order story old new
summed_up order status story old new e eight nine =
    let same = made_story order status story old new e nine in
    let text : e.end.text ≡ summary_text (summary_of story.script story.entries) =
    ap (λ (x : Ending). x.text) (sym e.meant.is) ∙ ap (λ (s : Story). summary_text (summary_of s.script s.entries)) (sym same) in
    record {
      number = e.meant.number;
      commands = e.meant.commands;
      order_is = e.meant.order_is;
      topology = ap (λ (s : Story). s.topology) same;
      script = ap (λ (s : Story). s.script) same;
      entries = ap (λ (s : Story). s.entries) same;
      wrote = subst (Wrote old new) text (e.came.wrote eight nine);
    }

-- every command of a made script is replied
made_replies : (number commands : ℕ) → 2 ≤ commands → commands ≤ 4000 → length (made_run number commands) < 2 ^ 64
    → all_replied (setting_by made_topology (made_script number commands)) (made_run number commands) ≡ true
made_replies number commands some few short =
    let t = setting_by made_topology (made_script number commands) in
    run_replies made_topology (made_script number commands) [] made_shape (made_is_script number commands some few) (made_gateways number commands) (record { few = omega arith; each = tt })
    (calm_whole t [] (nothing_whole made_topology made_shape)) short

formed_make : (order : Option Order) (number commands : ℕ) → order ≡ Some (orders.Make number commands) → AreFormed order → (2 ≤ commands) × (commands ≤ 4000)
formed_make order number commands is formed = rw is at formed

-- each of its commands began in exactly one entry and was replied in exactly one
once_made : (order : Option Order) (status : ℕ) (story : Story) (old new : Option (List ℕ)) → AreFormed order → IsRight story → IsShort story → Ends (IsMade order) status story old new
    → status ≡ 0 → AllOnce story
once_made order status story old new formed right short e zero topology script has s c plan session less =
    let number = e.meant.number in
    let commands = e.meant.commands in
    let run = made_run number commands in
    let same = made_story order status story old new e (λ h. omega (arith, h, zero)) in
    let bounds = formed_make order number commands e.meant.order_is formed in
    let same_topology : topology ≡ made_topology = same_some story.topology topology made_topology has.topology_is (ap (λ (x : Story). x.topology) same) in
    let same_script : script ≡ made_script number commands = same_some story.script script (made_script number commands) has.script_is (ap (λ (x : Story). x.script) same) in
    let back : reverse story.entries ≡ run = ap (λ (x : Story). reverse x.entries) same ∙ reverse-reverse run in
    let few : length run < 2 ^ 64 = subst (λ (n : ℕ). n < 2 ^ 64) (sym (length-reverse story.entries) ∙ ap length back) short in
    let all = made_replies number commands bounds.0 bounds.1 few in
    let here : all_replied (setting_by topology script) (reverse story.entries) ≡ true =
    same_all made_topology topology (made_script number commands) script run (reverse story.entries) same_topology same_script back all in
    all_once (setting_by topology script) (reverse story.entries) (right_has story topology script right has).lawful.1 here s c plan session less

-- the status is 0 or, out of memory, 9
makes_made : (order : Option Order) (status : ℕ) (story : Story) (old new : Option (List ℕ)) → Ends (IsMade order) status story old new → status ≢ 8 → (status ≡ 0) ⊎ (status ≡ 9)
makes_made order status story old new e eight = elim (is_or_not status 9) [
  | inl nine ↦ inr nine
  | inr nine ↦ inl (made_status order status story old new e eight nine)
]

-- ---- every order

-- at 0 and 1 what was asked for was done
pub did : (told : Told) (counts now : Counts) (order : Option Order) (status : ℕ) (story : Story) (old new : Option (List ℕ)) → Ends (MeantBy told counts now order) status story old new → status ≤ 1
    → Did told order story old new
did told counts now order status story old new e low =
    elim (ended_of told counts now order status story old new e) [
      | inl made ↦ inr (inr (summed_up order status story old new made (λ h. omega (arith, h, low)) (λ h. omega (arith, h, low))))
      | inr files ↦ elim (did_files told counts now (files_of order) status story old new files low) [
        | inl performed ↦ inl performed
        | inr audited ↦ inr (inl audited)
      ]
    ]

-- where the status is 6, the journal is refused by its cause
pub journal_refused : (told : Told) (counts now : Counts) (order : Option Order) (status : ℕ) (story : Story) (old new : Option (List ℕ)) → Ends (MeantBy told counts now order) status story old new
    → status ≡ 6 → JournalRefused told (files_of order) story old new
journal_refused told counts now order status story old new e six = elim (ended_of told counts now order status story old new e) [
  | inl made ↦ absurd (not_made order status 6 story old new made six (omega arith) (omega arith))
  | inr files ↦ refused_files told counts now (files_of order) status story old new files six
]

-- at 0 of `step` and `make` each command began in exactly one entry and was replied in exactly one
pub all_are_once : (told : Told) (counts now : Counts) (order : Option Order) (status : ℕ) (story : Story) (old new : Option (List ℕ)) → Ends (MeantBy told counts now order) status story old new
    → AreFormed order → IsShort story → ((IsAudit (files_of order) → status ≡ 0) → IsRight story) → status ≡ 0 → ¬ IsAudit (files_of order) → AllOnce story
all_are_once told counts now order status story old new e formed short right zero other = elim (ended_of told counts now order status story old new e) [
  | inl made ↦ once_made order status story old new formed (right (λ audit. zero)) short made zero
  | inr files ↦ once_files told counts now (files_of order) status story old new files right zero other
]

-- where the status is 7, a read failed and was told
pub read_faulted : (told : Told) (counts now : Counts) (order : Option Order) (status : ℕ) (story : Story) (old new : Option (List ℕ)) → Ends (MeantBy told counts now order) status story old new
    → status ≡ 7 → ReadFault counts now (files_of order) old new
read_faulted told counts now order status story old new e seven = elim (ended_of told counts now order status story old new e) [
  | inl made ↦ absurd (not_made order status 7 story old new made seven (omega arith) (omega arith))
  | inr files ↦ read_files told counts now (files_of order) status story old new files seven
]

-- at 1 some command is not replied, and the world is not whole
pub waits : (told : Told) (counts now : Counts) (order : Option Order) (status : ℕ) (story : Story) (old new : Option (List ℕ)) → Ends (MeantBy told counts now order) status story old new
    → IsShort story → status ≡ 1 → Waits story
waits told counts now order status story old new e short one = elim (ended_of told counts now order status story old new e) [
  | inl made ↦ absurd (not_made order status 1 story old new made one (omega arith) (omega arith))
  | inr files ↦ waits_files told counts now (files_of order) status story old new files short one
]

-- with words and files in form, no risen count and a world that is whole at its end, the status of `step` is 0 or, out of memory, 9
pub completes : (told : Told) (counts now : Counts) (order : Option Order) (status : ℕ) (story : Story) (old new : Option (List ℕ)) → Ends (MeantBy told counts now order) status story old new
    → IsShort story → InForm told (files_of order) → NoneRose counts now (files_of order) → status ≢ 8 → IsWholeAtEnd story → (status ≡ 0) ⊎ (status ≡ 9)
completes told counts now order status story old new e short f nobody eight whole = elim (ended_of told counts now order status story old new e) [
  | inl made ↦ makes_made order status story old new made eight
  | inr files ↦ completes_files told counts now (files_of order) status story old new files short f nobody eight whole
]

-- with words and files in form, a journal of lawful entries and no risen count, the status of `audit` is 0 or, out of memory, 9
pub accepts : (told : Told) (counts now : Counts) (order : Option Order) (status : ℕ) (story : Story) (old new : Option (List ℕ)) → Ends (MeantBy told counts now order) status story old new
    → InLawfulForm told (files_of order) → NoneRose counts now (files_of order) → status ≢ 8 → (status ≡ 0) ⊎ (status ≡ 9)
accepts told counts now order status story old new e f nobody eight = elim (ended_of told counts now order status story old new e) [
  | inl made ↦ makes_made order status story old new made eight
  | inr files ↦ accepts_files told counts now (files_of order) status story old new files f nobody eight
]

-- the status of `make` is 0 or, out of memory, 9
pub makes : (told : Told) (counts now : Counts) (order : Option Order) (status : ℕ) (story : Story) (old new : Option (List ℕ)) → Ends (MeantBy told counts now order) status story old new
    → IsMake order → status ≢ 8 → (status ≡ 0) ⊎ (status ≡ 9)
makes told counts now None status story old new e make eight = absurd make
makes told counts now (Some (orders.Step journal topology script schedule)) status story old new e make eight = absurd make
makes told counts now (Some (orders.Audit topology script journal)) status story old new e make eight = absurd make
makes told counts now (Some (orders.Make number commands)) status story old new e make eight =
    makes_made (Some (orders.Make number commands)) status story old new (record { end = e.end; meant = record { number = number; commands = commands; order_is = refl; is = e.meant }; came = e.came }) eight
