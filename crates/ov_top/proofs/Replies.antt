-- The headline of a lawful history: each reply shows the script's command, at its version or at a published watermark.
use Rattle.std.proofs.Common.{◌≡◌, ℕ, Bool, true, false, List, [], Some, refl, sym, ap, subst, ◌∙◌}
use Rattle.std.specs.Prelude.{if◌then◌else◌}
use Rattle.ov_functor.specs.Execution.{Map, hold, moves_of, got, reply_of}
use Rattle.ov_functor.specs.declared.command.Command.{Command}
use Rattle.ov_functor.specs.declared.command.Command.TheVariants as commands
use Rattle.ov_functor.specs.declared.item.Shown.{Shown}
use Rattle.ov_functor.specs.declared.part.Part.{Part}
use Rattle.ov_functor.specs.declared.reply.Reply.{Reply}
use Rattle.ov_functor.specs.declared.reply.Reply.TheVariants.{Done, Aborted, Snap}
use Rattle.ov_event.specs.declared.start.Start.{Start}
use Rattle.ov_event.specs.declared.start.Start.TheVariants.{Draw, Look}
use Rattle.ov_history.specs.Draws.{Drawn}
use Rattle.ov_history.specs.Past.{History, before}
use Rattle.ov_history.specs.May.{Setting, StartsAs}
use Rattle.ov_history.specs.Serial.{begun_at, serial_at}
use Rattle.ov_history.specs.Settlers.{Shows, shown}
use Rattle.ov_history.proofs.Past.{lawful_at}
use Rattle.ov_follow.specs.Expected.{IsExpected, ShowsAt, reached}
use Rattle.ov_laws.specs.Entries.{began_by}
use Rattle.ov_laws.specs.Replies.{Expected, IsPublished}
use Rattle.ov_laws.specs.Runs.{IsRun}
use Rattle.ov_laws.proofs.Times.Begun.{drew_is_begun}
use Rattle.ov_laws.proofs.Times.Once.{drew_at}
use Rattle.ov_laws.proofs.Values.Begins.{folded_begins}
use Rattle.ov_topology.specs.Shape.{Shape, IsShape}
use Rattle.ov_script.specs.Script.{Content}
use Rattle.ov_world.specs.Holds.{Holds}
use Rattle.ov_world.specs.World.{setting_by}
use Rattle.ov_world.proofs.Promises.{holds}
use Rattle.ov_top.specs.Ending.{story_of}
use Rattle.ov_top.specs.Headline.{IsRight, Right}

-- what a transaction's reply reaches is its version
reaches_version : (map : Map) (version : ℕ) (transaction : List Part) → reached (reply_of map version transaction) ≡ version
reaches_version map version transaction = by (hold map (moves_of transaction))
  where
    by : (b : Bool) → reached (if b then Done version (got map transaction) else Aborted version (got map transaction)) ≡ version
    by true = refl
    by false = refl

-- what began shows the command whose start it is
shows_command : (t : Setting) (h past : History) (g s w number : ℕ) (command : Command) (start : Start) (reply : Reply) → IsRun t h
    → ((version : ℕ) (transaction : List Part) → start ≡ Draw version transaction → begun_at h version ≡ Some transaction)
    → StartsAs past g s command start → Shows (serial_at h) w start reply → ShowsAt h command (reached reply) reply
shows_command t h past g s w number (commands.Transact parts) (Draw version transaction) reply run begun starts shows =
    let at_version : reached reply ≡ version = ap reached shows.1 ∙ reaches_version (serial_at h version) version transaction in
    rw (at_version, ← starts.0) (begun version transaction refl, shows.1 ∙ ap (λ (m : Map). reply_of m version transaction) (sym (folded_begins t h version run.1)))
shows_command t h past g s w number (commands.Snap keys) (Look least list) reply run begun starts shows =
    let at_mark : reached reply ≡ w = ap reached shows.1 in
    rw (at_mark, ← starts.0) (shows.1 ∙ ap (λ (m : Map). Snap w (shown m list)) (sym (folded_begins t h w run.1)))
shows_command t h past g s w number (commands.Transact parts) (Look least list) reply run begun starts shows = absurd starts
shows_command t h past g s w number (commands.Snap keys) (Draw version transaction) reply run begun starts shows = absurd starts

-- each reply of a lawful history is the expected one: it shows the script's command
pub reply_expected : (t : Setting) (h : History) (g s c : ℕ) (reply : Reply) → IsRun t h → Expected h g s c reply → IsExpected t.roster h s c reply
reply_expected t h g s c reply run x =
    let may = lawful_at t h x.number (began_by g s c x.start) run.1 x.begun in
    let ready = may.guard.ready in
    record {
      command = ready.planned.command;
      is = record { plan = ready.plan; session = ready.session; number = _; number_is = ready.next; planned = ready.planned; planned_is = ready.further; command_is = refl };
      shows = shows_command t h (before x.number h) g s x.watermark x.number ready.planned.command x.start reply run
          (λ version transaction is.
          let drawn : Drawn = record { version = version; transaction = transaction; session = s; seq = c } in
          let drew = drew_at t h x.number (began_by g s c x.start) drawn run.1 x.begun (rw is refl) in
          drew_is_begun t h drew.0 drawn run.1 drew.1)
          may.guard.starts x.shows;
    }

-- a snapshot's reply is at the published watermark
snap_published : (maps : ℕ → Map) (w n : ℕ) (list : List Shown) (start : Start) → Shows maps w start (Snap n list) → n ≡ w
snap_published maps w n list (Draw version transaction) shows = by (hold (maps version) (moves_of transaction)) shows.1
  where
    by : (b : Bool) → Snap n list ≡ (if b then Done version (got (maps version) transaction) else Aborted version (got (maps version) transaction)) → n ≡ w
    by true is = absurd cc
    by false is = absurd cc
snap_published maps w n list (Look least keys) shows = let same : ◌≡◌ {A = Reply} (Snap n list) (Snap w (shown (maps w) keys)) = shows.1 in cc

-- the headline follows from what is true of every world
pub right_holds : (t : Setting) (h : History) → Holds t h → Right t h
right_holds t h holds = record {
  lawful = holds.lawful;
  expected = λ g s c reply has. reply_expected t h g s c reply holds.lawful (holds.replies.expected g s c reply has);
  begun = holds.replies.expected;
  later = holds.replies.later;
  snaps = holds.replies.snaps;
  values = holds.values.each;
  alike = holds.values.alike;
  watermark = λ g s c n list has.
      let x = holds.replies.expected g s c (Snap n list) has in
      subst (IsPublished h) (sym (snap_published (serial_at h) x.watermark n list x.start x.shows)) x.published;
  begins = holds.replies.begins;
  replies = holds.replies.replies;
}

-- the headline is true of a topology and a script with nothing done
pub right_empty : (topology : Shape) (script : Content) → IsShape topology → IsRight (story_of topology script [])
right_empty topology script shape = right_holds (setting_by topology script) [] (holds (setting_by topology script) [] (shape, tt))
