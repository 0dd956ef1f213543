-- Every reply shows the serial map.
use Rattle.std.proofs.Common.{◌≡◌, ℕ, ◌+◌, ◌≤◌, ◌<◌, Bool, true, false, inl, inr, Some, length, sym, ap, ◌∙◌, arith, subst}
use Rattle.std.specs.Prelude.{if◌then◌else◌}
use Rattle.ov_base.specs.Version.{number}
use Rattle.ov_functor.specs.Execution.{Map, hold, moves_of, got, reply_of}
use Rattle.ov_functor.specs.declared.reply.Reply.{Reply}
use Rattle.ov_functor.specs.declared.reply.Reply.TheVariants.{Done, Aborted, Snap}
use Rattle.ov_topology.specs.Shape.{Shape, IsShape}
use Rattle.ov_topology.specs.declared.actor.Actor.TheVariants.{Gate, Settler}
use Rattle.ov_topology.specs.declared.place.Place.{Place}
use Rattle.ov_session.specs.Events.{floor_of}
use Rattle.ov_event.specs.declared.entry.Entry.{Entry}
use Rattle.ov_event.specs.declared.kind.Kind.TheVariants.{Began, Resulted, Replied}
use Rattle.ov_event.specs.declared.start.Start.{Start}
use Rattle.ov_event.specs.declared.start.Start.TheVariants.{Draw, Look}
use Rattle.ov_history.specs.Past.{History, at, before}
use Rattle.ov_history.specs.Draws.{Drawn, drawn_in, last}
use Rattle.ov_laws.specs.Final.{IsClosed}
use Rattle.ov_history.specs.May.{Setting, Lawful, MayReply, MayResult}
use Rattle.ov_history.specs.Serial.{begun_at, serial_at}
use Rattle.ov_history.specs.Settlers.{settled, known_below, shown, Shows}
use Rattle.ov_laws.proofs.Windows.Harvests.{begun_earlier}
use Rattle.ov_laws.proofs.Watermarks.Later.{serial_same, drawn_by_gate, draw_above}
use Rattle.ov_history.proofs.Past.{lawful_at, lawful_before, at_most}
use Rattle.ov_laws.proofs.History.Earlier.{at_before, at_earlier, before_length, before_before, last_before, letter_at}
use Rattle.ov_laws.specs.Replies.{IsPublished, Expected}
use Rattle.ov_laws.proofs.History.Sent.{result_sent, want_sent}
use Rattle.ov_laws.proofs.Values.Settled.{settler_stands, known_is_serial, settled_closed}
use Rattle.ov_laws.specs.Runs.{IsRun}
use Rattle.ov_laws.specs.Entries.{DrawnAfter}

-- a reply shows equal maps alike
shows_alike : (maps others : ℕ → Map) (w : ℕ) (start : Start) (reply : Reply) → ((n : ℕ) → n ≤ w → maps n ≡ others n) → Shows maps w start reply → Shows others w start reply
shows_alike maps others w (Draw version transaction) reply same shows =
    let less : version < w = shows.0 in
    (less, shows.1 ∙ ap (λ map. reply_of map version transaction) (same version (omega (arith, less))))
shows_alike maps others w (Look floor keys) reply same shows = (shows.0, shows.1 ∙ ap (λ map. Snap w (shown map keys)) (same w (omega arith)))

-- what a reply reaches is at most the watermark up to which its maps are known
pub shows_reach : (maps : ℕ → Map) (w : ℕ) (start : Start) (reply : Reply) → Shows maps w start reply → floor_of reply ≤ w
shows_reach maps w (Draw version transaction) reply shows = by (hold (maps version) (moves_of transaction)) shows.1
  where
    by : (b : Bool) → reply ≡ (if b then Done version (got (maps version) transaction) else Aborted version (got (maps version) transaction)) → floor_of reply ≤ w
    by true is = let less : version < w = shows.0 in rw is (omega (arith, less))
    by false is = let less : version < w = shows.0 in rw is (omega (arith, less))
shows_reach maps w (Look floor keys) reply shows = rw (shows.1) (omega arith)

-- the serial map up to a number that was closed before an entry was the same then
serial_before : (t : Setting) (h : History) (k w n : ℕ) → Lawful t h → IsClosed t.topology (before k h) w → n ≤ w → serial_at h n ≡ serial_at (before k h) n
serial_before t h k w n lawful closed le = serial_same (begun_at h) (begun_at (before k h)) n (λ version less. begun_earlier t h k w version lawful closed (omega (arith, less, le)))

-- a watermark that was published before an entry is published
published_before : (h : History) (k n : ℕ) → IsPublished (before k h) n → IsPublished h n
published_before h k n (inl nothing) = inl nothing
published_before h k n (inr old) = inr (record { settler = old.settler; round = old.round; mode = old.mode; from = old.from; number = old.number; asked = at_before h k old.number _ old.asked })

-- The reply is expected, and no version below its watermark was drawn any more before the entry that computed it.
pub record IsComputed (t : Setting) (h : History) (k g s c : ℕ) (reply : Reply) : Type 0 where
  pub expected : Expected h g s c reply
  pub closed : IsClosed t.topology (before k h) expected.watermark

-- what a settler computed is expected
computed : (t : Setting) → IsShape t.topology → (h : History) (k settler g s c : ℕ) (place : Place) (reply : Reply) → Lawful t h
    → at h k ≡ Some (record { actor = Settler settler; kind = Resulted place s c g reply }) → IsComputed t h k g s c reply
computed t shape h k settler g s c place reply lawful there =
    let old = before k h in
    let lawful_old : Lawful t old = lawful_before t h k lawful in
    let may : MayResult t.topology old place settler s c g reply = (lawful_at t h k _ lawful there).guard in
    let w = settled settler old in
    let closed : IsClosed t.topology old w = settled_closed t shape old settler lawful_old in
    let wanted = letter_at t.topology old place.entry place.letter _ may.sent.there in
    let begun : wanted.0 ≡ record { actor = Gate g; kind = Began s c may.start } = want_sent t.topology wanted.0 place.letter s c g may.start wanted.2 in
    let maps : (n : ℕ) → n ≤ w → known_below settler old n ≡ serial_at h n =
    λ n le. (λ i key. known_is_serial t shape old settler n key lawful_old le i) ∙ sym (serial_before t h k w n lawful closed le) in
    record {
      expected = record {
        start = may.start;
        number = place.entry;
        begun = at_before h k place.entry _ wanted.1 ∙ ap (λ (e : Entry). Some e) begun;
        watermark = w;
        published = published_before h k w (settler_stands t shape old settler lawful_old).published;
        shows = shows_alike (known_below settler old) (serial_at h) w may.start reply maps may.shows;
      };
      closed = closed;
    }

-- A reply was computed in an entry that stands before it.
pub record IsAnswered (t : Setting) (h : History) (k g s c : ℕ) (reply : Reply) : Type 0 where
  pub number : ℕ
  pub entry : Entry
  pub there : at h number ≡ Some entry
  pub earlier : number < k
  pub is : IsComputed t h number g s c reply

-- a reply was computed before
pub replied_is_answered : (t : Setting) → IsShape t.topology → (h : History) (k g s c : ℕ) (place : Place) (reply : Reply) → Lawful t h
    → at h k ≡ Some (record { actor = Gate g; kind = Replied place s c reply }) → IsAnswered t h k g s c reply
replied_is_answered t shape h k g s c place reply lawful there =
    let may : MayReply t (before k h) place g s c reply = (lawful_at t h k _ lawful there).guard in
    let sent = letter_at t.topology (before k h) place.entry place.letter _ may.sent.there in
    let by_settler = result_sent t.topology sent.0 place.letter s c g reply sent.2 in
    let resulted : Entry = record { actor = Settler by_settler.0; kind = Resulted by_settler.1 s c g reply } in
    let stood : at (before k h) place.entry ≡ Some resulted = sent.1 ∙ ap (λ (e : Entry). Some e) by_settler.2 in
    let low : place.entry ≤ length (before k h) = at_most (before k h) place.entry resulted stood in
    let high : length (before k h) + 1 ≡ k = before_length h k _ there in
    record {
      number = place.entry;
      entry = resulted;
      there = at_before h k place.entry resulted stood;
      earlier = omega (arith, low, high);
      is = computed t shape h place.entry by_settler.0 g s c by_settler.1 reply lawful (at_before h k place.entry resulted stood);
    }

-- every reply is expected
pub replied_is_expected : (t : Setting) → IsShape t.topology → (h : History) (k g s c : ℕ) (place : Place) (reply : Reply) → Lawful t h
    → at h k ≡ Some (record { actor = Gate g; kind = Replied place s c reply }) → Expected h g s c reply
replied_is_expected t shape h k g s c place reply lawful there = (replied_is_answered t shape h k g s c place reply lawful there).is.expected

-- ---- later draws

-- what was closed before an entry is closed before a later one
closed_between : (t : Shape) (h : History) (i j w : ℕ) (e : Entry) → at h i ≡ Some e → i < j → j ≤ length h → IsClosed t (before i h) w → IsClosed t (before j h) w
closed_between t h i j w e there less within closed g known =
    let stood : at (before j h) i ≡ Some e = at_earlier h j i e there less within in
    let past : before i (before j h) ≡ before i h = before_before h j i e stood in
    let under : w ≤ number (last g (before i h) + 1) g = closed g known in
    let grown : last g (before i (before j h)) ≤ last g (before j h) = last_before g (before j h) i in
    let same : last g (before i (before j h)) ≡ last g (before i h) = ap (last g) past in
    omega (arith, under, grown, same)

-- a draw that stands after a reply is not below what the reply reaches
pub draw_after_reply : (t : Setting) → IsShape t.topology → (h : History) (k j g s c : ℕ) (place : Place) (reply : Reply) (e : Entry) (drawn : Drawn) → Lawful t h → k < j
    → at h k ≡ Some (record { actor = Gate g; kind = Replied place s c reply }) → at h j ≡ Some e → drawn_in e.kind ≡ Some drawn → floor_of reply ≤ drawn.version
draw_after_reply t shape h k j g s c place reply e drawn lawful less there here is =
    let answered = replied_is_answered t shape h k g s c place reply lawful there in
    let expected = answered.is.expected in
    let w = expected.watermark in
    let earlier : answered.number < k = answered.earlier in
    let closed = closed_between t.topology h answered.number j w answered.entry answered.there (omega (arith, earlier, less)) (at_most h j e here) answered.is.closed in
    let may = lawful_at t h j e lawful here in
    let own = drawn_by_gate t (before j h) e.actor e.kind drawn may.guard is in
    let above : w ≤ drawn.version = draw_above t (before j h) e own.0 drawn w closed may own.1 in
    let reach : floor_of reply ≤ w = shows_reach (serial_at h) w expected.start reply expected.shows in
    omega (arith, above, reach)

-- a version that is drawn after a reply is not below what the reply reaches
pub drawn_after : (t : Setting) (h : History) (reply : Reply) (v : ℕ) → IsRun t h → DrawnAfter h reply v → floor_of reply ≤ v
drawn_after t h reply v run after =
    let old = after.replied in
    let new = after.drawn in
    let reach : floor_of reply ≤ new.drawn.version =
    draw_after_reply t run.0 h after.earlier after.later old.gate after.session old.seq old.place reply new.entry new.drawn run.1 after.less old.there new.there new.draws in
    subst (λ (n : ℕ). floor_of reply ≤ n) new.version_is reach
