-- The commands of a session begin and are replied one after another, and no snapshot is older than an earlier reply of its session.
use Rattle.std.proofs.Common.{◌≡◌, ◌==◌, ℕ, ◌+◌, ◌≤◌, ◌<◌, Bool, true, false, inl, inr, Some, Option, List, [], ◌∷◌, ◌++◌, length, refl, sym, ap, subst, ◌∙◌, ltb, arith}
use Rattle.std.specs.Prelude.{if◌then◌else◌, slice_get}
use Rattle.std.proofs.lemmas.Grind.{common_steps}
use Rattle.std.proofs.lemmas.Bool.{cases_Bool, ltb-true, ltb-false}
use Rattle.std.proofs.lemmas.Bool.Decides.{eqb_tells}
use Rattle.ov_functor.specs.Execution.{Map, hold, moves_of, got}
use Rattle.ov_functor.specs.declared.command.Command.{Command}
use Rattle.ov_functor.specs.declared.command.Command.TheVariants as commands
use Rattle.ov_functor.specs.declared.item.Shown.{Shown}
use Rattle.ov_functor.specs.declared.reply.Reply.{Reply}
use Rattle.ov_functor.specs.declared.reply.Reply.TheVariants.{Done, Aborted, Snap}
use Rattle.ov_topology.specs.Shape.{IsShape}
use Rattle.ov_topology.specs.declared.actor.Actor.TheVariants.{Gate}
use Rattle.ov_topology.specs.declared.place.Place.{Place}
use Rattle.ov_session.specs.Events.{Event, greatest, begun_in, replied_in, floor_in, floor_of, begun, replied, floor}
use Rattle.ov_session.specs.Events as events
use Rattle.ov_session.specs.declared.plan.SessionPlan.{SessionPlan}
use Rattle.ov_event.specs.declared.entry.Entry.{Entry}
use Rattle.ov_event.specs.declared.kind.Kind.{Kind}
use Rattle.ov_event.specs.declared.kind.Kind.TheVariants.{Began, Replied}
use Rattle.ov_event.specs.declared.start.Start.{Start}
use Rattle.ov_event.specs.declared.start.Start.TheVariants.{Draw, Look}
use Rattle.ov_history.specs.Past.{History, at, before}
use Rattle.ov_history.specs.May.{Setting, Lawful, MayStart, MayReply, StartsAs}
use Rattle.ov_history.specs.Sessions.{events_in, events_by, events_of}
use Rattle.ov_history.specs.Settlers.{shown, Shows}
use Rattle.ov_history.specs.Serial.{serial_at}
use Rattle.ov_history.proofs.Past.{lawful_at, at_most}
use Rattle.ov_laws.proofs.History.Earlier.{at_earlier}
use Rattle.ov_laws.proofs.Values.Shown.{replied_is_expected}
use Rattle.ov_laws.proofs.History.Gathered.{greatest_grows}
use Rattle.ov_history.proofs.Sessions.{of_itself}
use Rattle.ov_laws.specs.Entries.{began_by, replied_by}

-- ---- what events tell

-- what the event of an entry tells is at most the greatest
pub event_under : (f : Event → ℕ) (g : ℕ) (h : History) (k : ℕ) (kind : Kind) (event : Event) → at h k ≡ Some (record { actor = Gate g; kind = kind }) → events_in kind ≡ event ∷ []
    → f event ≤ greatest f (events_of g h)
event_under f g [] k kind event there is = absurd (cc)
event_under f g (e ∷ h) k kind event there is = by (k == length h + 1) there (event_under f g h k kind event)
  where
    mine : (b : Bool) → b ≡ true → f event ≤ greatest f ((if b then events_in kind else []) ++ events_of g h)
    mine true own = rw is (grind (arith))
    mine false own = absurd (cc)

    by : (b : Bool) → (if b then Some e else at h k) ≡ Some (record { actor = Gate g; kind = kind })
        → (at h k ≡ Some (record { actor = Gate g; kind = kind }) → events_in kind ≡ event ∷ [] → f event ≤ greatest f (events_of g h)) → f event ≤ greatest f (events_of g (e ∷ h))
    by true same rest =
        let newest : ◌≡◌ {A = Entry} e (record { actor = Gate g; kind = kind }) = cc in
        subst (λ (one : Entry). f event ≤ greatest f (events_of g (one ∷ h))) (sym newest) (mine (g == g) (grind (arith, common_steps)))
    by false same rest =
        let old : f event ≤ greatest f (events_of g h) = rest same is in
        let more : greatest f (events_of g h) ≤ greatest f (events_by g e ++ events_of g h) = greatest_grows f (events_by g e) (events_of g h) in
        omega (arith, old, more)

-- a command that began before an entry was begun then
begun_before_entry : (h : History) (i j g s c : ℕ) (start : Start) → at h i ≡ Some (began_by g s c start) → i < j → j ≤ length h → c ≤ begun s (events_of g (before j h))
begun_before_entry h i j g s c start there less within =
    let under : begun_in s (events.Begun s c) ≤ begun s (events_of g (before j h)) =
    event_under (begun_in s) g (before j h) i (Began s c start) (events.Begun s c) (at_earlier h j i _ there less within) refl in
    let same : begun_in s (events.Begun s c) ≡ c = of_itself s c in
    omega (arith, under, same)

-- a command that was replied before an entry was replied then
replied_before_entry : (h : History) (i j g s c : ℕ) (place : Place) (reply : Reply) → at h i ≡ Some (replied_by g s c place reply) → i < j → j ≤ length h → c ≤ replied s (events_of g (before j h))
replied_before_entry h i j g s c place reply there less within =
    let under : replied_in s (events.Replied s c reply) ≤ replied s (events_of g (before j h)) =
    event_under (replied_in s) g (before j h) i (Replied place s c reply) (events.Replied s c reply) (at_earlier h j i _ there less within) refl in
    let same : replied_in s (events.Replied s c reply) ≡ c = of_itself s c in
    omega (arith, under, same)

-- what a reply before an entry reaches is at most the session's floor then
floor_before_entry : (h : History) (i j g s c : ℕ) (place : Place) (reply : Reply) → at h i ≡ Some (replied_by g s c place reply) → i < j → j ≤ length h → floor_of reply ≤ floor s (events_of g (before j h))
floor_before_entry h i j g s c place reply there less within =
    let under : floor_in s (events.Replied s c reply) ≤ floor s (events_of g (before j h)) =
    event_under (floor_in s) g (before j h) i (Replied place s c reply) (events.Replied s c reply) (at_earlier h j i _ there less within) refl in
    let same : floor_in s (events.Replied s c reply) ≡ floor_of reply = of_itself s (floor_of reply) in
    omega (arith, under, same)

-- ---- the gateway of a session

-- The session is the gateway's.
record IsOwn (t : Setting) (g s : ℕ) : Type 0 where
  plan : SessionPlan
  session : slice_get t.roster.sessions s ≡ Some plan
  own : plan.gate ≡ g

-- a session has one gateway
own_once : (t : Setting) (g f s : ℕ) → IsOwn t g s → IsOwn t f s → g ≡ f
own_once t g f s one other =
    let both : ◌≡◌ {A = Option SessionPlan} (Some one.plan) (Some other.plan) = sym one.session ∙ other.session in
    let same : one.plan ≡ other.plan = cc in
    sym one.own ∙ (ap (λ (plan : SessionPlan). plan.gate) same ∙ other.own)

-- what lets a command begin, where it began
began_may : (t : Setting) (h : History) (i g s c : ℕ) (start : Start) → Lawful t h → at h i ≡ Some (began_by g s c start) → MayStart t (before i h) g s c start
began_may t h i g s c start lawful there = (lawful_at t h i _ lawful there).guard

-- what lets a command be replied, where it was
replied_may : (t : Setting) (h : History) (i g s c : ℕ) (place : Place) (reply : Reply) → Lawful t h → at h i ≡ Some (replied_by g s c place reply) → MayReply t (before i h) place g s c reply
replied_may t h i g s c place reply lawful there = (lawful_at t h i _ lawful there).guard

-- a session whose command began at a gateway is the gateway's
began_own : (t : Setting) (h : History) (i g s c : ℕ) (start : Start) → Lawful t h → at h i ≡ Some (began_by g s c start) → IsOwn t g s
began_own t h i g s c start lawful there =
    let may = began_may t h i g s c start lawful there in
    record { plan = may.ready.plan; session = may.ready.session; own = may.ready.own }

-- a session whose command was replied at a gateway is the gateway's
replied_own : (t : Setting) (h : History) (i g s c : ℕ) (place : Place) (reply : Reply) → Lawful t h → at h i ≡ Some (replied_by g s c place reply) → IsOwn t g s
replied_own t h i g s c place reply lawful there =
    let may = replied_may t h i g s c place reply lawful there in
    record { plan = may.plan; session = may.session; own = may.own }

-- ---- the order of a session

-- a command that begins later has a greater number
pub begins_rise : (t : Setting) (h : History) (i j g f s c d : ℕ) (start other : Start) → Lawful t h → i < j → at h i ≡ Some (began_by g s c start) → at h j ≡ Some (began_by f s d other) → c < d
begins_rise t h i j g f s c d start other lawful less there here =
    let same : g ≡ f = own_once t g f s (began_own t h i g s c start lawful there) (began_own t h j f s d other lawful here) in
    let next : d ≡ begun s (events_of f (before j h)) + 1 = (began_may t h j f s d other lawful here).ready.next in
    let was : c ≤ begun s (events_of f (before j h)) = begun_before_entry h i j f s c start (there ∙ ap (λ n. Some (began_by n s c start)) same) less (at_most h j _ here) in
    omega (arith, next, was)

-- a command that is replied later has a greater number
pub replies_rise : (t : Setting) (h : History) (i j g f s c d : ℕ) (place from : Place) (reply other : Reply) → Lawful t h → i < j
    → at h i ≡ Some (replied_by g s c place reply) → at h j ≡ Some (replied_by f s d from other) → c < d
replies_rise t h i j g f s c d place from reply other lawful less there here =
    let same : g ≡ f = own_once t g f s (replied_own t h i g s c place reply lawful there) (replied_own t h j f s d from other lawful here) in
    let next : d ≡ replied s (events_of f (before j h)) + 1 = (replied_may t h j f s d from other lawful here).next in
    let was : c ≤ replied s (events_of f (before j h)) = replied_before_entry h i j f s c place reply (there ∙ ap (λ n. Some (replied_by n s c place reply)) same) less (at_most h j _ here) in
    omega (arith, next, was)

-- a command that is replied after one began is that one or a later one
pub reply_after_begin : (t : Setting) (h : History) (i j g f s c d : ℕ) (start : Start) (place : Place) (reply : Reply) → Lawful t h → i < j
    → at h i ≡ Some (began_by g s c start) → at h j ≡ Some (replied_by f s d place reply) → c ≤ d
reply_after_begin t h i j g f s c d start place reply lawful less there here =
    let same : g ≡ f = own_once t g f s (began_own t h i g s c start lawful there) (replied_own t h j f s d place reply lawful here) in
    let last : d ≡ begun s (events_of f (before j h)) = (replied_may t h j f s d place reply lawful here).begun_is in
    let was : c ≤ begun s (events_of f (before j h)) = begun_before_entry h i j f s c start (there ∙ ap (λ n. Some (began_by n s c start)) same) less (at_most h j _ here) in
    omega (arith, last, was)

-- a command that begins after one was replied has a greater number
pub begin_after_reply : (t : Setting) (h : History) (i j g f s c d : ℕ) (place : Place) (reply : Reply) (start : Start) → Lawful t h → i < j
    → at h i ≡ Some (replied_by g s c place reply) → at h j ≡ Some (began_by f s d start) → c < d
begin_after_reply t h i j g f s c d place reply start lawful less there here =
    let same : g ≡ f = own_once t g f s (replied_own t h i g s c place reply lawful there) (began_own t h j f s d start lawful here) in
    let may = began_may t h j f s d start lawful here in
    let next : d ≡ begun s (events_of f (before j h)) + 1 = may.ready.next in
    let idle : begun s (events_of f (before j h)) ≡ replied s (events_of f (before j h)) = may.ready.idle in
    let was : c ≤ replied s (events_of f (before j h)) = replied_before_entry h i j f s c place reply (there ∙ ap (λ n. Some (replied_by n s c place reply)) same) less (at_most h j _ here) in
    omega (arith, next, idle, was)

-- ---- snapshots

-- the watermark of a shown snapshot is not below the least of its start
snap_above : (maps : ℕ → Map) (w n : ℕ) (start : Start) (list : List Shown) (low : ℕ) → Shows maps w start (Snap n list)
    → ((least : ℕ) (keys : List (List ℕ)) → start ≡ Look least keys → low ≤ least) → low ≤ n
snap_above maps w n (Draw version transaction) list low shows above = by (hold (maps version) (moves_of transaction)) shows.1
  where
    by : (b : Bool) → Snap n list ≡ (if b then Done version (got (maps version) transaction) else Aborted version (got (maps version) transaction)) → low ≤ n
    by true is = absurd (cc)
    by false is = absurd (cc)
snap_above maps w n (Look least keys) list low shows above =
    let is : ◌≡◌ {A = Reply} (Snap n list) (Snap w (shown (maps w) keys)) = shows.1 in
    let same : n ≡ w = cc in
    let under : least ≤ w = shows.0 in
    let over : low ≤ least = above least keys refl in
    omega (arith, same, under, over)

-- a snapshot that began has the floor of its session then
pub look_floor : (h : History) (g s : ℕ) (command : Command) (least : ℕ) (keys : List (List ℕ)) → StartsAs h g s command (Look least keys) → least ≡ floor s (events_of g h)
look_floor h g s (commands.Transact parts) least keys starts = absurd starts
look_floor h g s (commands.Snap list) least keys starts = starts.1

-- the floor of a snapshot that begins after a reply of its session is not below what that reply reaches
pub floor_after_reply : (t : Setting) (h : History) (j i g f s c d least : ℕ) (place : Place) (reply : Reply) (keys : List (List ℕ)) → Lawful t h → j < i
    → at h j ≡ Some (replied_by g s c place reply) → at h i ≡ Some (began_by f s d (Look least keys)) → floor_of reply ≤ least
floor_after_reply t h j i g f s c d least place reply keys lawful less there here =
    let same : g ≡ f = own_once t g f s (replied_own t h j g s c place reply lawful there) (began_own t h i f s d (Look least keys) lawful here) in
    let may = began_may t h i f s d (Look least keys) lawful here in
    let bound : floor_of reply ≤ floor s (events_of f (before i h)) = floor_before_entry h j i f s c place reply (there ∙ ap (λ m. Some (replied_by m s c place reply)) same) less (at_most h i _ here) in
    let floor_is : least ≡ floor s (events_of f (before i h)) = look_floor (before i h) f s may.ready.planned.command least keys may.starts in
    omega (arith, bound, floor_is)

-- an entry that begins a command is not one that replies
not_both : (h : History) (i g f s c d : ℕ) (start : Start) (place : Place) (reply : Reply) → at h i ≡ Some (began_by g s c start) → at h i ≡ Some (replied_by f s d place reply) → ⊥
not_both h i g f s c d start place reply began replied =
    let both : ◌≡◌ {A = Option Entry} (Some (began_by g s c start)) (Some (replied_by f s d place reply)) = sym began ∙ replied in
    let same : began_by g s c start ≡ replied_by f s d place reply = cc in
    let kinds : Began s c start ≡ Replied place s d reply = ap (λ (e : Entry). e.kind) same in
    absurd (cc)

-- a number that is neither below another nor that one is above it
above_by : (i j : ℕ) → (i < j → ⊥) → (i ≡ j → ⊥) → j < i
above_by i j not_below not_same = elim (cases_Bool (ltb i j)) [
  | inl low ↦ absurd (not_below (ltb-true i j low))
  | inr high ↦ elim (eqb_tells i j) [
    | inl one ↦ absurd (not_same one.1)
    | inr other ↦ let over : j ≤ i = ltb-false i j high in omega (arith, over, other.1)
  ]
]

-- the watermark of a snapshot is not below what an earlier reply of its session reaches
pub snap_after_reply : (t : Setting) → IsShape t.topology → (h : History) (j k g f s c d n : ℕ) (place from : Place) (reply : Reply) (list : List Shown) → Lawful t h → j < k
    → at h j ≡ Some (replied_by g s c place reply) → at h k ≡ Some (replied_by f s d from (Snap n list)) → floor_of reply ≤ n
snap_after_reply t shape h j k g f s c d n place from reply list lawful less there here =
    let expected = replied_is_expected t shape h k f s d from (Snap n list) lawful here in
    let i = expected.number in
    let rises : c < d = replies_rise t h j k g f s c d place from reply (Snap n list) lawful less there here in
    let later : j < i = above_by i j
    (λ low. let bad : d ≤ c = reply_after_begin t h i j f g s d c expected.start place reply lawful low expected.begun there in omega (arith, bad, rises))
    (λ one. not_both h j f g s d c expected.start place reply (ap (at h) (sym one) ∙ expected.begun) there) in
    snap_above (serial_at h) expected.watermark n expected.start list (floor_of reply) expected.shows
    (λ least keys is. floor_after_reply t h j i g f s c d least place reply keys lawful later there (expected.begun ∙ ap (λ (start : Start). Some (began_by f s d start)) is))
