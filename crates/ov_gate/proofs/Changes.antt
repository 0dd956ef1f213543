-- What is kept of drawn versions, after an acknowledgement, a reply, and a command that begins.
use Rattle.std.proofs.Common.{◌≡◌, ◌≢◌, ℕ, ◌+◌, ◌<◌, ◌≤◌, max, Bool, true, false, not, ◌==◌, ◌&&◌, ◌||◌, Option, Some, None, List, [], ◌∷◌, get_or, refl, sym, ap, ◌∙◌, arith, inl, inr, ◌⊎◌}
use Rattle.std.specs.Prelude.{if◌then◌else◌, nat_lt}
use Rattle.std.proofs.lemmas.Bool.{ltb-true, lt-ltb, eq-eqb, eqb-true, and_parts, both_ways, false_from_ne_true}
use Rattle.std.proofs.lemmas.Bool.Decides.{eqb_tells}
use Rattle.std.proofs.lemmas.Grind.{common_steps}
use Rattle.ov_base.specs.Version.{time_of}
use Rattle.ov_functor.specs.declared.part.Part.{Part}
use Rattle.ov_functor.specs.declared.reply.Reply.{Reply}
use Rattle.ov_gossip.specs.declared.marks.Marks.{Marks}
use Rattle.ov_topology.specs.Shape.{Shape, IsShape}
use Rattle.ov_topology.specs.declared.actor.Actor.TheVariants.{Gate}
use Rattle.ov_topology.specs.declared.place.Place.{Place}
use Rattle.ov_session.specs.Events.{begun, replied}
use Rattle.ov_event.specs.declared.entry.Entry.{Entry}
use Rattle.ov_event.specs.declared.kind.Kind.{Kind}
use Rattle.ov_event.specs.declared.kind.Kind.TheVariants.{Began, Acked, Published, Heard, Replied, Told, Stopped}
use Rattle.ov_event.specs.declared.start.Start.{Start}
use Rattle.ov_event.specs.declared.start.Start.TheVariants.{Draw}
use Rattle.ov_history.specs.Past.{History}
use Rattle.ov_history.specs.Draws.{Drawn, last}
use Rattle.ov_history.specs.Placement.{acked}
use Rattle.ov_history.specs.Marks.{lacks_quorum, lacks_copies, replied_to}
use Rattle.ov_history.specs.Sessions.{events_of}
use Rattle.ov_base.specs.Small.{with_number}
use Rattle.ov_gate.specs.Tracked.{node_number, is_acked, recounted, with_ack, with_reply, IsNew}
use Rattle.ov_gate.specs.Tracker.{at_version}
use Rattle.ov_gate.specs.Gate.{Tracks}
use Rattle.ov_base.specs.declared.small.SmallSet.{SmallSet}
use Rattle.ov_gate.specs.declared.tracked.Tracked.{Tracked}
use Rattle.ov_base.proofs.SmallSets.{empty_has, with_has, with_others}
use Rattle.ov_gate.proofs.Kept.{quorum_found, copies_found, quorum_same, copies_same, quorum_stays, copies_stay, Leaves}

-- the gateway's entry of this kind
abbrev pub by_gate : ℕ → Kind → Entry
by_gate g kind = record { actor = Gate g; kind = kind }

-- a test of two numbers either way round
eqb_swap : (a b : ℕ) → (a == b) ≡ (b == a)
eqb_swap a b = elim (eqb_tells a b) [ inl same ↦ rw (same.0, eq-eqb b a (sym same.1)) refl | inr other ↦ other.0 ∙ sym (false_from_ne_true (b == a) (λ is. other.1 (sym (eqb-true b a is)))) ]

-- ---- entries that change nothing that is kept of drawn versions

module _ (g : ℕ) (h : History) where
  pub published_leaves : (time : ℕ) (vector : List Marks) → Leaves g h (by_gate g (Published time vector) ∷ h)
  published_leaves time vector = record {
    acks = λ v c p. grind (arith, common_steps);
    replies = λ s c. grind (arith, common_steps);
    begins = λ s. grind (arith, common_steps);
    times = grind (arith, common_steps);
  }

  pub heard_leaves : (place : Place) (vector : List Marks) → Leaves g h (by_gate g (Heard place vector) ∷ h)
  heard_leaves place vector = record {
    acks = λ v c p. grind (arith, common_steps);
    replies = λ s c. grind (arith, common_steps);
    begins = λ s. grind (arith, common_steps);
    times = grind (arith, common_steps);
  }

  pub told_leaves : (place : Place) (session seq : ℕ) → Leaves g h (by_gate g (Told place session seq) ∷ h)
  told_leaves place session seq = record {
    acks = λ v c p. grind (arith, common_steps);
    replies = λ s c. grind (arith, common_steps);
    begins = λ s. grind (arith, common_steps);
    times = grind (arith, common_steps);
  }

  pub stopped_leaves : Leaves g h (by_gate g Stopped ∷ h)
  stopped_leaves = record {
    acks = λ v c p. grind (arith, common_steps);
    replies = λ s c. grind (arith, common_steps);
    begins = λ s. grind (arith, common_steps);
    times = grind (arith, common_steps);
  }

-- ---- an acknowledgement

-- a node is found by its number
ack_has : (t : Shape) (acks : SmallSet) (c p d q : ℕ) → IsShape t → c < t.centres → p < t.partitions → q < t.partitions
    → is_acked (with_number (node_number c p) acks) q d ≡ (((c == d) && (p == q)) || is_acked acks q d)
ack_has t acks c p d q shape inside within other =
    let small : node_number c p < 64 = omega (arith, inside, within, shape.few_centres, shape.few_partitions) in
    elim (eqb_tells c d) [
      | inl centre ↦ elim (eqb_tells p q) [
        | inl part ↦ rw (centre.0, part.0, sym centre.1, sym part.1) (with_has (node_number c p) acks small)
        | inr apart ↦ rw (centre.0, apart.0) (with_others (node_number c p) (node_number d q) acks small (λ same. apart.1 (omega (arith, same, centre.1))))
      ]
      | inr apart ↦ rw apart.0 (with_others (node_number c p) (node_number d q) acks small (λ same. apart.1 (omega (arith, same, within, other, shape.few_partitions))))
    ]

module _ (t : Shape) (g : ℕ) (h : History) (latest : List (Option ℕ)) (place : Place) (v c p : ℕ) where
  abbrev with_acked : History
  with_acked = by_gate g (Acked place v c p) ∷ h

  -- which nodes have acknowledged a version
  acked_more : (u d q : ℕ) → acked g u d q with_acked ≡ (((v == u) && ((c == d) && (p == q))) || acked g u d q h)
  acked_more u d q = grind (arith, common_steps)

  -- an acknowledgement that was taken stays taken
  acked_stays : (u d q : ℕ) → acked g u d q h ≡ true → acked g u d q with_acked ≡ true
  acked_stays u d q yet = grind (arith, common_steps)

  replies_stay : (s n : ℕ) → replied_to g s n with_acked ≡ replied_to g s n h
  replies_stay s n = grind (arith, common_steps)

  begins_stay : (s : ℕ) → begun s (events_of g with_acked) ≡ begun s (events_of g h)
  begins_stay s = grind (arith, common_steps)

  pub acked_last : last g with_acked ≡ last g h
  acked_last = grind (arith, common_steps)

  -- what is kept of a version that the acknowledgement does not change
  keeps : (drawn : Drawn) (one : Tracked) → ((d q : ℕ) → q < t.partitions → d < t.centres → acked g drawn.version d q with_acked ≡ acked g drawn.version d q h)
      → lacks_quorum t g with_acked drawn ≡ lacks_quorum t g h drawn → lacks_copies t g with_acked drawn ≡ lacks_copies t g h drawn → Tracks t g h latest drawn one → Tracks t g with_acked latest drawn one
  keeps drawn one same quorum copies tracks = record {
    version_is = tracks.version_is;
    session_is = tracks.session_is;
    seq_is = tracks.seq_is;
    touched_is = tracks.touched_is;
    acked_is = λ q d inside there. tracks.acked_is q d inside there ∙ sym (same d q inside there);
    quorum_is = tracks.quorum_is ∙ sym quorum;
    copies_is = tracks.copies_is ∙ sym copies;
    reply_is = tracks.reply_is ∙ sym (ap not (replies_stay drawn.session drawn.seq));
    early = rw acked_last tracks.early;
    within = rw (begins_stay drawn.session) tracks.within;
    latest_is = rw (begins_stay drawn.session) tracks.latest_is;
  }

  -- another version is kept as it was
  others : (drawn : Drawn) (one : Tracked) → (v == drawn.version) ≡ false → Tracks t g h latest drawn one → Tracks t g with_acked latest drawn one
  others drawn one other tracks =
      let same : (d q : ℕ) → acked g drawn.version d q with_acked ≡ acked g drawn.version d q h = λ d q. acked_more drawn.version d q ∙ rw other refl in
      keeps drawn one (λ d q inside there. same d q) (quorum_same t g h with_acked drawn same) (copies_same t g h with_acked drawn same) tracks

  -- a node that the topology does not have changes nothing
  strangers : (drawn : Drawn) (one : Tracked) → (nat_lt c t.centres && nat_lt p t.partitions) ≡ false → Tracks t g h latest drawn one → Tracks t g with_acked latest drawn one
  strangers drawn one stranger tracks =
      let same : (d q : ℕ) → q < t.partitions → d < t.centres → acked g drawn.version d q with_acked ≡ acked g drawn.version d q h = λ d q inside there. acked_more drawn.version d q ∙ apart d q inside there in
      let quorum : lacks_quorum t g with_acked drawn ≡ lacks_quorum t g h drawn = sym (quorum_found t g with_acked drawn one.touched one.acked tracks.touched_is (λ q d inside there. tracks.acked_is q d inside there ∙ sym (same d q inside there))) ∙ quorum_found t g h drawn one.touched one.acked tracks.touched_is tracks.acked_is in
      let copies : lacks_copies t g with_acked drawn ≡ lacks_copies t g h drawn = sym (copies_found t g with_acked drawn one.touched one.acked tracks.touched_is (λ q d inside there. tracks.acked_is q d inside there ∙ sym (same d q inside there))) ∙ copies_found t g h drawn one.touched one.acked tracks.touched_is tracks.acked_is in
      keeps drawn one same quorum copies tracks
    where
      apart : (d q : ℕ) → q < t.partitions → d < t.centres → (((v == drawn.version) && ((c == d) && (p == q))) || acked g drawn.version d q h) ≡ acked g drawn.version d q h
      apart d q inside there =
          elim (eqb_tells c d) [
            | inl centre ↦ elim (eqb_tells p q) [
              | inl part ↦ absurd (both_ways (nat_lt c t.centres && nat_lt p t.partitions) stranger (rw (lt-ltb c t.centres (omega (arith, there, centre.1)), lt-ltb p t.partitions (omega (arith, inside, part.1))) refl))
              | inr other ↦ rw other.0 (grind (arith, common_steps))
            ]
            | inr other ↦ rw other.0 (grind (arith, common_steps))
          ]

  -- a node of the topology is noted
  noted : (drawn : Drawn) (one : Tracked) → IsShape t → c < t.centres → p < t.partitions → v ≡ drawn.version → Tracks t g h latest drawn one
      → Tracks t g with_acked latest drawn (recounted t (record one { acked = with_number (node_number c p) one.acked }))
  noted drawn one shape inside within is tracks =
      let now : (q d : ℕ) → q < t.partitions → d < t.centres → is_acked (with_number (node_number c p) one.acked) q d ≡ acked g drawn.version d q with_acked
      = λ q d there here. ack_has t one.acked c p d q shape inside within there ∙ (rw (tracks.acked_is q d there here) (sym (acked_more drawn.version d q ∙ rw (eq-eqb v drawn.version is) refl))) in
      record {
        version_is = tracks.version_is;
        session_is = tracks.session_is;
        seq_is = tracks.seq_is;
        touched_is = tracks.touched_is;
        acked_is = now;
        quorum_is = still one.lacks_quorum (lacks_quorum t g h drawn) (lacks_quorum t g with_acked drawn) _ tracks.quorum_is (quorum_found t g with_acked drawn one.touched (with_number (node_number c p) one.acked) tracks.touched_is now) (quorum_stays t g h with_acked drawn (acked_stays drawn.version));
        copies_is = still one.lacks_copies (lacks_copies t g h drawn) (lacks_copies t g with_acked drawn) _ tracks.copies_is (copies_found t g with_acked drawn one.touched (with_number (node_number c p) one.acked) tracks.touched_is now) (copies_stay t g h with_acked drawn (acked_stays drawn.version));
        reply_is = tracks.reply_is ∙ sym (ap not (replies_stay drawn.session drawn.seq));
        early = rw acked_last tracks.early;
        within = rw (begins_stay drawn.session) tracks.within;
        latest_is = rw (begins_stay drawn.session) tracks.latest_is;
      }
    where
      still : (had was is_ found : Bool) → had ≡ was → found ≡ is_ → (was ≡ false → is_ ≡ false) → (had && found) ≡ is_
      still true was is_ found same made stays = made
      still false was is_ found same made stays = sym (stays (sym same))

  -- what is kept of each version is kept with the acknowledgement
  pub tracks_acked : IsShape t → (drawn : Drawn) (one : Tracked) → Tracks t g h latest drawn one → Tracks t g with_acked latest drawn (at_version v (with_ack t c p) one)
  tracks_acked shape drawn one tracks =
      elim (eqb_tells one.version v) [
        | inl same ↦ rw same.0 (by (nat_lt c t.centres && nat_lt p t.partitions) refl (sym same.1 ∙ tracks.version_is))
        | inr other ↦ rw other.0 (others drawn one (false_from_ne_true (v == drawn.version) (λ is. other.1 (tracks.version_is ∙ sym (eqb-true v drawn.version is)))) tracks)
      ]
    where
      by : (b : Bool) → (nat_lt c t.centres && nat_lt p t.partitions) ≡ b → v ≡ drawn.version → Tracks t g with_acked latest drawn (if b then recounted t (record one { acked = with_number (node_number c p) one.acked }) else one)
      by true is version = let parts = and_parts (nat_lt c t.centres) (nat_lt p t.partitions) is in noted drawn one shape (ltb-true c t.centres parts.0) (ltb-true p t.partitions parts.1) version tracks
      by false is version = strangers drawn one is tracks

-- ---- a reply

module _ (t : Shape) (g : ℕ) (h : History) (latest : List (Option ℕ)) (place : Place) (s c : ℕ) (reply : Reply) where
  abbrev with_replied : History
  with_replied = by_gate g (Replied place s c reply) ∷ h

  reply_more : (session seq : ℕ) → replied_to g session seq with_replied ≡ (((s == session) && (c == seq)) || replied_to g session seq h)
  reply_more session seq = grind (arith, common_steps)

  reply_acks : (u d q : ℕ) → acked g u d q with_replied ≡ acked g u d q h
  reply_acks u d q = grind (arith, common_steps)

  reply_begins : (session : ℕ) → begun session (events_of g with_replied) ≡ begun session (events_of g h)
  reply_begins session = grind (arith, common_steps)

  pub replied_last : last g with_replied ≡ last g h
  replied_last = grind (arith, common_steps)

  replied_keeps : (drawn : Drawn) (one : Tracked) (lacking : Bool) → lacking ≡ not (((s == drawn.session) && (c == drawn.seq)) || replied_to g drawn.session drawn.seq h) → Tracks t g h latest drawn one
      → Tracks t g with_replied latest drawn (record one { lacks_reply = lacking })
  replied_keeps drawn one lacking is tracks = record {
    version_is = tracks.version_is;
    session_is = tracks.session_is;
    seq_is = tracks.seq_is;
    touched_is = tracks.touched_is;
    acked_is = λ q d inside there. tracks.acked_is q d inside there ∙ sym (reply_acks drawn.version d q);
    quorum_is = tracks.quorum_is ∙ sym (quorum_same t g h with_replied drawn (λ d q. reply_acks drawn.version d q));
    copies_is = tracks.copies_is ∙ sym (copies_same t g h with_replied drawn (λ d q. reply_acks drawn.version d q));
    reply_is = is ∙ sym (ap not (reply_more drawn.session drawn.seq));
    early = rw replied_last tracks.early;
    within = rw (reply_begins drawn.session) tracks.within;
    latest_is = rw (reply_begins drawn.session) tracks.latest_is;
  }

  -- another command's version is kept as it was
  other_reply : (drawn : Drawn) (one : Tracked) → ((s == drawn.session) && (c == drawn.seq)) ≡ false → Tracks t g h latest drawn one → Tracks t g with_replied latest drawn one
  other_reply drawn one other tracks = replied_keeps drawn one one.lacks_reply (tracks.reply_is ∙ rw other refl) tracks

  -- where the session drew no version, each is kept as it was
  pub tracks_unreplied : c ≡ begun s (events_of g h) → get_or latest s None ≡ None → (drawn : Drawn) (one : Tracked) → Tracks t g h latest drawn one → Tracks t g with_replied latest drawn one
  tracks_unreplied last_is none drawn one tracks = by ((s == drawn.session) && (c == drawn.seq)) refl
    where
      by : (b : Bool) → ((s == drawn.session) && (c == drawn.seq)) ≡ b → Tracks t g with_replied latest drawn one
      by false is = other_reply drawn one is tracks
      by true is =
          let parts = and_parts (s == drawn.session) (c == drawn.seq) is in
          let session : s ≡ drawn.session = eqb-true s drawn.session parts.0 in
          let seq : c ≡ drawn.seq = eqb-true c drawn.seq parts.1 in
          let there : get_or latest drawn.session None ≡ Some drawn.version = tracks.latest_is (sym seq ∙ (last_is ∙ ap (λ n. begun n (events_of g h)) session)) in
          let here : get_or latest s None ≡ Some drawn.version = ap (λ n. get_or latest n None) session ∙ there in
          absurd cc

  -- where the session drew a version last, the reply is noted where it is that one's
  pub tracks_replied : (v : ℕ) → c ≡ begun s (events_of g h) → get_or latest s None ≡ Some v → (drawn : Drawn) (one : Tracked) → Tracks t g h latest drawn one
      → Tracks t g with_replied latest drawn (at_version v (with_reply s c) one)
  tracks_replied v last_is drew drawn one tracks = by ((s == drawn.session) && (c == drawn.seq)) refl (one.version == v) refl
    where
      by : (b : Bool) → ((s == drawn.session) && (c == drawn.seq)) ≡ b → (a : Bool) → (one.version == v) ≡ a → Tracks t g with_replied latest drawn (if a then with_reply s c one else one)
      by false is false at = other_reply drawn one is tracks
      by false is true at =
          let apart : ((one.session == s) && (one.seq == c)) ≡ false = turned ∙ is in
          rw apart (other_reply drawn one is tracks)
        where
          turned : ((one.session == s) && (one.seq == c)) ≡ ((s == drawn.session) && (c == drawn.seq))
          turned = rw (tracks.session_is, tracks.seq_is, eqb_swap drawn.session s, eqb_swap drawn.seq c) refl
      by true is a at =
          let parts = and_parts (s == drawn.session) (c == drawn.seq) is in
          let session : s ≡ drawn.session = eqb-true s drawn.session parts.0 in
          let seq : c ≡ drawn.seq = eqb-true c drawn.seq parts.1 in
          let there : get_or latest drawn.session None ≡ Some drawn.version = tracks.latest_is (sym seq ∙ (last_is ∙ ap (λ n. begun n (events_of g h)) session)) in
          let here : get_or latest s None ≡ Some drawn.version = ap (λ n. get_or latest n None) session ∙ there in
          let version : drawn.version ≡ v = cc in
          let yes_ : a ≡ true = sym at ∙ eq-eqb one.version v (tracks.version_is ∙ version) in
          let own : ((one.session == s) && (one.seq == c)) ≡ true = rw (eq-eqb one.session s (tracks.session_is ∙ sym session), eq-eqb one.seq c (tracks.seq_is ∙ sym seq)) refl in
          rw (yes_, own) (replied_keeps drawn one false (rw is refl) tracks)

-- ---- a command that begins

module _ (t : Shape) (g : ℕ) (h : History) (latest newest : List (Option ℕ)) (s c : ℕ) (start : Start) where
  abbrev with_begun : History
  with_begun = by_gate g (Began s c start) ∷ h

  begun_acks : (u d q : ℕ) → acked g u d q with_begun ≡ acked g u d q h
  begun_acks u d q = grind (arith, common_steps)

  begun_replies : (session seq : ℕ) → replied_to g session seq with_begun ≡ replied_to g session seq h
  begun_replies session seq = grind (arith, common_steps)

  pub begun_more : (session : ℕ) → begun session (events_of g with_begun) ≡ max (if s == session then c else 0) (begun session (events_of g h))
  begun_more session = grind (arith, common_steps)

  -- what is kept of an earlier version
  pub tracks_begun : c ≡ begun s (events_of g h) + 1 → last g h ≤ last g with_begun → ((session : ℕ) → session ≢ s → get_or newest session None ≡ get_or latest session None)
      → (drawn : Drawn) (one : Tracked) → Tracks t g h latest drawn one → Tracks t g with_begun newest drawn one
  tracks_begun next times same drawn one tracks = record {
    version_is = tracks.version_is;
    session_is = tracks.session_is;
    seq_is = tracks.seq_is;
    touched_is = tracks.touched_is;
    acked_is = λ q d inside there. tracks.acked_is q d inside there ∙ sym (begun_acks drawn.version d q);
    quorum_is = tracks.quorum_is ∙ sym (quorum_same t g h with_begun drawn (λ d q. begun_acks drawn.version d q));
    copies_is = tracks.copies_is ∙ sym (copies_same t g h with_begun drawn (λ d q. begun_acks drawn.version d q));
    reply_is = tracks.reply_is ∙ sym (ap not (begun_replies drawn.session drawn.seq));
    early = omega (arith, tracks.early, times);
    within = rw (begun_more drawn.session) (omega (arith, tracks.within));
    latest_is = λ at. by at (eqb_tells drawn.session s);
  }
    where
      by : drawn.seq ≡ begun drawn.session (events_of g with_begun) → (((drawn.session == s) ≡ true) × (drawn.session ≡ s)) ⊎ (((drawn.session == s) ≡ false) × (drawn.session ≢ s)) → get_or newest drawn.session None ≡ Some drawn.version
      by at (inl own) =
          let mine : drawn.seq ≤ begun s (events_of g h) = rw (sym own.1) tracks.within in
          let now : drawn.seq ≡ max c (begun s (events_of g h)) = at ∙ (begun_more drawn.session ∙ rw (own.1, eq-eqb s s refl) refl) in
          absurd (omega (arith, mine, now, next))
      by at (inr apart) =
          let now : begun drawn.session (events_of g with_begun) ≡ begun drawn.session (events_of g h) = begun_more drawn.session ∙ rw (eqb_swap s drawn.session, apart.0) (omega arith) in
          same drawn.session apart.1 ∙ tracks.latest_is (at ∙ now)

-- ---- a version that is drawn

-- a command that is replied is not after the last that is
replied_below : (g s c : ℕ) (h : History) → replied_to g s c h ≡ true → c ≤ replied s (events_of g h)
replied_below g s c [] is = absurd cc
replied_below g s c (e ∷ h) is = by e.kind refl (replied_below g s c h)
  where
    by : (k : Kind) → e.kind ≡ k → (replied_to g s c h ≡ true → c ≤ replied s (events_of g h)) → c ≤ replied s (events_of g (e ∷ h))
    by (Replied place session seq reply) same rest = grind (arith, common_steps)
    by k same rest = grind (arith, common_steps)

-- what is kept of the version that the command draws
pub tracks_new : (t : Shape) (g : ℕ) (h : History) (newest : List (Option ℕ)) (s c v : ℕ) (parts : List Part) (one : Tracked) → IsNew t v s c parts one
    → c ≡ begun s (events_of g h) + 1 → begun s (events_of g h) ≡ replied s (events_of g h) → time_of v ≤ last g (by_gate g (Began s c (Draw v parts)) ∷ h)
    → ((d q : ℕ) → acked g v d q h ≡ false) → get_or newest s None ≡ Some v
    → Tracks t g (by_gate g (Began s c (Draw v parts)) ∷ h) newest (record { session = s; seq = c; version = v; transaction = parts }) one
tracks_new t g h newest s c v parts one new next idle late clear there =
    let acks : (p d : ℕ) → p < t.partitions → d < t.centres → is_acked one.acked p d ≡ acked g v d p (by_gate g (Began s c (Draw v parts)) ∷ h)
    = λ p d inside here. rw new.acked_is (empty_has (node_number d p) ∙ (sym (clear d p) ∙ sym (begun_acks t g h newest newest s c (Draw v parts) v d p))) in
    let drawn : Drawn = record { session = s; seq = c; version = v; transaction = parts } in
    record {
      version_is = new.version_is;
      session_is = new.session_is;
      seq_is = new.seq_is;
      touched_is = new.touched_is;
      acked_is = acks;
      quorum_is = new.quorum_is ∙ quorum_found t g (by_gate g (Began s c (Draw v parts)) ∷ h) (record { session = s; seq = c; version = v; transaction = parts }) one.touched one.acked new.touched_is acks;
      copies_is = new.copies_is ∙ copies_found t g (by_gate g (Began s c (Draw v parts)) ∷ h) (record { session = s; seq = c; version = v; transaction = parts }) one.touched one.acked new.touched_is acks;
      reply_is = new.reply_is ∙ ap not (sym (begun_replies t g h newest newest s c (Draw v parts) s c ∙ false_from_ne_true (replied_to g s c h) (λ yet. absurd (past yet))));
      early = late;
      within = rw (begun_more t g h newest newest s c (Draw v parts) s, eq-eqb s s refl) (omega arith);
      latest_is = λ at. there;
    }
  where
    past : replied_to g s c h ≡ true → ⊥
    past yet = let below = replied_below g s c h yet in absurd (omega (arith, below, next, idle))
