-- The watermarks of a lawful history are final.
use Rattle.std.proofs.Common.{◌≡◌, ℕ, ◌+◌, ◌≤◌, ◌<◌, Bool, true, false, not, ◌&&◌, Some, None, [], ◌∷◌, ◌++◌, refl, ap, arith}
use Rattle.std.specs.Prelude.{if◌then◌else◌, nat_lt}
use Rattle.std.proofs.lemmas.Grind.{common_steps}
use Rattle.std.proofs.lemmas.Bool.{ltb-false, le-ltb}
use Rattle.ov_base.specs.Version.{number}
use Rattle.ov_gossip.specs.Marks.{low_of, full_of, done_of}
use Rattle.ov_gossip.specs.declared.marks.Marks.{Marks}
use Rattle.ov_topology.specs.Shape.{Shape, gates}
use Rattle.ov_topology.specs.declared.actor.Actor.{Actor}
use Rattle.ov_topology.specs.declared.actor.Actor.TheVariants.{Gate, Node, Settler}
use Rattle.ov_event.specs.Letters.{touches, is_in, is_gate}
use Rattle.ov_event.specs.declared.entry.Entry.{Entry}
use Rattle.ov_event.specs.declared.kind.Kind.{Kind}
use Rattle.ov_event.specs.declared.kind.Kind.TheVariants.{Acked}
use Rattle.ov_history.specs.Past.{History, is_node}
use Rattle.ov_history.specs.Counts.{all_below}
use Rattle.ov_history.specs.Draws.{Drawn, drawn_in, draw_of, last}
use Rattle.ov_laws.specs.Draws.{Drew}
use Rattle.ov_laws.specs.Holders.{stores, stored, holders}
use Rattle.ov_history.specs.Placement.{acks, acked, ackers}
use Rattle.ov_history.specs.Marks.{mark, mark_by, visible, replicated, watermark, lacks_quorum, lacks_copies, lacks_reply, replied_to}
use Rattle.ov_history.specs.May.{Setting, Guard, May, Lawful}
use Rattle.ov_laws.specs.Final.{Final, FinalAll}
use Rattle.ov_laws.proofs.History.Gathered.{greatest_grows}
use Rattle.ov_laws.proofs.History.Earlier.{some_at, letter_at}
use Rattle.ov_history.proofs.Counting.{none_below, none_passes, all_more, weight_more, least_under}
use Rattle.ov_laws.proofs.History.Sent.{ack_sent}
use Rattle.ov_laws.proofs.Watermarks.Known.{IsMark, Good, marks_good, draw_late}
use Rattle.ov_history.proofs.Given.{gate_known}

-- ---- acknowledgements

-- an acknowledgement stays taken
pub acked_stays : (g v c p : ℕ) (e : Entry) (h : History) → acked g v c p h ≡ true → acked g v c p (e ∷ h) ≡ true
acked_stays g v c p e h yet = grind (arith, common_steps)

-- a stored version stays stored
pub stored_stays : (c p v : ℕ) (e : Entry) (h : History) → stored c p v h ≡ true → stored c p v (e ∷ h) ≡ true
stored_stays c p v e h yet = grind (arith, common_steps)

-- an acknowledgement that a gateway takes names a node that stored the version
acked_new : (t : Setting) (h : History) (a : Actor) (k : Kind) → Guard t h a k → (g v c p : ℕ)
    → (if is_gate g a then acks v c p k else false) ≡ true → stored c p v h ≡ true
acked_new t h (Gate s) (Acked place u d q) guard g v c p is =
    let there = letter_at t.topology h place.entry place.letter _ guard.there in
    let sent = ack_sent t.topology there.0 place.letter u d q there.2 in
    let same : (if is_node c p there.0.actor then stores v there.0.kind else false) ≡ true = rw sent.2 (grind (arith, common_steps)) in
    some_at (λ e. if is_node c p e.actor then stores v e.kind else false) h place.entry there.0 there.1 same
acked_new t h a k guard g v c p is = absurd (grind (arith, common_steps))

-- an acknowledgement names a node that stored the version
pub acked_is_stored : (t : Setting) (h : History) → Lawful t h → (g v c p : ℕ) → acked g v c p h ≡ true → stored c p v h ≡ true
acked_is_stored t [] lawful g v c p is = absurd (cc)
acked_is_stored t (e ∷ h) lawful g v c p is = by (if is_gate g e.actor then acks v c p e.kind else false) refl (acked_is_stored t h lawful.0 g v c p)
  where
    by : (b : Bool) → (if is_gate g e.actor then acks v c p e.kind else false) ≡ b → (acked g v c p h ≡ true → stored c p v h ≡ true) → stored c p v (e ∷ h) ≡ true
    by true now rest = stored_stays c p v e h (acked_new t h e.actor e.kind lawful.1.guard g v c p now)
    by false now rest = stored_stays c p v e h (rest (grind (arith, common_steps)))

-- ---- what holds a version down, partition by partition

-- whether a touched partition lacks acknowledgements of a write quorum
abbrev short_of_quorum : Shape → ℕ → History → Drawn → ℕ → Bool
short_of_quorum t g h drawn p = touches t drawn.transaction p && nat_lt (ackers t g drawn.version p h) t.write

-- whether a touched partition lacks an acknowledgement of some node
abbrev short_of_copies : Shape → ℕ → History → Drawn → ℕ → Bool
short_of_copies t g h drawn p = touches t drawn.transaction p && not (all_below (λ c. acked g drawn.version c p h) t.centres)

-- a touched partition of a version that lacks no quorum has acknowledged it with enough votes
pub quorum_there : (t : Shape) (g : ℕ) (h : History) (drawn : Drawn) → lacks_quorum t g h drawn ≡ false
    → (p : ℕ) → p < t.partitions → touches t drawn.transaction p ≡ true → t.write ≤ ackers t g drawn.version p h
quorum_there t g h drawn full p inside touched =
    let here : short_of_quorum t g h drawn p ≡ false = none_below (short_of_quorum t g h drawn) t.partitions p full inside in
    by (nat_lt (ackers t g drawn.version p h) t.write) refl (grind (arith, common_steps))
  where
    by : (b : Bool) → nat_lt (ackers t g drawn.version p h) t.write ≡ b → b ≡ false → t.write ≤ ackers t g drawn.version p h
    by true is other = absurd (cc)
    by false is other = ltb-false (ackers t g drawn.version p h) t.write is

-- a touched partition of a version that lacks no copy has acknowledged it from all nodes
pub copies_there : (t : Shape) (g : ℕ) (h : History) (drawn : Drawn) → lacks_copies t g h drawn ≡ false
    → (p : ℕ) → p < t.partitions → touches t drawn.transaction p ≡ true → all_below (λ c. acked g drawn.version c p h) t.centres ≡ true
copies_there t g h drawn full p inside touched =
    let here : short_of_copies t g h drawn p ≡ false = none_below (short_of_copies t g h drawn) t.partitions p full inside in
    grind (arith, common_steps)

-- a version lacks no quorum where each touched partition has acknowledged it with enough votes
pub quorum_by : (t : Shape) (g : ℕ) (h : History) (drawn : Drawn)
    → ((p : ℕ) → p < t.partitions → touches t drawn.transaction p ≡ true → t.write ≤ ackers t g drawn.version p h) → lacks_quorum t g h drawn ≡ false
quorum_by t g h drawn each = none_passes (short_of_quorum t g h drawn) t.partitions (λ p inside. by p (touches t drawn.transaction p) (each p inside))
  where
    by : (p : ℕ) (b : Bool) → (b ≡ true → t.write ≤ ackers t g drawn.version p h) → (b && nat_lt (ackers t g drawn.version p h) t.write) ≡ false
    by p true enough = le-ltb (ackers t g drawn.version p h) t.write (enough refl)
    by p false enough = refl

-- a version lacks no copy where each touched partition has acknowledged it from all nodes
pub copies_by : (t : Shape) (g : ℕ) (h : History) (drawn : Drawn)
    → ((p : ℕ) → p < t.partitions → touches t drawn.transaction p ≡ true → all_below (λ c. acked g drawn.version c p h) t.centres ≡ true) → lacks_copies t g h drawn ≡ false
copies_by t g h drawn each = none_passes (short_of_copies t g h drawn) t.partitions (λ p inside. by p (touches t drawn.transaction p) (each p inside))
  where
    by : (p : ℕ) (b : Bool) → (b ≡ true → all_below (λ c. acked g drawn.version c p h) t.centres ≡ true) → (b && not (all_below (λ c. acked g drawn.version c p h) t.centres)) ≡ false
    by p true enough = ap not (enough refl)
    by p false enough = refl

-- ---- the three marks

-- the low mark is held down by versions that lack a quorum
pub low_is_mark : (t : Shape) → IsMark t low_of (lacks_quorum t)
low_is_mark t = record {
  nothing = refl;
  known = λ a g h. refl;
  published = λ g time h. refl;
  stays = λ g e h drawn full. quorum_by t g (e ∷ h) drawn (λ p inside touched.
      let had : t.write ≤ ackers t g drawn.version p h = quorum_there t g h drawn full p inside touched in
      let more : ackers t g drawn.version p h ≤ ackers t g drawn.version p (e ∷ h) =
      weight_more t (λ c. acked g drawn.version c p h) (λ c. acked g drawn.version c p (e ∷ h)) (λ c yet. acked_stays g drawn.version c p e h yet) in
      omega (arith, had, more));
}

-- the full mark is held down by versions that lack a copy
pub full_is_mark : (t : Shape) → IsMark t full_of (lacks_copies t)
full_is_mark t = record {
  nothing = refl;
  known = λ a g h. refl;
  published = λ g time h. refl;
  stays = λ g e h drawn full. copies_by t g (e ∷ h) drawn (λ p inside touched.
      all_more (λ c. acked g drawn.version c p h) (λ c. acked g drawn.version c p (e ∷ h)) t.centres
      (λ c yet. acked_stays g drawn.version c p e h yet) (copies_there t g h drawn full p inside touched));
}

-- the done mark is held down by versions that are not replied
pub done_is_mark : (t : Shape) → IsMark t done_of lacks_reply
done_is_mark t = record {
  nothing = refl;
  known = λ a g h. refl;
  published = λ g time h. refl;
  stays = λ g e h drawn replied. grind (arith, common_steps);
}

-- a low mark that an actor knows is good
pub low_good : (t : Setting) (h : History) → Lawful t h → (a : Actor) (g : ℕ) → Good (lacks_quorum t.topology) h g (mark low_of a g h)
low_good t h lawful a g = marks_good t (low_is_mark t.topology) h lawful a g

-- a full mark that an actor knows is good
pub full_good : (t : Setting) (h : History) → Lawful t h → (a : Actor) (g : ℕ) → Good (lacks_copies t.topology) h g (mark full_of a g h)
full_good t h lawful a g = marks_good t (full_is_mark t.topology) h lawful a g

-- a done mark that an actor knows is good
pub done_good : (t : Setting) (h : History) → Lawful t h → (a : Actor) (g : ℕ) → Good lacks_reply h g (mark done_of a g h)
done_good t h lawful a g = marks_good t (done_is_mark t.topology) h lawful a g

-- ---- the watermarks

-- a watermark is not above the mark of a gateway
pub watermark_under : (which : Marks → ℕ) (t : Shape) (a : Actor) (h : History) (g : ℕ) → g < gates t → watermark which t a h ≤ mark which a g h
watermark_under which t a h g inside = least_under (λ k. mark which a k h) (mark which a 0 h) (gates t) g inside

-- the visibility watermark of each actor is final
pub visible_final : (t : Setting) (h : History) (a : Actor) → Lawful t h → Final t.topology h (visible t.topology a h)
visible_final t h a lawful = record {
  held = λ drawn p is.
      let g = is.gate in
      let under : visible t.topology a h ≤ mark low_of a g h = watermark_under low_of t.topology a h g is.known in
      let full : lacks_quorum t.topology g h drawn ≡ false = (low_good t h lawful a g).clear drawn is.drew (omega (arith, under, is.less)) in
      let had : t.topology.write ≤ ackers t.topology g drawn.version p h = quorum_there t.topology g h drawn full p is.inside is.touched in
      let more : ackers t.topology g drawn.version p h ≤ holders t.topology drawn.version p h =
      weight_more t.topology (λ c. acked g drawn.version c p h) (λ c. stored c p drawn.version h) (λ c yet. acked_is_stored t h lawful g drawn.version c p yet) in
      omega (arith, had, more);
  closed = λ g known.
      let under : visible t.topology a h ≤ mark low_of a g h = watermark_under low_of t.topology a h g known in
      let bound : mark low_of a g h ≤ number (last g h + 1) g = (low_good t h lawful a g).bounded in
      omega (arith, under, bound);
}

-- the replica watermark of each actor is final for all copies
pub replicated_final : (t : Setting) (h : History) (a : Actor) → Lawful t h → FinalAll t.topology h (replicated t.topology a h)
replicated_final t h a lawful = record {
  held = λ drawn p is.
      let g = is.gate in
      let under : replicated t.topology a h ≤ mark full_of a g h = watermark_under full_of t.topology a h g is.known in
      let full : lacks_copies t.topology g h drawn ≡ false = (full_good t h lawful a g).clear drawn is.drew (omega (arith, under, is.less)) in
      all_more (λ c. acked g drawn.version c p h) (λ c. stored c p drawn.version h) t.topology.centres
      (λ c yet. acked_is_stored t h lawful g drawn.version c p yet) (copies_there t.topology g h drawn full p is.inside is.touched);
  closed = λ g known.
      let under : replicated t.topology a h ≤ mark full_of a g h = watermark_under full_of t.topology a h g known in
      let bound : mark full_of a g h ≤ number (last g h + 1) g = (full_good t h lawful a g).bounded in
      omega (arith, under, bound);
}

-- each version of a gateway below the least done mark that an actor knows is replied
pub done_replied : (t : Setting) (h : History) (a : Actor) → Lawful t h → (g : ℕ) (drawn : Drawn) → g < gates t.topology → Drew g drawn h → drawn.version < watermark done_of t.topology a h
    → replied_to g drawn.session drawn.seq h ≡ true
done_replied t h a lawful g drawn known drew less =
    let under : watermark done_of t.topology a h ≤ mark done_of a g h = watermark_under done_of t.topology a h g known in
    let clear : not (replied_to g drawn.session drawn.seq h) ≡ false = (done_good t h lawful a g).clear drawn drew (omega (arith, under, less)) in
    grind (arith, common_steps)

-- ---- versions that are drawn later

-- what a gateway draws, it draws in its own entry
draw_is_own : (g : ℕ) (e : Entry) (drawn : Drawn) → draw_of g e ≡ Some drawn → is_gate g e.actor ≡ true
draw_is_own g e drawn drew = by (is_gate g e.actor) drew
  where
    by : (b : Bool) → (if b then drawn_in e.kind else None) ≡ Some drawn → b ≡ true
    by true drew = refl
    by false drew = absurd (cc)

-- an actor of the topology that is this gateway is one of its gateways
actor_known : (t : Shape) (a : Actor) (g : ℕ) → is_in t a ≡ true → is_gate g a ≡ true → g < gates t
actor_known t (Gate s) g known own = let low : s < gates t = gate_known t s known in let same : s ≡ g = grind (arith, common_steps) in omega (arith, low, same)
actor_known t (Node c p) g known own = absurd (cc)
actor_known t (Settler s) g known own = absurd (cc)

-- a gateway that draws in a lawful history is one of the topology
pub draw_known : (t : Setting) (h : History) (e : Entry) (g : ℕ) (drawn : Drawn) → May t h e → draw_of g e ≡ Some drawn → g < gates t.topology
draw_known t h e g drawn may drew = actor_known t.topology e.actor g may.known (draw_is_own g e drawn drew)

-- a version that is drawn later is not below the visibility watermark
pub later_above : (t : Setting) (h more : History) (a : Actor) (e : Entry) (g : ℕ) (drawn : Drawn) → Lawful t (e ∷ more ++ h) → draw_of g e ≡ Some drawn → visible t.topology a h ≤ drawn.version
later_above t h more a e g drawn lawful drew =
    let under : visible t.topology a h ≤ mark low_of a g h = watermark_under low_of t.topology a h g (draw_known t (more ++ h) e g drawn lawful.1 drew) in
    let grown : mark low_of a g h ≤ mark low_of a g (more ++ h) = greatest_grows (mark_by low_of a g) more h in
    let bound : mark low_of a g (more ++ h) ≤ number (last g (more ++ h) + 1) g = (low_good t (more ++ h) lawful.0 a g).bounded in
    let late : number (last g (more ++ h) + 1) g ≤ drawn.version = draw_late t (more ++ h) e.actor e.kind g drawn lawful.1.guard drew in
    omega (arith, under, grown, bound, late)
