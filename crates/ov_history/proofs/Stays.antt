-- An entry that may follow may still follow after entries of other actors.
use Rattle.std.proofs.Common.{◌≡◌, ℕ, ◌+◌, Bool, false, not, ◌&&◌, Option, Some, None, List, [], ◌∷◌, ◌++◌, refl, sym, subst, ◌∙◌, ap, arith, zero, suc}
use Rattle.std.specs.Prelude.{nat_lt}
use Rattle.std.proofs.lemmas.Grind.{common_steps}
use Rattle.ov_base.specs.Version.{number}
use Rattle.ov_functor.specs.Values.{just_below}
use Rattle.ov_functor.specs.declared.command.Command.{Command}
use Rattle.ov_functor.specs.declared.command.Command.TheVariants as commands
use Rattle.ov_functor.specs.declared.reply.Reply.{Reply}
use Rattle.ov_gossip.specs.declared.marks.Marks.{Marks}
use Rattle.ov_gossip.specs.Marks.{low_of, full_of, done_of}
use Rattle.ov_topology.specs.Shape.{Shape, gates, votes_of}
use Rattle.ov_topology.specs.declared.actor.Actor.{Actor}
use Rattle.ov_topology.specs.declared.actor.Actor.TheVariants.{Gate, Node, Settler}
use Rattle.ov_topology.specs.declared.mode.Mode.{Mode}
use Rattle.ov_topology.specs.declared.mode.Mode.TheVariants.{Quorum, One}
use Rattle.ov_topology.specs.declared.place.Place.{Place}
use Rattle.ov_event.specs.Letters.{touches, is_gate, is_settler}
use Rattle.ov_event.specs.declared.entry.Entry.{Entry}
use Rattle.ov_event.specs.declared.kind.Kind.{Kind}
use Rattle.ov_event.specs.declared.kind.Kind.TheVariants.{Began, Stored, Acked, Published, Heard, Asked, Answered, Taken, Settled, Resulted, Replied, Told, Stopped}
use Rattle.ov_event.specs.declared.letter.Letter.{Letter}
use Rattle.ov_event.specs.declared.start.Start.{Start}
use Rattle.ov_event.specs.declared.start.Start.TheVariants.{Draw, Look}
use Rattle.ov_history.specs.Past.{History, at, some, is_node, same_actor, stopped}
use Rattle.ov_history.specs.Letters.{letter, letter_from, Takes}
use Rattle.ov_history.specs.Counts.{any_below, all_below, passing, weight, least_of}
use Rattle.ov_history.specs.Draws.{Drawn, draw_of, last}
use Rattle.ov_history.specs.Placement.{acked, ackers}
use Rattle.ov_history.specs.Marks.{mark, marks, watermark, top_time, lacks_quorum, lacks_copies, lacks_reply, replied_to, lowered, lowest, own_marks}
use Rattle.ov_history.specs.Sessions.{events_of}
use Rattle.ov_history.specs.Nodes.{held}
use Rattle.ov_history.specs.Settlers.{Round, open_round, rounds, settled, values_of, known_below, took, harvest, IsEnough, plan_values, Shows}
use Rattle.ov_history.specs.May.{Setting, MayStart, MayDraw, StartsAs, MayPublish, MayHear, MayReply, upper, GateGuard, NodeGuard, SettlerGuard, Guard, May}
use Rattle.ov_history.proofs.Past.{at_older}

-- ---- same tests, same value

-- of tests with the same values, one passes some number below where the other does
pub any_below_same : (f g : ℕ → Bool) (n : ℕ) → ((c : ℕ) → f c ≡ g c) → any_below f n ≡ any_below g n
any_below_same f g zero same = refl
any_below_same f g (suc n) same = let here = same n in let rest = any_below_same f g n same in grind (arith, common_steps)

-- of tests with the same values, one passes all numbers below where the other does
pub all_below_same : (f g : ℕ → Bool) (n : ℕ) → ((c : ℕ) → f c ≡ g c) → all_below f n ≡ all_below g n
all_below_same f g zero same = refl
all_below_same f g (suc n) same = let here = same n in let rest = all_below_same f g n same in grind (arith, common_steps)

-- tests with the same values pass the same numbers
pub passing_same : (f g : ℕ → Bool) (n : ℕ) → ((c : ℕ) → f c ≡ g c) → passing f n ≡ passing g n
passing_same f g zero same = refl
passing_same f g (suc n) same = rw (passing_same f g n same, same n) refl

-- tests with the same values have the same weight
pub weight_same : (t : Shape) (f g : ℕ → Bool) → ((c : ℕ) → f c ≡ g c) → weight t f ≡ weight t g
weight_same t f g same = ap (votes_of t) (passing_same f g t.centres same)

-- the least of the same numbers is the same
pub least_of_same : (f g : ℕ → ℕ) (top n : ℕ) → ((c : ℕ) → f c ≡ g c) → least_of f top n ≡ least_of g top n
least_of_same f g top zero same = refl
least_of_same f g top (suc n) same = rw (same n, least_of_same f g top n same) refl

-- where the same versions are held down, a mark is lowered to the same number
pub lowest_same : (g : ℕ) (down more : Drawn → Bool) (top : ℕ) (h : History) → ((drawn : Drawn) → down drawn ≡ more drawn) → lowest g down top h ≡ lowest g more top h
lowest_same g down more top [] same = refl
lowest_same g down more top (e ∷ h) same = by (draw_of g e) (lowest_same g down more top h same)
  where
    by : (d : Option Drawn) → lowest g down top h ≡ lowest g more top h → lowered down d (lowest g down top h) ≡ lowered more d (lowest g more top h)
    by None rest = rest
    by (Some d) rest = rw (same d, rest) refl

-- ---- one more entry, of actor b

module _ (h : History) (b : Actor) (k : Kind) where
  abbrev longer : History
  longer = record { actor = b; kind = k } ∷ h

  -- a letter stays at its place
  pub letter-stays : (t : Shape) (place : Place) (sent : Letter) → letter t h place ≡ Some sent → letter t longer place ≡ Some sent
  letter-stays t place sent is = by (at h place.entry) refl is
    where
      by : (o : Option Entry) → at h place.entry ≡ o → letter_from t o place.letter ≡ Some sent → letter t longer place ≡ Some sent
      by None same there = cc
      by (Some e) same there = rw (at_older h place.entry e (record { actor = b; kind = k }) same) there

  -- a letter that may be taken may still be taken
  pub takes-stays : (t : Shape) (place : Place) (a : Actor) (sent : Letter) → Takes t h place a sent → Takes t longer place a sent
  takes-stays t place a sent takes = record { there = letter-stays t place sent takes.there; addressed = takes.addressed }

  -- an actor stops by its own entries
  pub stopped-stays : (a : Actor) → same_actor a b ≡ false → stopped a longer ≡ stopped a h
  stopped-stays a other = grind (arith, common_steps)

  -- ---- gateways

  -- the last time of a gateway
  pub last-stays : (g : ℕ) → is_gate g b ≡ false → last g longer ≡ last g h
  last-stays g other = grind (arith, common_steps)

  -- the session events of a gateway
  pub events-stay : (g : ℕ) → is_gate g b ≡ false → events_of g longer ≡ events_of g h
  events-stay g other = grind (arith, common_steps)

  -- one mark that an actor knows
  pub mark-stays : (which : Marks → ℕ) (a : Actor) (g : ℕ) → same_actor a b ≡ false → mark which a g longer ≡ mark which a g h
  mark-stays which a g other = grind (arith, common_steps)

  -- the marks that an actor knows
  pub marks-stay : (a : Actor) (g : ℕ) → same_actor a b ≡ false → marks a g longer ≡ marks a g h
  marks-stay a g other = rw (mark-stays low_of a g other, mark-stays full_of a g other, mark-stays done_of a g other) refl

  -- a watermark of an actor
  pub watermark-stays : (which : Marks → ℕ) (t : Shape) (a : Actor) → same_actor a b ≡ false → watermark which t a longer ≡ watermark which t a h
  watermark-stays which t a other =
      rw (mark-stays which a 0 other) (least_of_same (λ g. mark which a g longer) (λ g. mark which a g h) (mark which a 0 h) (gates t) (λ g. mark-stays which a g other))

  -- the greatest time of a low mark
  pub top_time-stays : (a : Actor) (n : ℕ) → same_actor a b ≡ false → top_time a n longer ≡ top_time a n h
  top_time-stays a zero other = refl
  top_time-stays a (suc n) other = rw (mark-stays low_of a n other, top_time-stays a n other) refl

  -- the acknowledgements of a gateway
  pub acked-stays : (g v c p : ℕ) → is_gate g b ≡ false → acked g v c p longer ≡ acked g v c p h
  acked-stays g v c p other = grind (arith, common_steps)

  -- the votes that have acknowledged
  pub ackers-stay : (t : Shape) (g v p : ℕ) → is_gate g b ≡ false → ackers t g v p longer ≡ ackers t g v p h
  ackers-stay t g v p other = weight_same t (λ c. acked g v c p longer) (λ c. acked g v c p h) (λ c. acked-stays g v c p other)

  -- the replies of a gateway
  pub replied_to-stays : (g s c : ℕ) → is_gate g b ≡ false → replied_to g s c longer ≡ replied_to g s c h
  replied_to-stays g s c other = grind (arith, common_steps)

  -- the versions that hold the low mark down
  pub lacks_quorum-stays : (t : Shape) (g : ℕ) (drawn : Drawn) → is_gate g b ≡ false → lacks_quorum t g longer drawn ≡ lacks_quorum t g h drawn
  lacks_quorum-stays t g drawn other = any_below_same (λ p. touches t drawn.transaction p && nat_lt (ackers t g drawn.version p longer) t.write) (λ p. touches t drawn.transaction p && nat_lt (ackers t g drawn.version p h) t.write) t.partitions (λ p. rw (ackers-stay t g drawn.version p other) refl)

  -- the versions that hold the full mark down
  pub lacks_copies-stays : (t : Shape) (g : ℕ) (drawn : Drawn) → is_gate g b ≡ false → lacks_copies t g longer drawn ≡ lacks_copies t g h drawn
  lacks_copies-stays t g drawn other = any_below_same (λ p. touches t drawn.transaction p && not (all_below (λ c. acked g drawn.version c p longer) t.centres)) (λ p. touches t drawn.transaction p && not (all_below (λ c. acked g drawn.version c p h) t.centres)) t.partitions
      (λ p. let each = all_below_same (λ c. acked g drawn.version c p longer) (λ c. acked g drawn.version c p h) t.centres (λ c. acked-stays g drawn.version c p other) in rw each refl)

  -- the versions that hold the done mark down
  pub lacks_reply-stays : (g : ℕ) (drawn : Drawn) → is_gate g b ≡ false → lacks_reply g longer drawn ≡ lacks_reply g h drawn
  lacks_reply-stays g drawn other = ap not (replied_to-stays g drawn.session drawn.seq other)

  -- an own mark, where the same versions are held down
  pub lowest-stays : (g : ℕ) (down more : Drawn → Bool) (top : ℕ) → is_gate g b ≡ false → ((drawn : Drawn) → down drawn ≡ more drawn) → lowest g down top longer ≡ lowest g more top h
  lowest-stays g down more top other same = skip ∙ lowest_same g down more top h same
    where
      skip : lowest g down top longer ≡ lowest g down top h
      skip = grind (arith, common_steps)

  -- the own marks of a gateway
  pub own_marks-stay : (t : Shape) (g time : ℕ) → is_gate g b ≡ false → own_marks t g time longer ≡ own_marks t g time h
  own_marks-stay t g time other =
      let low = lowest-stays g (lacks_quorum t g longer) (lacks_quorum t g h) (number time g) other (λ drawn. lacks_quorum-stays t g drawn other) in
      let full = lowest-stays g (lacks_copies t g longer) (lacks_copies t g h) (number time g) other (λ drawn. lacks_copies-stays t g drawn other) in
      let done = lowest-stays g (lacks_reply g longer) (lacks_reply g h) (number time g) other (λ drawn. lacks_reply-stays g drawn other) in
      rw (low, full, done) refl

  -- ---- nodes

  -- the items of a node
  pub held-stays : (c p : ℕ) → is_node c p b ≡ false → held c p longer ≡ held c p h
  held-stays c p other = grind (arith, common_steps)

  -- ---- settlers

  -- the open round of a settler
  pub open_round-stays : (s : ℕ) → is_settler s b ≡ false → open_round s longer ≡ open_round s h
  open_round-stays s other = rw other refl

  -- how many rounds a settler has opened
  pub rounds-stay : (s : ℕ) → is_settler s b ≡ false → rounds s longer ≡ rounds s h
  rounds-stay s other = grind (arith, common_steps)

  -- how far a settler has settled
  pub settled-stays : (s : ℕ) → is_settler s b ≡ false → settled s longer ≡ settled s h
  settled-stays s other = rw other refl

  -- the values of a settler
  pub values_of-stay : (s : ℕ) → is_settler s b ≡ false → values_of s longer ≡ values_of s h
  values_of-stay s other = rw other refl

  -- the answers that a settler took
  pub took-stays : (s n c p : ℕ) → is_settler s b ≡ false → took s n c p longer ≡ took s n c p h
  took-stays s n c p other = rw other refl

  -- the items of the answers that a settler took
  pub harvest-stays : (s n : ℕ) → is_settler s b ≡ false → harvest s n longer ≡ harvest s n h
  harvest-stays s n other = rw other refl

  -- answers enough stay enough
  pub enough-stays : (t : Shape) (s : ℕ) (round : Round) (p : ℕ) (mode : Mode) → is_settler s b ≡ false → IsEnough t s round p h mode → IsEnough t s round p longer mode
  enough-stays t s round p Quorum other enough = rw (weight_same t (λ c. took s round.number c p longer) (λ c. took s round.number c p h) (λ c. took-stays s round.number c p other)) enough
  enough-stays t s round p One other enough = took-stays s round.number s p other ∙ enough

  -- the values of a plan
  pub plan_values-stay : (s : ℕ) (round : Round) → is_settler s b ≡ false → plan_values s round longer ≡ plan_values s round h
  plan_values-stay s round other = rw (values_of-stay s other, harvest-stays s round.number other) refl

  -- what a reply shows of a settler's values
  pub shows-stays : (s : ℕ) (start : Start) (reply : Reply) → is_settler s b ≡ false → Shows (known_below s h) (settled s h) start reply → Shows (known_below s longer) (settled s longer) start reply
  shows-stays s start reply other shows =
      let at_end = subst (λ w. Shows (λ n. just_below n (values_of s h)) w start reply) (sym (settled-stays s other)) shows in
      subst (λ values. Shows (λ n. just_below n values) (settled s longer) start reply) (sym (values_of-stay s other)) at_end

  -- ---- guards

  -- a version that may be drawn may still be drawn
  pub draw-stays : (g version : ℕ) → is_gate g b ≡ false → MayDraw h g version → MayDraw longer g version
  draw-stays g version other may = record { own = may.own; time = rw (last-stays g other) may.time }

  -- a start stays the command's
  pub starts-stay : (g s : ℕ) (command : Command) (start : Start) → is_gate g b ≡ false → StartsAs h g s command start → StartsAs longer g s command start
  starts-stay g s (commands.Transact parts) (Draw version transaction) other starts = (starts.0, draw-stays g version other starts.1)
  starts-stay g s (commands.Snap keys) (Look least shown) other starts = (starts.0, rw (events-stay g other) starts.1)
  starts-stay g s command start other starts = absurd starts

  -- a command that may begin may still begin
  pub start-stays : (t : Setting) (g s c : ℕ) (start : Start) → is_gate g b ≡ false → MayStart t h g s c start → MayStart t longer g s c start
  start-stays t g s c start other may = record {
    ready = rw (events-stay g other) may.ready;
    starts = starts-stay g s may.ready.planned.command start other may.starts;
  }

  -- a vector that may be published may still be published
  pub publish-stays : (t : Shape) (g time : ℕ) (vector : List Marks) → is_gate g b ≡ false → MayPublish t h g time vector → MayPublish t longer g time vector
  publish-stays t g time vector other may = record {
    at = rw (last-stays g other, top_time-stays (Gate g) (gates t) other) may.at;
    width = may.width;
    others = λ n within apart. may.others n within apart ∙ sym (marks-stay (Gate g) n other);
    own = may.own ∙ sym (own_marks-stay t g time other);
  }

  -- a vector that may be heard may still be heard
  pub hear-stays : (t : Shape) (place : Place) (a : Actor) (vector : List Marks) → MayHear t h place a vector → MayHear t longer place a vector
  hear-stays t place a vector may = record { sender = may.sender; sent = takes-stays t place a _ may.sent }

  -- a reply that may be given may still be given
  pub reply-stays : (t : Setting) (place : Place) (g s c : ℕ) (reply : Reply) → is_gate g b ≡ false → MayReply t h place g s c reply → MayReply t longer place g s c reply
  reply-stays t place g s c reply other may = record {
    sent = takes-stays t.topology place (Gate g) _ may.sent;
    plan = may.plan;
    session = may.session;
    own = may.own;
    begun_is = rw (events-stay g other) may.begun_is;
    next = rw (events-stay g other) may.next;
  }

  -- the guard of a gateway's entry stays met
  pub gate_guard-stays : (t : Setting) (g : ℕ) (kind : Kind) → is_gate g b ≡ false → GateGuard t h g kind → GateGuard t longer g kind
  gate_guard-stays t g (Began s c start) other may = start-stays t g s c start other may
  gate_guard-stays t g (Acked place version c p) other may = takes-stays t.topology place (Gate g) _ may
  gate_guard-stays t g (Published time vector) other may = publish-stays t.topology g time vector other may
  gate_guard-stays t g (Heard place vector) other may = hear-stays t.topology place (Gate g) vector may
  gate_guard-stays t g (Replied place s c reply) other may = reply-stays t place g s c reply other may
  gate_guard-stays t g (Told place s c) other may = record { sender = may.sender; sent = takes-stays t.topology place (Gate g) _ may.sent }
  gate_guard-stays t g Stopped other may = may
  gate_guard-stays t g kind other may = absurd may

  -- the guard of a node's entry stays met
  pub node_guard-stays : (t : Shape) (c p : ℕ) (kind : Kind) → is_node c p b ≡ false → NodeGuard t h c p kind → NodeGuard t longer c p kind
  node_guard-stays t c p (Stored place version items) other may = takes-stays t place (Node c p) _ may
  node_guard-stays t c p (Answered place settler round items) other may = record {
    mode = may.mode;
    from = may.from;
    below = may.below;
    sent = takes-stays t place (Node c p) _ may.sent;
    all = rw (held-stays c p other) may.all;
  }
  node_guard-stays t c p Stopped other may = may
  node_guard-stays t c p kind other may = absurd may

  -- up to where a round asks
  pub upper-stays : (t : Shape) (s : ℕ) (mode : Mode) → is_settler s b ≡ false → upper t s longer mode ≡ upper t s h mode
  upper-stays t s Quorum other = watermark-stays low_of t (Settler s) other
  upper-stays t s One other = watermark-stays full_of t (Settler s) other

  -- the guard of a settler's entry stays met
  pub settler_guard-stays : (t : Shape) (s : ℕ) (kind : Kind) → is_settler s b ≡ false → SettlerGuard t h s kind → SettlerGuard t longer s kind
  settler_guard-stays t s (Heard place vector) other may = hear-stays t place (Settler s) vector may
  settler_guard-stays t s (Asked round mode from below) other may = record {
    next = may.next ∙ ap (λ n. n + 1) (sym (rounds-stay s other));
    held = may.held;
    from_is = may.from_is ∙ sym (settled-stays s other);
    below_is = may.below_is ∙ sym (upper-stays t s mode other);
    some = may.some;
  }
  settler_guard-stays t s (Taken place round c p items) other may = record {
    sent = takes-stays t place (Settler s) _ may.sent;
    current = may.current;
    current_is = open_round-stays s other ∙ may.current_is;
    same = may.same;
  }
  settler_guard-stays t s (Settled values) other may = record {
    current = may.current;
    current_is = open_round-stays s other ∙ may.current_is;
    enough = λ p within. enough-stays t s may.current p may.current.mode other (may.enough p within);
    values_are = may.values_are ∙ sym (plan_values-stay s may.current other);
  }
  settler_guard-stays t s (Resulted place session seq gate reply) other may = record {
    start = may.start;
    sent = takes-stays t place (Settler s) _ may.sent;
    shows = shows-stays s may.start reply other may.shows;
  }
  settler_guard-stays t s Stopped other may = may
  settler_guard-stays t s kind other may = absurd may

  -- the guard of another actor's entry stays met
  pub guard-stays : (t : Setting) (a : Actor) (kind : Kind) → same_actor a b ≡ false → Guard t h a kind → Guard t longer a kind
  guard-stays t (Gate g) kind other may = gate_guard-stays t g kind other may
  guard-stays t (Node c p) kind other may = node_guard-stays t.topology c p kind other may
  guard-stays t (Settler s) kind other may = settler_guard-stays t.topology s kind other may

-- an entry that may follow may still follow after an entry of another actor
pub may_stays : (t : Setting) (h : History) (e : Entry) (b : Actor) (k : Kind) → same_actor e.actor b ≡ false → May t h e → May t (record { actor = b; kind = k } ∷ h) e
may_stays t h e b k other may = record {
  known = may.known;
  running = stopped-stays h b k e.actor other ∙ may.running;
  guard = guard-stays h b k t e.actor e.kind other may.guard;
}

-- an entry that may follow may still follow after entries of other actors
pub may_stays_after : (t : Setting) (h more : History) (e : Entry) → some (λ other. same_actor e.actor other.actor) more ≡ false → May t h e → May t (more ++ h) e
may_stays_after t h [] e others may = may
may_stays_after t h (one ∷ more) e others may =
    may_stays t (more ++ h) e one.actor one.kind (grind (arith, common_steps)) (may_stays_after t h more e (grind (arith, common_steps)) may)
