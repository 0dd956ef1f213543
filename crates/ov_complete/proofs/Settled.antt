-- Fact 4: after the passes of rounds each settler has settled up to its visibility watermark.
use Rattle.std.proofs.Common.{◌≡◌, ◌==◌, ℕ, zero, suc, ◌+◌, ◌≤◌, ◌<◌, ◌^◌, max, ltb, Bool, true, false, not, ◌&&◌, inl, inr, ◌⊎◌, Option, Some, None, List, [], ◌∷◌, length, refl, sym, ap, subst, ◌∙◌, arith}
use Rattle.std.specs.Prelude.{if◌then◌else◌, is_some, nat_lt}
use Rattle.std.proofs.lemmas.Bool.{cases_Bool, eqb-true, eq-eqb, lt-ltb, ltb-true, ltb-false, and_parts, not-true}
use Rattle.std.proofs.lemmas.Option.{same_Some}
use Rattle.ov_base.specs.Word.{◌>>=◌}
use Rattle.ov_functor.specs.Windows.{Among}
use Rattle.ov_functor.specs.declared.item.Item.{Item}
use Rattle.ov_functor.specs.declared.reply.Reply.{Reply}
use Rattle.ov_gossip.specs.Marks.{low_of, full_of}
use Rattle.ov_gossip.specs.declared.marks.Marks.{Marks}
use Rattle.ov_topology.specs.Shape.{Shape, gates}
use Rattle.ov_topology.specs.declared.actor.Actor.{Actor}
use Rattle.ov_topology.specs.declared.actor.Actor.TheVariants.{Gate, Node, Settler}
use Rattle.ov_topology.specs.declared.mode.Mode.TheVariants.{Quorum, One}
use Rattle.ov_topology.specs.declared.place.Place.{Place}
use Rattle.ov_event.specs.Letters.{is_for, is_settler, letter_in}
use Rattle.ov_event.specs.declared.entry.Entry.{Entry}
use Rattle.ov_event.specs.declared.kind.Kind.{Kind}
use Rattle.ov_event.specs.declared.kind.Kind.TheVariants as kinds
use Rattle.ov_event.specs.declared.letter.Letter.{Letter}
use Rattle.ov_event.specs.declared.letter.Letter.TheVariants as letters
use Rattle.ov_history.specs.Nodes.{answer}
use Rattle.ov_history.specs.Past.{History, at, same_actor, stops, stopped}
use Rattle.ov_history.specs.Letters.{letter_from}
use Rattle.ov_history.specs.Counts.{weight, least_of}
use Rattle.ov_history.specs.Marks.{mark, mark_in, watermark, visible}
use Rattle.ov_history.specs.May.{Setting, Guard, May, Lawful, upper}
use Rattle.ov_history.specs.Gives.{Take, Ask, Settle, gives, settles, settler_takes, is_current, reply_to}
use Rattle.ov_history.specs.Cores.{onto}
use Rattle.ov_history.specs.Settlers.{Round, opened, open_round, asks, rounds, settled, raised, takes as takes_from, took, IsEnough, plan_values}
use Rattle.ov_history.proofs.Counting.{weight_more, weight_same}
use Rattle.ov_history.proofs.Given.{given_follows}
use Rattle.ov_history.proofs.Giving.{may_settles}
use Rattle.ov_history.proofs.Past.{at_older}
use Rattle.ov_history.proofs.Stays.{least_of_same, watermark-stays, stopped-stays, open_round-stays, rounds-stay, settled-stays}
use Rattle.ov_follow.specs.Lines.{Line, followed, followed_all}
use Rattle.ov_follow.specs.Passes.{gather, each, only, running, take, questions, is_waiting, last_asked, mode_asks, answer_lines, answers, is_to, takes, settlements}
use Rattle.ov_follow.specs.Calm.{passed}
use Rattle.ov_follow.specs.Whole.{IsWhole}
use Rattle.ov_laws.specs.Runs.{IsRun}
use Rattle.ov_laws.proofs.History.Earlier.{at_newest}
use Rattle.ov_laws.proofs.Windows.Rounds.{asked_by, settler_is}
use Rattle.ov_complete.specs.Facts.{Runs, AllSettled}
use Rattle.ov_complete.specs.Stable.{Stable, GiveOnly, is_taking, is_settling}
use Rattle.ov_complete.proofs.General.{stable_at, stable_some, stable_runs, stable_both, stable_settled, taking_stops, node_in, settler_in}
use Rattle.ov_complete.proofs.Listed.{from_gather, from_each, from_only, from_if}
use Rattle.ov_complete.proofs.Keeping.{keeps_among}
use Rattle.std.proofs.lemmas.Bool.{or_right}
use Rattle.ov_complete.proofs.Gives.{settles_round, settle_settles, give_answers, give_takes, give_settlements}
use Rattle.ov_complete.proofs.Keeping.{run_all, keeps_line, keeps, makes}
use Rattle.ov_complete.proofs.Listed.{takes_letter, in_gather, in_each, in_running, give_each, give_if, give_only, given_kind}
use Rattle.ov_complete.proofs.Lasting.{passed_longer}

-- ---- entries that bring no marks

-- whether an entry brings no marks
abbrev is_quiet : Kind → Bool
is_quiet (kinds.Published time vector) = false
is_quiet (kinds.Heard place vector) = false
is_quiet other = true

-- such an entry says nothing of a gateway
quiet_mark : (which : Marks → ℕ) (g : ℕ) (kind : Kind) → is_quiet kind ≡ true → mark_in which g kind ≡ 0
quiet_mark which g (kinds.Published time vector) is = absurd cc
quiet_mark which g (kinds.Heard place vector) is = absurd cc
quiet_mark which g kind is = refl

-- a mark that an actor knows, after such an entry
mark_quiet : (which : Marks → ℕ) (a : Actor) (g : ℕ) (h : History) (e : Entry) → is_quiet e.kind ≡ true → mark which a g (e ∷ h) ≡ mark which a g h
mark_quiet which a g h e is = by (same_actor a e.actor) (mark_in which g e.kind) (quiet_mark which g e.kind is)
  where
    by : (b : Bool) (n : ℕ) → n ≡ 0 → max (if b then n else 0) (mark which a g h) ≡ mark which a g h
    by true n none = omega (arith, none)
    by false n none = omega arith

-- the visibility watermark of an actor, after such an entry
visible_quiet : (t : Shape) (a : Actor) (h : History) (e : Entry) → is_quiet e.kind ≡ true → visible t a (e ∷ h) ≡ visible t a h
visible_quiet t a h e is =
    rw (mark_quiet low_of a 0 h e is) (least_of_same (λ g. mark low_of a g (e ∷ h)) (λ g. mark low_of a g h) (mark low_of a 0 h) (gates t) (λ g. mark_quiet low_of a g h e is))

-- it stays where no entry brings marks
visible_stable : (t : Setting) (test : Entry → Bool) (a : Actor) (n : ℕ) → ((e : Entry) → test e ≡ true → is_quiet e.kind ≡ true)
    → Stable t test (λ (h : History). visible t.topology a h ≡ n)
visible_stable t test a n quiet = record { keep = λ h new run may passes is. visible_quiet t.topology a h new (quiet new passes) ∙ is }

-- ---- how many rounds there are

-- the least is not above the number with which it starts
least_top : (f : ℕ → ℕ) (number n : ℕ) → least_of f number n ≤ number
least_top f number zero = omega arith
least_top f number (suc n) = let rest : least_of f number n ≤ number = least_top f number n in omega (arith, rest)

-- at first no actor knows a watermark
none_known : (which : Marks → ℕ) (t : Shape) (a : Actor) → watermark which t a [] ≤ 0
none_known which t a = least_top (λ g. mark which a g []) 0 (gates t)

-- no round can be opened at first
no_first : (t : Setting) (s : ℕ) (a : Actor) (kind : Kind) → Guard t [] a kind → (if is_settler s a then asks kind else false) ≡ false
no_first t s (Settler z) (kinds.Asked n Quorum from below) may =
    let some : from < below = may.some in
    let end : below ≡ upper t.topology z [] Quorum = may.below_is in
    let none = none_known low_of t.topology (Settler z) in
    absurd (omega (arith, some, end, none))
no_first t s (Settler z) (kinds.Asked n One from below) may =
    let some : from < below = may.some in
    let end : below ≡ upper t.topology z [] One = may.below_is in
    let none = none_known full_of t.topology (Settler z) in
    absurd (omega (arith, some, end, none))
no_first t s (Settler z) kind may = by (z == s)
  where
    by : (b : Bool) → (if b then false else false) ≡ false
    by true = refl
    by false = refl
no_first t s (Gate g) kind may = refl
no_first t s (Node c p) kind may = refl

-- one more entry opens at most one round
one_round : (s : ℕ) (h : History) (e : Entry) → rounds s (e ∷ h) ≤ rounds s h + 1
one_round s h e = by (if is_settler s e.actor then asks e.kind else false)
  where
    by : (b : Bool) → (if b then 1 else 0) + rounds s h ≤ rounds s h + 1
    by true = omega arith
    by false = omega arith

-- there are fewer rounds of a settler than entries
rounds_few : (t : Setting) (e : Entry) (h : History) (s : ℕ) → Lawful t (e ∷ h) → rounds s (e ∷ h) ≤ length h
rounds_few t e [] s lawful = rw (no_first t s e.actor e.kind lawful.1.guard) (omega arith)
rounds_few t e (f ∷ h) s lawful =
    let rest : rounds s (f ∷ h) ≤ length h = rounds_few t f h s lawful.0 in
    let more = one_round s (f ∷ h) e in
    omega (arith, rest, more)

-- a settler that knows a watermark can open one round more, where there are not too many entries
round_held : (t : Setting) (h : History) (s : ℕ) → Lawful t h → 0 < visible t.topology (Settler s) h → length h < 2 ^ 64 → rounds s h + 1 < 2 ^ 64
round_held t [] s lawful knows few = let none = none_known low_of t.topology (Settler s) in absurd (omega (arith, knows, none))
round_held t (e ∷ h) s lawful knows few = let rest : rounds s (e ∷ h) ≤ length h = rounds_few t e h s lawful in omega (arith, rest, few)

-- ---- pass 9: a quorum round is opened

-- whether an entry opens a quorum round
abbrev asks_quorum : Kind → Bool
asks_quorum (kinds.Asked round Quorum from below) = true
asks_quorum other = false

abbrev opens_quorum : Entry → Bool
opens_quorum e = asks_quorum e.kind

-- such an entry brings no marks, and stops no actor
quorum_quiet : (e : Entry) → opens_quorum e ≡ true → is_quiet e.kind ≡ true
quorum_quiet e is = by e.kind is
  where
    by : (kind : Kind) → asks_quorum kind ≡ true → is_quiet kind ≡ true
    by (kinds.Published time vector) is = absurd cc
    by (kinds.Heard place vector) is = absurd cc
    by kind is = refl

quorum_runs : (e : Entry) → opens_quorum e ≡ true → stops e.kind ≡ false
quorum_runs e is = by e.kind is
  where
    by : (kind : Kind) → asks_quorum kind ≡ true → stops kind ≡ false
    by kinds.Stopped is = absurd cc
    by kind is = refl

-- a settler that is to ask for a quorum round opens one
ask_quorum : (t : Setting) (h : History) (s : ℕ) (e : Entry) → gives t h (Settler s) (Ask Quorum) ≡ Some e → opens_quorum e ≡ true
ask_quorum t h s e is = by (nat_lt (rounds s h + 1) (2 ^ 64) && nat_lt (settled s h) (upper t.topology s h Quorum)) (given_kind t h (Settler s) (Ask Quorum) e is)
  where
    by : (b : Bool) → (if b then Some (kinds.Asked (rounds s h + 1) Quorum (settled s h) (upper t.topology s h Quorum)) else None) ≡ Some e.kind → opens_quorum e ≡ true
    by true made = rw (sym (same_Some (kinds.Asked (rounds s h + 1) Quorum (settled s h) (upper t.topology s h Quorum)) e.kind made)) refl
    by false made = absurd cc

-- the line by which a settler asks for a quorum round
abbrev ask_line : ℕ → Line
ask_line s = record { actor = Settler s; act = Ask Quorum }

-- pass 9 opens quorum rounds alone
give_quorums : (t : Setting) (h : History) → GiveOnly t opens_quorum (questions t h)
give_quorums t h =
    give_each t opens_quorum (λ s. if nat_lt (settled s h) (visible t.topology (Settler s) h) then running h (ask_line s) else []) t.topology.centres
    (λ s. give_if t opens_quorum (nat_lt (settled s h) (visible t.topology (Settler s) h)) (running h (ask_line s))
    (give_only t opens_quorum (not (stopped (Settler s) h)) (ask_line s) (λ x e is. ask_quorum t x s e is)))

-- The settler has an open quorum round up to its visibility watermark, which is v.
record IsAsking (t : Shape) (s v : ℕ) (h : History) : Type 0 where
  visible_is : visible t (Settler s) h ≡ v
  round : Round
  open_is : open_round s h ≡ Some round
  quorum : round.mode ≡ Quorum
  upper_is : round.below ≡ v

-- The settler can open a round up to its visibility watermark, which is v.
record CanAsk (t : Shape) (s v : ℕ) (h : History) : Type 0 where
  visible_is : visible t (Settler s) h ≡ v
  runs : stopped (Settler s) h ≡ false
  held : rounds s h + 1 < 2 ^ 64
  above : settled s h < v

-- what opens a quorum round of the settler opens one up to there
asking_next : (t : Setting) (h : History) (e : Entry) (s v : ℕ) → May t h e → opens_quorum e ≡ true → is_settler s e.actor ≡ true
    → visible t.topology (Settler s) h ≡ v → IsAsking t.topology s v (e ∷ h)
asking_next t h e s v may passes own is = by e.actor e.kind may.guard passes own
  where
    by : (a : Actor) (kind : Kind) → Guard t h a kind → asks_quorum kind ≡ true → is_settler s a ≡ true → IsAsking t.topology s v (record { actor = a; kind = kind } ∷ h)
    by (Settler z) (kinds.Asked n Quorum from below) guard passes own =
        let same : z ≡ s = eqb-true z s own in
        record {
          visible_is = visible_quiet t.topology (Settler s) h (record { actor = Settler z; kind = kinds.Asked n Quorum from below }) refl ∙ is;
          round = record { number = n; mode = Quorum; from = from; below = below };
          open_is = rw own refl;
          quorum = refl;
          upper_is = guard.below_is ∙ (ap (λ k. visible t.topology (Settler k) h) same ∙ is);
        }
    by a kind guard passes own = absurd cc

-- an open quorum round of the settler up to there stays, or one more opens
asking_stable : (t : Setting) (s v : ℕ) → Stable t opens_quorum (IsAsking t.topology s v)
asking_stable t s v = record { keep = λ h new run may passes is. by h new may passes is (is_settler s new.actor) refl }
  where
    by : (h : History) (new : Entry) → May t h new → opens_quorum new ≡ true → IsAsking t.topology s v h → (b : Bool) → is_settler s new.actor ≡ b
        → IsAsking t.topology s v (new ∷ h)
    by h new may passes is true own = asking_next t h new s v may passes own is.visible_is
    by h new may passes is false other = record {
      visible_is = visible_quiet t.topology (Settler s) h new (quorum_quiet new passes) ∙ is.visible_is;
      round = is.round;
      open_is = open_round-stays h new.actor new.kind s other ∙ is.open_is;
      quorum = is.quorum;
      upper_is = is.upper_is;
    }

-- a settler that can open a round still can, or has
can_ask_stable : (t : Setting) (s v : ℕ) → Stable t opens_quorum (λ (h : History). IsAsking t.topology s v h ⊎ CanAsk t.topology s v h)
can_ask_stable t s v = record { keep = λ h new run may passes is. either h new run may passes is }
  where
    by : (h : History) (new : Entry) → May t h new → opens_quorum new ≡ true → CanAsk t.topology s v h → (b : Bool) → is_settler s new.actor ≡ b
        → IsAsking t.topology s v (new ∷ h) ⊎ CanAsk t.topology s v (new ∷ h)
    by h new may passes is true own = inl (asking_next t h new s v may passes own is.visible_is)
    by h new may passes is false other = inr (record {
      visible_is = visible_quiet t.topology (Settler s) h new (quorum_quiet new passes) ∙ is.visible_is;
      runs = stopped-stays h new.actor new.kind (Settler s) other ∙ is.runs;
      held = subst (λ n. n + 1 < 2 ^ 64) (sym (rounds-stay h new.actor new.kind s other)) is.held;
      above = subst (λ n. n < v) (sym (settled-stays h new.actor new.kind s other)) is.above;
    })

    either : (h : History) (new : Entry) → IsRun t h → May t h new → opens_quorum new ≡ true → IsAsking t.topology s v h ⊎ CanAsk t.topology s v h
        → IsAsking t.topology s v (new ∷ h) ⊎ CanAsk t.topology s v (new ∷ h)
    either h new run may passes (inl is) = inl ((asking_stable t s v).keep h new run may passes is)
    either h new run may passes (inr can) = by h new may passes can (is_settler s new.actor) refl

-- a settler that can open a round does, where it is to ask
ask_gives : (t : Setting) (h : History) (s v : ℕ) → s < t.topology.centres → CanAsk t.topology s v h
    → gives t h (Settler s) (Ask Quorum) ≡ Some (record { actor = Settler s; kind = kinds.Asked (rounds s h + 1) Quorum (settled s h) (visible t.topology (Settler s) h) })
ask_gives t h s v inside is =
    let above : settled s h < visible t.topology (Settler s) h = subst (λ n. settled s h < n) (sym is.visible_is) is.above in
    rw (settler_in t.topology s inside, is.runs, lt-ltb (rounds s h + 1) (2 ^ 64) is.held, lt-ltb (settled s h) (visible t.topology (Settler s) h) above) refl

-- after pass 9 a settler that could open a round has one up to its visibility watermark
asked_then : (t : Setting) (h : History) (s v : ℕ) → IsRun t h → s < t.topology.centres → CanAsk t.topology s v h
    → IsAsking t.topology s v (followed_all t h (questions t h))
asked_then t h s v run inside can =
    makes (can_ask_stable t s v) (asking_stable t s v) h (questions t h) (ask_line s) run (give_quorums t h) among make (inr can)
  where
    above : settled s h < visible t.topology (Settler s) h
    above = subst (λ n. settled s h < n) (sym can.visible_is) can.above

    among : Among (ask_line s) (questions t h)
    among = in_each (λ k. if nat_lt (settled k h) (visible t.topology (Settler k) h) then running h (ask_line k) else []) t.topology.centres s (ask_line s) inside
        (rw (lt-ltb (settled s h) (visible t.topology (Settler s) h) above) (in_running h (ask_line s) can.runs))

    make : (x : History) → IsRun t x → IsAsking t.topology s v x ⊎ CanAsk t.topology s v x → IsAsking t.topology s v (followed t x (ask_line s))
    make x its (inl is) = keeps_line (asking_stable t s v) x (ask_line s) its (λ y e given. ask_quorum t y s e given) is
    make x its (inr now) =
        let given = ask_gives t x s v inside now in
        let may = (given_follows t x (Settler s) (Ask Quorum) _ its.0 given).0 in
        rw given (asking_next t x _ s v may refl (eq-eqb s s refl) now.visible_is)

-- ---- pass 10: nodes that run answer it

-- the last entry by which a settler asked is that of its open round
last_is_open : (h : History) (s : ℕ) (round : Round) → open_round s h ≡ Some round → at h (last_asked s h) ≡ Some (asked_by s round)
last_is_open [] s round is = absurd cc
last_is_open (e ∷ h) s round is = by e.actor e.kind (is_settler s e.actor) refl is (last_is_open h s round)
  where
    by : (a : Actor) (kind : Kind) (b : Bool) → is_settler s a ≡ b → (if b then opened kind (open_round s h) else open_round s h) ≡ Some round
        → (open_round s h ≡ Some round → at h (last_asked s h) ≡ Some (asked_by s round))
        → at (record { actor = a; kind = kind } ∷ h) (if (if b then asks kind else false) then length h + 1 else last_asked s h) ≡ Some (asked_by s round)
    by a kind false own is rest = at_older h (last_asked s h) (asked_by s round) (record { actor = a; kind = kind }) (rest is)
    by a (kinds.Asked n mode from below) true own is rest =
        let actor_is = settler_is s a own in
        let round_is = same_Some (record { number = n; mode = mode; from = from; below = below }) round is in
        at_newest h (record { actor = a; kind = kinds.Asked n mode from below })
        ∙ (λ i. Some (record { actor = actor_is i; kind = kinds.Asked (round_is i).number (round_is i).mode (round_is i).from (round_is i).below }))
    by a (kinds.Settled values) true own is rest = absurd cc
    by a kind true own is rest = at_older h (last_asked s h) (asked_by s round) (record { actor = a; kind = kind }) (rest is)

-- a settler with an open round that runs waits for answers
waits : (h : History) (s : ℕ) (round : Round) → open_round s h ≡ Some round → stopped (Settler s) h ≡ false → is_waiting h s ≡ true
waits h s round is runs = rw (is, runs) refl

-- an entry by which a letter is taken opens no round, and settles none
taken_keeps : (kind : Kind) (old : Option Round) → is_taking kind ≡ true → opened kind old ≡ old
taken_keeps (kinds.Asked n mode from below) old is = absurd cc
taken_keeps (kinds.Settled values) old is = absurd cc
taken_keeps kind old is = refl

-- a round stays open while letters are taken
round_stable : (t : Setting) (s : ℕ) (round : Round) → Stable t takes_letter (λ (h : History). open_round s h ≡ Some round)
round_stable t s round = record { keep = λ h new run may passes is. by h new passes is (is_settler s new.actor) }
  where
    by : (h : History) (new : Entry) → takes_letter new ≡ true → open_round s h ≡ Some round → (b : Bool)
        → (if b then opened new.kind (open_round s h) else open_round s h) ≡ Some round
    by h new passes is true = taken_keeps new.kind (open_round s h) passes ∙ is
    by h new passes is false = is

-- The node has answered the settler's round.
record IsAnswered (s n c p : ℕ) (h : History) : Type 0 where
  number : ℕ
  place : Place
  items : List Item
  there : at h number ≡ Some (record { actor = Node c p; kind = kinds.Answered place s n items })

answered_stable : (t : Setting) (s n c p : ℕ) → Stable t takes_letter (IsAnswered s n c p)
answered_stable t s n c p = record { keep = λ h new run may passes is. record { number = is.number; place = is.place; items = is.items; there = at_older h is.number _ new is.there } }

-- a node answers a quorum round that was opened in this entry
answer_gives : (t : Setting) (h : History) (k s : ℕ) (round : Round) (c p : ℕ) → c < t.topology.centres → p < t.topology.partitions
    → round.mode ≡ Quorum → at h k ≡ Some (asked_by s round)
    → stopped (Node c p) h ≡ false
    → gives t h (Node c p) (take (Node c p) k 1).act ≡ Some (record { actor = Node c p; kind = kinds.Answered (record { entry = k; letter = 1 }) s round.number (answer c p round.from round.below h) })
answer_gives t h k s round c p centre part quorum there runs = rw (node_in t.topology c p centre part, runs, there, quorum) refl

-- after pass 10 each node that runs has answered
answered_then : (t : Setting) (h : History) (s : ℕ) (round : Round) (c p : ℕ) → IsRun t h → s < t.topology.centres → stopped (Settler s) h ≡ false
    → open_round s h ≡ Some round → round.mode ≡ Quorum
    → c < t.topology.centres → p < t.topology.partitions → stopped (Node c p) h ≡ false → IsAnswered s round.number c p (followed_all t h (answers t h))
answered_then t h s round c p run inside awake open_is quorum centre part runs =
    makes (stable_both (stable_at t takes_letter k (asked_by s round)) (stable_runs t takes_letter (Node c p) taking_stops)) (answered_stable t s round.number c p)
    h (answers t h) line run (give_answers t h) among make (last_is_open h s round open_is, runs)
  where
    k : ℕ
    k = last_asked s h

    line : Line
    line = take (Node c p) k 1

    among_parts : Among line (each (λ q. running h (take (Node c q) (last_asked s h) 1)) t.topology.partitions)
    among_parts = in_each (λ q. running h (take (Node c q) (last_asked s h) 1)) t.topology.partitions p line part (in_running h line runs)

    among_centres : Among line (answer_lines t h s)
    among_centres =
        in_each (λ d. if mode_asks s (open_round s h) d then each (λ q. running h (take (Node d q) (last_asked s h) 1)) t.topology.partitions else []) t.topology.centres c line centre
        (rw (open_is, quorum) among_parts)

    among : Among line (answers t h)
    among = in_each (λ z. if is_waiting h z then answer_lines t h z else []) t.topology.centres s line inside (rw (waits h s round open_is awake) among_centres)

    make : (x : History) → IsRun t x → (at x k ≡ Some (asked_by s round)) × (stopped (Node c p) x ≡ false) → IsAnswered s round.number c p (followed t x line)
    make x its is =
        rw (answer_gives t x k s round c p centre part quorum is.0 is.1)
        (record { number = length x + 1; place = record { entry = k; letter = 1 }; items = answer c p round.from round.below x; there = at_newest x _ })

-- ---- pass 11: the settler takes the answers

-- a settler takes an answer to its open round
take_gives : (t : Setting) (h : History) (s : ℕ) (round : Round) (c p k : ℕ) (place : Place) (items : List Item) → s < t.topology.centres
    → open_round s h ≡ Some round → stopped (Settler s) h ≡ false
    → at h k ≡ Some (record { actor = Node c p; kind = kinds.Answered place s round.number items })
    → gives t h (Settler s) (take (Settler s) k 1).act ≡ Some (record { actor = Settler s; kind = kinds.Taken (record { entry = k; letter = 1 }) round.number c p items })
take_gives t h s round c p k place items inside open_is runs there =
    rw (settler_in t.topology s inside, runs, there, eq-eqb s s refl, open_is, eq-eqb round.number round.number refl) refl

-- What a settler needs to take an answer to its open round.
record CanTake (s : ℕ) (round : Round) (c p k : ℕ) (place : Place) (items : List Item) (h : History) : Type 0 where
  open_is : open_round s h ≡ Some round
  runs : stopped (Settler s) h ≡ false
  there : at h k ≡ Some (record { actor = Node c p; kind = kinds.Answered place s round.number items })

can_take_stable : (t : Setting) (s : ℕ) (round : Round) (c p k : ℕ) (place : Place) (items : List Item) → Stable t takes_letter (CanTake s round c p k place items)
can_take_stable t s round c p k place items = record {
  keep = λ h new run may passes is. record {
    open_is = (round_stable t s round).keep h new run may passes is.open_is;
    runs = (stable_runs t takes_letter (Settler s) taking_stops).keep h new run may passes is.runs;
    there = at_older h k _ new is.there;
  };
}

-- after pass 11 an answer is taken
taken_then : (t : Setting) (h : History) (s : ℕ) (round : Round) (c p k : ℕ) (place : Place) (items : List Item) → IsRun t h
    → s < t.topology.centres → CanTake s round c p k place items h
    → took s round.number c p (followed_all t h (takes t h)) ≡ true
taken_then t h s round c p k place items run inside can =
    makes (can_take_stable t s round c p k place items) (stable_some t takes_letter (λ e. if is_settler s e.actor then takes_from round.number c p e.kind else false))
    h (takes t h) line run (give_takes t h) among make can
  where
    line : Line
    line = take (Settler s) k 1

    among_answers : Among line (gather (λ number e. only (is_to s (open_round s h) e.kind) (take (Settler s) number 1)) h)
    among_answers =
        in_gather (λ number e. only (is_to s (open_round s h) e.kind) (take (Settler s) number 1)) h k _ line can.there
        (rw (can.open_is, eq-eqb s s refl, eq-eqb round.number round.number refl) (inl refl))

    among : Among line (takes t h)
    among = in_each (λ z. if is_waiting h z then gather (λ number e. only (is_to z (open_round z h) e.kind) (take (Settler z) number 1)) h else []) t.topology.centres s line inside
        (rw (waits h s round can.open_is can.runs) among_answers)

    make : (x : History) → IsRun t x → CanTake s round c p k place items x → took s round.number c p (followed t x line) ≡ true
    make x its is =
        rw (take_gives t x s round c p k place items inside is.open_is is.runs is.there, eq-eqb s s refl, eq-eqb round.number round.number refl, eq-eqb c c refl, eq-eqb p p refl) refl

-- ---- pass 12: the round is settled

-- What a settler needs to settle its open round: the answer of each node that ran is taken.
record CanSettle (t : Shape) (past : History) (s : ℕ) (round : Round) (h : History) : Type 0 where
  open_is : open_round s h ≡ Some round
  runs : stopped (Settler s) h ≡ false
  taken : (c p : ℕ) → c < t.centres → p < t.partitions → stopped (Node c p) past ≡ false → took s round.number c p h ≡ true

-- where enough nodes ran, each partition gave answers enough
enough_where : (t : Shape) (past : History) (s : ℕ) (round : Round) (h : History) → IsWhole t past → CanSettle t past s round h → (p : ℕ) → p < t.partitions
    → t.read ≤ weight t (λ c. took s round.number c p h)
enough_where t past s round h whole can p part =
    let ran : ℕ → Bool = λ c. not (stopped (Node c p) past) in
    let inside : ℕ → Bool = λ c. ltb c t.centres && not (stopped (Node c p) past) in
    let most : max t.write t.read ≤ weight t ran = whole.nodes p part in
    let same : weight t ran ≡ weight t inside = weight_same t ran inside (λ c less. sym (rw (lt-ltb c t.centres less) refl)) in
    let more : weight t inside ≤ weight t (λ c. took s round.number c p h) = weight_more t inside (λ c. took s round.number c p h) (λ c is.
    let parts = and_parts (ltb c t.centres) (not (stopped (Node c p) past)) is in
    can.taken c p (ltb-true c t.centres parts.0) part (not-true (stopped (Node c p) past) parts.1)) in
    omega (arith, most, same, more)

-- a settler settles its open quorum round then
settle_gives : (t : Setting) (past : History) (s : ℕ) (round : Round) (h : History) → IsWhole t.topology past → round.mode ≡ Quorum → CanSettle t.topology past s round h
    → settles t.topology h s ≡ Some (kinds.Settled (plan_values s round h))
settle_gives t past s round h whole quorum can = may_settles t.topology h s (plan_values s round h) (record {
  current = round;
  current_is = can.open_is;
  enough = λ p part. subst (λ mode. IsEnough t.topology s round p h mode) (sym quorum) (enough_where t.topology past s round h whole can p part);
  values_are = refl;
})

-- the line by which a settler settles
abbrev settle_line : ℕ → Line
settle_line s = record { actor = Settler s; act = Settle }

-- a settler that settles its open round has settled up to there
settled_next : (t : Setting) (h : History) (e : Entry) (s v : ℕ) (round : Round) → settles_round e ≡ true → is_settler s e.actor ≡ true
    → open_round s h ≡ Some round → round.below ≡ v → v ≤ settled s (e ∷ h)
settled_next t h e s v round passes own open_is upper_is = by e.kind passes (is_settler s e.actor) own
  where
    by : (kind : Kind) → is_settling kind ≡ true → (b : Bool) → b ≡ true → v ≤ (if b then raised kind (open_round s h) (settled s h) else settled s h)
    by (kinds.Settled values) passes true own = rw open_is (omega (arith, upper_is))
    by (kinds.Settled values) passes false own = absurd cc
    by kind passes b own = absurd cc

-- a settler that can settle its open round still can, or has
can_settle_stable : (t : Setting) (past : History) (s v : ℕ) (round : Round) → round.below ≡ v
    → Stable t settles_round (λ (h : History). (v ≤ settled s h) ⊎ CanSettle t.topology past s round h)
can_settle_stable t past s v round upper_is = record { keep = λ h new run may passes is. either h new run may passes is }
  where
    by : (h : History) (new : Entry) → settles_round new ≡ true → CanSettle t.topology past s round h → (b : Bool) → is_settler s new.actor ≡ b
        → (v ≤ settled s (new ∷ h)) ⊎ CanSettle t.topology past s round (new ∷ h)
    by h new passes is true own = inl (settled_next t h new s v round passes own is.open_is upper_is)
    by h new passes is false other = inr (record {
      open_is = open_round-stays h new.actor new.kind s other ∙ is.open_is;
      runs = stopped-stays h new.actor new.kind (Settler s) other ∙ is.runs;
      taken = λ c p centre part ran.
          or_right (if is_settler s new.actor then takes_from round.number c p new.kind else false) (took s round.number c p h) (is.taken c p centre part ran);
    })

    either : (h : History) (new : Entry) → IsRun t h → May t h new → settles_round new ≡ true
        → (v ≤ settled s h) ⊎ CanSettle t.topology past s round h → (v ≤ settled s (new ∷ h)) ⊎ CanSettle t.topology past s round (new ∷ h)
    either h new run may passes (inl is) = inl ((stable_settled t settles_round s v).keep h new run may passes is)
    either h new run may passes (inr can) = by h new passes can (is_settler s new.actor) refl

-- an entry that settles brings no marks
settling_quiet : (e : Entry) → settles_round e ≡ true → is_quiet e.kind ≡ true
settling_quiet e is = by e.kind is
  where
    by : (kind : Kind) → is_settling kind ≡ true → is_quiet kind ≡ true
    by (kinds.Published time vector) is = absurd cc
    by (kinds.Heard place vector) is = absurd cc
    by kind is = refl

-- after pass 12 a settler has settled its open quorum round
rounds_then : (t : Setting) (past : History) (h : History) (s v : ℕ) (round : Round) → IsRun t h → IsWhole t.topology past → s < t.topology.centres
    → round.mode ≡ Quorum → round.below ≡ v
    → CanSettle t.topology past s round h → v ≤ settled s (followed_all t h (settlements t h))
rounds_then t past h s v round run whole inside quorum upper_is can =
    makes (can_settle_stable t past s v round upper_is) (stable_settled t settles_round s v) h (settlements t h) (settle_line s) run (give_settlements t h) among make (inr can)
  where
    among : Among (settle_line s) (settlements t h)
    among = in_each (λ z. if is_some (settles t.topology h z) then running h (settle_line z) else []) t.topology.centres s (settle_line s) inside
        (rw (settle_gives t past s round h whole quorum can) (in_running h (settle_line s) can.runs))

    make : (x : History) → IsRun t x → (v ≤ settled s x) ⊎ CanSettle t.topology past s round x → v ≤ settled s (followed t x (settle_line s))
    make x its (inl is) = keeps_line (stable_settled t settles_round s v) x (settle_line s) its (λ y e given. settle_settles t y s e given) is
    make x its (inr now) =
        rw (settler_in t.topology s inside, now.runs, settle_gives t past s round x whole quorum now)
        (settled_next t x (record { actor = Settler s; kind = kinds.Settled (plan_values s round x) }) s v round refl (eq-eqb s s refl) now.open_is upper_is)

-- ---- the visibility watermark of a settler stays

-- what is so, and is so after an entry that the line gives, is so after the line
followed_by : (P : History → Type 0) (t : Setting) (h : History) (line : Line) → P h
    → ((e : Entry) → gives t h line.actor line.act ≡ Some e → P (e ∷ h)) → P (followed t h line)
followed_by P t h line is next = by (gives t h line.actor line.act) refl
  where
    by : (o : Option Entry) → gives t h line.actor line.act ≡ o → P (onto o h)
    by None given = is
    by (Some e) given = next e given

-- the lines of pass 10 are nodes'
answers_are : (t : Setting) (h : History) (line : Line) → Among line (answers t h) → (c p k : ℕ) × (line ≡ take (Node c p) k 1)
answers_are t h line among =
    let settler = from_each (λ s. if is_waiting h s then answer_lines t h s else []) t.topology.centres line among in
    let s = settler.0 in
    let one = from_if (is_waiting h s) (answer_lines t h s) line settler.2 in
    let centre = from_each (λ c. if mode_asks s (open_round s h) c then each (λ p. running h (take (Node c p) (last_asked s h) 1)) t.topology.partitions else []) t.topology.centres line one in
    let c = centre.0 in
    let two = from_if (mode_asks s (open_round s h) c) (each (λ p. running h (take (Node c p) (last_asked s h) 1)) t.topology.partitions) line centre.2 in
    let part = from_each (λ p. running h (take (Node c p) (last_asked s h) 1)) t.topology.partitions line two in
    let p = part.0 in
    (c, p, last_asked s h, (from_only (not (stopped (Node c p) h)) (take (Node c p) (last_asked s h) 1) line part.2).1)

-- so it stays in pass 10
answers_visible : (t : Setting) (h : History) (s v : ℕ) → IsRun t h → visible t.topology (Settler s) h ≡ v
    → visible t.topology (Settler s) (followed_all t h (answers t h)) ≡ v
answers_visible t h s v run is = keeps_among h (answers t h) run keep is
  where
    keep : (line : Line) → Among line (answers t h) → (x : History) → IsRun t x → visible t.topology (Settler s) x ≡ v
        → visible t.topology (Settler s) (followed t x line) ≡ v
    keep line among x its was =
        let one = answers_are t h line among in
        followed_by (λ (y : History). visible t.topology (Settler s) y ≡ v) t x line was λ e given.
        let whose : e.actor ≡ line.actor = (given_follows t x line.actor line.act e its.0 given).1 in
        let node : line.actor ≡ Node one.0 one.1 = ap (λ (l : Line). l.actor) one.3 in
        let other : same_actor (Settler s) e.actor ≡ false = rw (whose, node) refl in
        watermark-stays x e.actor e.kind low_of t.topology (Settler s) other ∙ was

-- whether an entry answers
abbrev is_answer : Kind → Bool
is_answer (kinds.Answered place settler round items) = true
is_answer other = false

-- whether a letter is a gossip
abbrev is_gossip : Letter → Bool
is_gossip (letters.Gossip sender vector) = true
is_gossip other = false

-- what answers a round is an answer
to_answers : (s : ℕ) (o : Option Round) (kind : Kind) → is_to s o kind ≡ true → is_answer kind ≡ true
to_answers s None kind is = absurd cc
to_answers s (Some round) (kinds.Answered place settler n items) is = refl
to_answers s (Some round) kind is = absurd cc

-- the lines of pass 11 take answers
takes_are : (t : Setting) (h : History) (line : Line) → Among line (takes t h)
    → (s k : ℕ) × (e : Entry) × (at h k ≡ Some e) × (is_answer e.kind ≡ true) × (line ≡ take (Settler s) k 1)
takes_are t h line among =
    let settler = from_each (λ s. if is_waiting h s then gather (λ number e. only (is_to s (open_round s h) e.kind) (take (Settler s) number 1)) h else []) t.topology.centres line among in
    let s = settler.0 in
    let one = from_if (is_waiting h s) (gather (λ number e. only (is_to s (open_round s h) e.kind) (take (Settler s) number 1)) h) line settler.2 in
    let found = from_gather (λ number e. only (is_to s (open_round s h) e.kind) (take (Settler s) number 1)) h line one in
    let its = from_only (is_to s (open_round s h) found.1.kind) (take (Settler s) found.0 1) line found.3 in
    (s, found.0, found.1, found.2, to_answers s (open_round s h) found.1.kind its.0, its.1)

-- what answers sends no gossip
answer_sends : (t : Shape) (a : Actor) (kind : Kind) (sent : Letter) → is_answer kind ≡ true
    → letter_in t (record { actor = a; kind = kind }) 1 ≡ Some sent → is_gossip sent ≡ false
answer_sends t (Node c p) (kinds.Answered place settler round items) sent is there = rw (sym (same_Some (letters.Answer settler round c p items) sent there)) refl
answer_sends t (Gate g) (kinds.Answered place settler round items) sent is there = absurd cc
answer_sends t (Settler s) (kinds.Answered place settler round items) sent is there = absurd cc
answer_sends t a kind sent is there = absurd cc

-- a settler that takes another letter than a gossip brings no marks
settler_quiet : (h : History) (s : ℕ) (place : Place) (sent : Letter) (kind : Kind) → is_gossip sent ≡ false
    → settler_takes h s place sent ≡ Some kind → is_quiet kind ≡ true
settler_quiet h s place (letters.Gossip sender vector) kind other is = absurd cc
settler_quiet h s place (letters.Answer settler round c p items) kind other is = by (is_current (open_round s h) round) is
  where
    by : (b : Bool) → (if b then Some (kinds.Taken place round c p items) else None) ≡ Some kind → is_quiet kind ≡ true
    by true is = rw (sym (same_Some (kinds.Taken place round c p items) kind is)) refl
    by false is = absurd cc
settler_quiet h s place (letters.Want session seq gate start) kind other is = by (reply_to h s start) is
  where
    by : (o : Option Reply) → (o >>= λ reply. Some (kinds.Resulted place session seq gate reply)) ≡ Some kind → is_quiet kind ≡ true
    by (Some reply) is = rw (sym (same_Some (kinds.Resulted place session seq gate reply) kind is)) refl
    by None is = absurd cc
settler_quiet h s place sent kind other is = absurd cc

-- so does one that takes the letter of an entry that answers
take_quiet : (t : Setting) (h : History) (s k : ℕ) (e new : Entry) → at h k ≡ Some e → is_answer e.kind ≡ true
    → gives t h (Settler s) (take (Settler s) k 1).act ≡ Some new → is_quiet new.kind ≡ true
take_quiet t h s k e new there is given =
    let made : letter_from t.topology (at h k) 1 >>= from_letter ≡ Some new.kind = given_kind t h (Settler s) (Take place) new given in
    by (letter_in t.topology e 1) refl (subst (λ (o : Option Entry). letter_from t.topology o 1 >>= from_letter ≡ Some new.kind) there made)
  where
    place : Place
    place = record { entry = k; letter = 1 }

    from_letter : Letter → Option Kind
    from_letter sent = if is_for t.topology sent (Settler s) then settler_takes h s place sent else None

    by_for : (sent : Letter) (b : Bool) → is_gossip sent ≡ false → (if b then settler_takes h s place sent else None) ≡ Some new.kind → is_quiet new.kind ≡ true
    by_for sent true other made = settler_quiet h s place sent new.kind other made
    by_for sent false other made = absurd cc

    by : (o : Option Letter) → letter_in t.topology e 1 ≡ o
        → (o >>= λ sent. if is_for t.topology sent (Settler s) then settler_takes h s place sent else None) ≡ Some new.kind → is_quiet new.kind ≡ true
    by None sends made = absurd cc
    by (Some sent) sends made = by_for sent (is_for t.topology sent (Settler s)) (answer_sends t.topology e.actor e.kind sent is sends) made

-- so it stays in pass 11
takes_visible : (t : Setting) (h : History) (s v : ℕ) → IsRun t h → visible t.topology (Settler s) h ≡ v
    → visible t.topology (Settler s) (followed_all t h (takes t h)) ≡ v
takes_visible t h s v run is = (keeps_among h (takes t h) run keep (is, λ k e there. there)).0
  where
    Kept : History → Type 0
    Kept x = (visible t.topology (Settler s) x ≡ v) × ((k : ℕ) (e : Entry) → at h k ≡ Some e → at x k ≡ Some e)

    keep : (line : Line) → Among line (takes t h) → (x : History) → IsRun t x → Kept x → Kept (followed t x line)
    keep line among x its was =
        let one = takes_are t h line among in
        followed_by Kept t x line was λ e given.
        let line_is = one.5 in
        let same : gives t x (Settler one.0) (take (Settler one.0) one.1 1).act ≡ Some e = subst (λ (l : Line). gives t x l.actor l.act ≡ Some e) line_is given in
        let quiet = take_quiet t x one.0 one.1 one.2 e (was.1 one.1 one.2 one.3) one.4 same in (
          visible_quiet t.topology (Settler s) x e quiet ∙ was.0,
          λ k old there. at_older x k old e (was.1 k old there),
        )

-- ---- fact 4

-- The histories after each of the passes, for one settler whose visibility watermark is v.
module _ (t : Setting) (h : History) (s v : ℕ) (runs : Runs t h) (inside : s < t.topology.centres) (is : visible t.topology (Settler s) h ≡ v) where
  abbrev asked : History
  asked = followed_all t h (questions t h)

  abbrev answered : History
  answered = followed_all t asked (answers t asked)

  abbrev gathered : History
  gathered = followed_all t answered (takes t answered)

  abbrev done : History
  done = followed_all t gathered (settlements t gathered)

  asked-run : IsRun t asked
  asked-run = run_all t h (questions t h) runs.run

  answered-run : IsRun t answered
  answered-run = run_all t asked (answers t asked) asked-run

  gathered-run : IsRun t gathered
  gathered-run = run_all t answered (takes t answered) answered-run

  -- the visibility watermark is the same after all of them
  visible-then : visible t.topology (Settler s) done ≡ v
  visible-then =
      let one = keeps (visible_stable t opens_quorum (Settler s) v quorum_quiet) h (questions t h) runs.run (give_quorums t h) is in
      let two = answers_visible t asked s v asked-run one in
      let three = takes_visible t answered s v answered-run two in
      keeps (visible_stable t settles_round (Settler s) v settling_quiet) gathered (settlements t gathered) gathered-run (give_settlements t gathered) three

  -- what was settled before them is settled after them
  still-settled : (n : ℕ) → n ≤ settled s h → n ≤ settled s done
  still-settled n under =
      let one = keeps (stable_settled t opens_quorum s n) h (questions t h) runs.run (give_quorums t h) under in
      let two = keeps (stable_settled t takes_letter s n) asked (answers t asked) asked-run (give_answers t asked) one in
      let three = keeps (stable_settled t takes_letter s n) answered (takes t answered) answered-run (give_takes t answered) two in
      keeps (stable_settled t settles_round s n) gathered (settlements t gathered) gathered-run (give_settlements t gathered) three

  -- a settler whose open round is a quorum round up to there settles it
  round-then : IsAsking t.topology s v asked → v ≤ settled s done
  round-then ask =
      rounds_then t h gathered s v ask.round gathered-run runs.whole inside ask.quorum ask.upper_is (record {
        open_is = keeps (round_stable t s ask.round) answered (takes t answered) answered-run (give_takes t answered) still_open;
        runs = keeps (stable_runs t takes_letter (Settler s) taking_stops) answered (takes t answered) answered-run (give_takes t answered) still_awake;
        taken = λ c p centre part ran.
            let its = keeps (stable_runs t opens_quorum (Node c p) quorum_runs) h (questions t h) runs.run (give_quorums t h) ran in
            let answer = answered_then t asked s ask.round c p asked-run inside awake ask.open_is ask.quorum centre part its in
            taken_then t answered s ask.round c p answer.number answer.place answer.items answered-run inside (record { open_is = still_open; runs = still_awake; there = answer.there });
      })
    where
      awake : stopped (Settler s) asked ≡ false
      awake = keeps (stable_runs t opens_quorum (Settler s) quorum_runs) h (questions t h) runs.run (give_quorums t h) (runs.whole.settlers s inside)

      still_awake : stopped (Settler s) answered ≡ false
      still_awake = keeps (stable_runs t takes_letter (Settler s) taking_stops) asked (answers t asked) asked-run (give_answers t asked) awake

      still_open : open_round s answered ≡ Some ask.round
      still_open = keeps (round_stable t s ask.round) asked (answers t asked) asked-run (give_answers t asked) ask.open_is

  -- so each settler settles up to there
  all-then : length h < 2 ^ 64 → v ≤ settled s done
  all-then few = elim (cases_Bool (ltb (settled s h) v)) [
    | inr high ↦ still-settled v (ltb-false (settled s h) v high)
    | inl low ↦
        let above : settled s h < v = ltb-true (settled s h) v low in
        round-then (asked_then t h s v runs.run inside (record {
          visible_is = is;
          runs = runs.whole.settlers s inside;
          held = round_held t h s runs.run.1 (omega (arith, above, is)) few;
          above = above;
        }))
  ]

-- after the passes of rounds each settler has settled up to its visibility watermark
pub settled_then : (t : Setting) (h : History) → Runs t h → length (passed t h (questions ∷ answers ∷ takes ∷ settlements ∷ [])) < 2 ^ 64
    → AllSettled t.topology (passed t h (questions ∷ answers ∷ takes ∷ settlements ∷ []))
settled_then t h runs few s inside =
    let more : length h ≤ length (passed t h (questions ∷ answers ∷ takes ∷ settlements ∷ [])) = passed_longer t h (questions ∷ answers ∷ takes ∷ settlements ∷ []) in
    let v = visible t.topology (Settler s) h in
    let same = visible-then t h s v runs inside refl in
    let all : v ≤ settled s (done t h s v runs inside refl) = all-then t h s v runs inside refl (omega (arith, more, few)) in
    rw same all
