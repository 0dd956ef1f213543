-- What the lines of each pass give: entries by which letters are taken, or commands begin, gateways publish, rounds are opened or settled.
use Rattle.std.proofs.Common.{◌≡◌, ℕ, ◌+◌, ◌^◌, ◌==◌, Bool, true, false, not, ◌&&◌, ◌||◌, Option, Some, None, [], length, refl, sym}
use Rattle.std.specs.Prelude.{max, nat_lt, is_some, get_or, slice_get, if◌then◌else◌}
use Rattle.std.specs.Option.{option_map}
use Rattle.std.proofs.lemmas.Option.{same_Some}
use Rattle.ov_base.specs.Version.{number, gate_of}
use Rattle.ov_base.specs.Word.{◌>>=◌}
use Rattle.ov_topology.specs.Shape.{gates}
use Rattle.ov_topology.specs.declared.actor.Actor.{Actor}
use Rattle.ov_topology.specs.declared.actor.Actor.TheVariants.{Gate, Node, Settler}
use Rattle.ov_topology.specs.declared.mode.Mode.TheVariants.{Quorum}
use Rattle.ov_session.specs.declared.plan.SessionPlan.{SessionPlan}
use Rattle.ov_session.specs.declared.planned.Planned.{Planned}
use Rattle.ov_session.specs.Events.{begun}
use Rattle.ov_event.specs.Letters.{letters_of}
use Rattle.ov_event.specs.declared.entry.Entry.{Entry}
use Rattle.ov_event.specs.declared.kind.Kind.{Kind}
use Rattle.ov_event.specs.declared.kind.Kind.TheVariants as kinds
use Rattle.ov_event.specs.declared.letter.Letter.{Letter}
use Rattle.ov_event.specs.declared.letter.Letter.TheVariants as letters
use Rattle.ov_event.specs.declared.start.Start.{Start}
use Rattle.ov_history.specs.Counts.{all_below}
use Rattle.ov_history.specs.Draws.{last}
use Rattle.ov_history.specs.Marks.{visible, top_time}
use Rattle.ov_history.specs.May.{Setting, upper}
use Rattle.ov_history.specs.Past.{History, stopped}
use Rattle.ov_history.specs.Placement.{acked}
use Rattle.ov_history.specs.Sessions.{events_of}
use Rattle.ov_history.specs.Settlers.{Round, open_round, rounds, settled, plan_values}
use Rattle.ov_history.specs.Gives.{Begin, Publish, Ask, Settle, gives, ready, start_of, timed, time_at, vector_to, is_enough, settles}
use Rattle.ov_follow.specs.Lines.{begin_of, begin_line}
use Rattle.ov_follow.specs.Passes.{gather, each, over, only, running, take, can, told, told_lines, tolds, begins, stored_from, write_lines, writes, ack_lines, acks, publishes, last_published, hear_lines, hears, questions, is_waiting, mode_asks, last_asked, answer_lines, answers, is_to, takes, settlements, is_replied, want_lines, results, reply_lines, replies_of}
use Rattle.ov_complete.specs.Stable.{GiveOnly, is_beginning, is_publishing, is_asking, is_settling}
use Rattle.ov_complete.proofs.Keeping.{give_both}
use Rattle.ov_complete.proofs.Listed.{takes_letter, take_takes, give_take, give_gather, give_each, give_over, give_only, give_if, give_unless, given_kind}

-- ---- taking letters

tolds_take : (t : Setting) (h : History) (number : ℕ) (a : Actor) (kind : Kind) → GiveOnly t takes_letter (told_lines t h number a kind)
tolds_take t h number (Gate g) (kinds.Replied place s c reply) =
    give_each t takes_letter (λ k. if not (k == g) && not (told k s c h) then running h (take (Gate k) number 1) else []) (gates t.topology)
    (λ k. give_if t takes_letter (not (k == g) && not (told k s c h)) (running h (take (Gate k) number 1)) (give_take t h (Gate k) number 1))
tolds_take t h number actor other = tt

-- pass 1
pub give_tolds : (t : Setting) (h : History) → GiveOnly t takes_letter (tolds t h)
give_tolds t h = give_gather t takes_letter (λ number e. told_lines t h number e.actor e.kind) h (λ number e. tolds_take t h number e.actor e.kind)

writes_take : (t : Setting) (h : History) (number place : ℕ) (sent : Letter) → GiveOnly t takes_letter (write_lines t h number place sent)
writes_take t h number place (letters.Write version p items) =
    give_each t takes_letter (λ c. if stored_from (Node c p) (record { entry = number; letter = place }) h then [] else running h (take (Node c p) number place)) t.topology.centres
    (λ c. give_unless t takes_letter (stored_from (Node c p) (record { entry = number; letter = place }) h) (running h (take (Node c p) number place)) (give_take t h (Node c p) number place))
writes_take t h number place other = tt

-- pass 3
pub give_writes : (t : Setting) (h : History) → GiveOnly t takes_letter (writes t h)
give_writes t h =
    give_gather t takes_letter (λ number e. over (write_lines t h number) 1 (letters_of t.topology e)) h
    (λ number e. give_over t takes_letter (write_lines t h number) 1 (letters_of t.topology e) (λ place sent. writes_take t h number place sent))

acks_take : (t : Setting) (h : History) (number : ℕ) (a : Actor) (kind : Kind) → GiveOnly t takes_letter (ack_lines t h number a kind)
acks_take t h number (Node c p) (kinds.Stored place version items) =
    give_unless t takes_letter (acked (gate_of version) version c p h) (running h (take (Gate (gate_of version)) number 1)) (give_take t h (Gate (gate_of version)) number 1)
acks_take t h number actor other = tt

-- pass 4
pub give_acks : (t : Setting) (h : History) → GiveOnly t takes_letter (acks t h)
give_acks t h = give_gather t takes_letter (λ number e. ack_lines t h number e.actor e.kind) h (λ number e. acks_take t h number e.actor e.kind)

hear_takes : (t : Setting) (h : History) (g number : ℕ) → GiveOnly t takes_letter (hear_lines t h g number)
hear_takes t h g number =
    give_both t takes_letter (each (λ k. if k == g then [] else running h (take (Gate k) number 1)) (gates t.topology)) (each (λ s. running h (take (Settler s) number 1)) t.topology.centres)
    (give_each t takes_letter (λ k. if k == g then [] else running h (take (Gate k) number 1)) (gates t.topology)
    (λ k. give_unless t takes_letter (k == g) (running h (take (Gate k) number 1)) (give_take t h (Gate k) number 1)))
    (give_each t takes_letter (λ s. running h (take (Settler s) number 1)) t.topology.centres (λ s. give_take t h (Settler s) number 1))

-- passes 6 and 8
pub give_hears : (t : Setting) (h : History) → GiveOnly t takes_letter (hears t h)
give_hears t h =
    give_each t takes_letter (λ g. if stopped (Gate g) h || (last_published g h == 0) then [] else hear_lines t h g (last_published g h)) (gates t.topology)
    (λ g. give_unless t takes_letter (stopped (Gate g) h || (last_published g h == 0)) (hear_lines t h g (last_published g h)) (hear_takes t h g (last_published g h)))

answer_takes : (t : Setting) (h : History) (s : ℕ) → GiveOnly t takes_letter (answer_lines t h s)
answer_takes t h s =
    give_each t takes_letter (λ c. if mode_asks s (open_round s h) c then each (λ p. running h (take (Node c p) (last_asked s h) 1)) t.topology.partitions else []) t.topology.centres
    (λ c. give_if t takes_letter (mode_asks s (open_round s h) c) (each (λ p. running h (take (Node c p) (last_asked s h) 1)) t.topology.partitions)
    (give_each t takes_letter (λ p. running h (take (Node c p) (last_asked s h) 1)) t.topology.partitions (λ p. give_take t h (Node c p) (last_asked s h) 1)))

-- pass 10
pub give_answers : (t : Setting) (h : History) → GiveOnly t takes_letter (answers t h)
give_answers t h =
    give_each t takes_letter (λ s. if is_waiting h s then answer_lines t h s else []) t.topology.centres
    (λ s. give_if t takes_letter (is_waiting h s) (answer_lines t h s) (answer_takes t h s))

-- pass 11
pub give_takes : (t : Setting) (h : History) → GiveOnly t takes_letter (takes t h)
give_takes t h =
    give_each t takes_letter (λ s. if is_waiting h s then gather (λ number e. only (is_to s (open_round s h) e.kind) (take (Settler s) number 1)) h else []) t.topology.centres
    (λ s. give_if t takes_letter (is_waiting h s) (gather (λ number e. only (is_to s (open_round s h) e.kind) (take (Settler s) number 1)) h)
    (give_gather t takes_letter (λ number e. only (is_to s (open_round s h) e.kind) (take (Settler s) number 1)) h
    (λ number e. give_only t takes_letter (is_to s (open_round s h) e.kind) (take (Settler s) number 1) (λ x e is. take_takes t x (Settler s) number 1 e is))))

wants_take : (t : Setting) (h : History) (number place : ℕ) (sent : Letter) → GiveOnly t takes_letter (want_lines t h number place sent)
wants_take t h number place (letters.Want s c g start) =
    give_unless t takes_letter (is_replied s c h) (can t h (Some (take (Settler (get_or t.topology.gateways g 0)) number place)))
    (give_only t takes_letter (is_some (gives t h (Settler (get_or t.topology.gateways g 0)) (take (Settler (get_or t.topology.gateways g 0)) number place).act)) (take (Settler (get_or t.topology.gateways g 0)) number place)
    (λ x e is. take_takes t x (Settler (get_or t.topology.gateways g 0)) number place e is))
wants_take t h number place other = tt

-- pass 13
pub give_results : (t : Setting) (h : History) → GiveOnly t takes_letter (results t h)
give_results t h =
    give_gather t takes_letter (λ number e. over (want_lines t h number) 1 (letters_of t.topology e)) h
    (λ number e. give_over t takes_letter (want_lines t h number) 1 (letters_of t.topology e) (λ place sent. wants_take t h number place sent))

replies_take : (t : Setting) (h : History) (number : ℕ) (kind : Kind) → GiveOnly t takes_letter (reply_lines h number kind)
replies_take t h number (kinds.Resulted place s c g reply) = give_unless t takes_letter (is_replied s c h) (running h (take (Gate g) number 1)) (give_take t h (Gate g) number 1)
replies_take t h number other = tt

-- pass 14
pub give_replies : (t : Setting) (h : History) → GiveOnly t takes_letter (replies_of t h)
give_replies t h = give_gather t takes_letter (λ number e. reply_lines h number e.kind) h (λ number e. replies_take t h number e.kind)

-- ---- the other passes

-- whether an entry begins a command, publishes, opens a round or settles one
abbrev pub begins_command : Entry → Bool
begins_command e = is_beginning e.kind

abbrev pub publishes_marks : Entry → Bool
publishes_marks e = is_publishing e.kind

abbrev pub opens_round : Entry → Bool
opens_round e = is_asking e.kind

abbrev pub settles_round : Entry → Bool
settles_round e = is_settling e.kind

-- a session's gateway begins its command
pub begin_begins : (t : Setting) (h : History) (g s clock : ℕ) (e : Entry) → gives t h (Gate g) (Begin s clock) ≡ Some e → begins_command e ≡ true
begin_begins t h g s clock e is = by (ready t h g s) (given_kind t h (Gate g) (Begin s clock) e is)
  where
    by_start : (o : Option Start) → (o >>= λ start. Some (kinds.Began s (begun s (events_of g h) + 1) start)) ≡ Some e.kind → begins_command e ≡ true
    by_start (Some start) made = rw (sym (same_Some (kinds.Began s (begun s (events_of g h) + 1) start) e.kind made)) refl
    by_start None made = absurd cc

    by : (o : Option Planned) → (o >>= λ planned. start_of h g s clock planned.command >>= λ start. Some (kinds.Began s (begun s (events_of g h) + 1) start)) ≡ Some e.kind → begins_command e ≡ true
    by (Some planned) made = by_start (start_of h g s clock planned.command) made
    by None made = absurd cc

-- pass 2
pub give_begins : (t : Setting) (h : History) → GiveOnly t begins_command (begins t h)
give_begins t h = give_each t begins_command (λ s. can t h (begin_of t.roster 0 s)) (length t.roster.sessions) (λ s. by s (slice_get t.roster.sessions s))
  where
    by : (s : ℕ) (o : Option SessionPlan) → GiveOnly t begins_command (can t h (option_map (begin_line s 0) o))
    by s (Some plan) =
        give_only t begins_command (is_some (gives t h (Gate plan.gate) (Begin s 0))) (begin_line s 0 plan) (λ x e is. begin_begins t x plan.gate s 0 e is)
    by s None = tt

-- a gateway publishes
pub publish_publishes : (t : Setting) (h : History) (g clock : ℕ) (e : Entry) → gives t h (Gate g) (Publish clock) ≡ Some e → publishes_marks e ≡ true
publish_publishes t h g clock e is = by (timed (time_at clock (max (last g h + 1) (top_time (Gate g) (gates t.topology) h)))) (given_kind t h (Gate g) (Publish clock) e is)
  where
    by : (o : Option ℕ) → (o >>= λ time. Some (kinds.Published time (vector_to t.topology g time h (gates t.topology)))) ≡ Some e.kind → publishes_marks e ≡ true
    by (Some time) made = rw (sym (same_Some (kinds.Published time (vector_to t.topology g time h (gates t.topology))) e.kind made)) refl
    by None made = absurd cc

-- passes 5 and 7
pub give_publishes : (t : Setting) (h : History) → GiveOnly t publishes_marks (publishes t h)
give_publishes t h =
    give_each t publishes_marks (λ g. running h (record { actor = Gate g; act = Publish 0 })) (gates t.topology)
    (λ g. give_only t publishes_marks (not (stopped (Gate g) h)) (record { actor = Gate g; act = Publish 0 }) (λ x e is. publish_publishes t x g 0 e is))

-- a settler asks
pub ask_asks : (t : Setting) (h : History) (s : ℕ) (e : Entry) → gives t h (Settler s) (Ask Quorum) ≡ Some e → opens_round e ≡ true
ask_asks t h s e is = by (nat_lt (rounds s h + 1) (2 ^ 64) && nat_lt (settled s h) (upper t.topology s h Quorum)) (given_kind t h (Settler s) (Ask Quorum) e is)
  where
    by : (b : Bool) → (if b then Some (kinds.Asked (rounds s h + 1) Quorum (settled s h) (upper t.topology s h Quorum)) else None) ≡ Some e.kind → opens_round e ≡ true
    by true made = rw (sym (same_Some (kinds.Asked (rounds s h + 1) Quorum (settled s h) (upper t.topology s h Quorum)) e.kind made)) refl
    by false made = absurd cc

-- pass 9
pub give_questions : (t : Setting) (h : History) → GiveOnly t opens_round (questions t h)
give_questions t h =
    give_each t opens_round (λ s. if nat_lt (settled s h) (visible t.topology (Settler s) h) then running h (record { actor = Settler s; act = Ask Quorum }) else []) t.topology.centres
    (λ s. give_if t opens_round (nat_lt (settled s h) (visible t.topology (Settler s) h)) (running h (record { actor = Settler s; act = Ask Quorum }))
    (give_only t opens_round (not (stopped (Settler s) h)) (record { actor = Settler s; act = Ask Quorum }) (λ x e is. ask_asks t x s e is)))

-- a settler settles
pub settle_settles : (t : Setting) (h : History) (s : ℕ) (e : Entry) → gives t h (Settler s) Settle ≡ Some e → settles_round e ≡ true
settle_settles t h s e is = by (open_round s h) (given_kind t h (Settler s) Settle e is)
  where
    by_test : (round : Round) (b : Bool) → (if b then Some (kinds.Settled (plan_values s round h)) else None) ≡ Some e.kind → settles_round e ≡ true
    by_test round true made = rw (sym (same_Some (kinds.Settled (plan_values s round h)) e.kind made)) refl
    by_test round false made = absurd cc

    by : (o : Option Round) → (o >>= λ round. if all_below (is_enough t.topology s round h round.mode) t.topology.partitions then Some (kinds.Settled (plan_values s round h)) else None) ≡ Some e.kind → settles_round e ≡ true
    by (Some round) made = by_test round (all_below (is_enough t.topology s round h round.mode) t.topology.partitions) made
    by None made = absurd cc

-- pass 12
pub give_settlements : (t : Setting) (h : History) → GiveOnly t settles_round (settlements t h)
give_settlements t h =
    give_each t settles_round (λ s. if is_some (settles t.topology h s) then running h (record { actor = Settler s; act = Settle }) else []) t.topology.centres
    (λ s. give_if t settles_round (is_some (settles t.topology h s)) (running h (record { actor = Settler s; act = Settle }))
    (give_only t settles_round (not (stopped (Settler s) h)) (record { actor = Settler s; act = Settle }) (λ x e is. settle_settles t x s e is)))
