-- Calm rounds stop nobody, so a world that is whole before them is whole after them; and without an entry it is whole.
use Rattle.std.proofs.Common.{◌≡◌, ◌==◌, ℕ, zero, suc, ◌+◌, Bool, true, false, not, Option, Some, None, List, [], ◌∷◌, ◌++◌, map, refl, ap, ◌∙◌, arith}
use Rattle.std.specs.Prelude.{if◌then◌else◌}
use Rattle.ov_topology.specs.Shape.{Shape, IsShape, marked}
use Rattle.ov_topology.specs.declared.actor.Actor.{Actor}
use Rattle.ov_topology.specs.declared.actor.Actor.TheVariants.{Gate, Node, Settler}
use Rattle.ov_event.specs.declared.entry.Entry.{Entry}
use Rattle.ov_history.specs.Past.{History, stopped}
use Rattle.ov_history.specs.Counts.{passing}
use Rattle.ov_history.specs.Cores.{onto}
use Rattle.ov_history.specs.Gives.{gives}
use Rattle.ov_history.specs.May.{Setting}
use Rattle.ov_history.proofs.Counting.{weight_more}
use Rattle.ov_follow.specs.Lines.{Line, followed, followed_all}
use Rattle.ov_follow.specs.Passes.{tolds, begins, writes, acks, publishes, hears, questions, answers, takes, settlements, results, replies_of}
use Rattle.ov_follow.specs.Calm.{Pass, passed, calm_round, commands, all_replied, replies, calm_rounds, calm}
use Rattle.ov_follow.specs.Whole.{IsWhole}
use Rattle.ov_complete.specs.Stable.{GiveOnly, is_taking, is_beginning, is_publishing, is_asking, is_settling}
use Rattle.ov_complete.proofs.General.{give_more, stopped_same}
use Rattle.ov_complete.proofs.Gives.{begins_command, publishes_marks, opens_round, settles_round, give_tolds, give_begins, give_writes, give_acks, give_publishes, give_hears, give_questions, give_answers, give_takes, give_settlements, give_results, give_replies}
use Rattle.ov_complete.proofs.Listed.{takes_letter}
use Rattle.ov_complete.proofs.Lasting.{stops_nobody, nobody_stops}
use Rattle.ov_complete.proofs.Chain.{no_stop}

-- ---- lines and passes that stop nobody

-- lines that stop nobody leave each actor stopped or running as it was
stopped_lines : (t : Setting) (h : History) (lines : List Line) (actor : Actor) → GiveOnly t stops_nobody lines → stopped actor (followed_all t h lines) ≡ stopped actor h
stopped_lines t h [] actor only = refl
stopped_lines t h (line ∷ lines) actor only = stopped_lines t (followed t h line) lines actor only.1 ∙ by (gives t h line.actor line.act) refl
  where
    by : (given : Option Entry) → gives t h line.actor line.act ≡ given → stopped actor (onto given h) ≡ stopped actor h
    by None is = refl
    by (Some e) is = stopped_same actor e h (nobody_stops e (only.0 h e is))

-- a pass, and that no line of it stops anybody
abbrev Quiet : Setting → Type 0
Quiet t = (pass : Pass) × ((h : History) → GiveOnly t stops_nobody (pass t h))

-- the passes alone
abbrev passes_of : {t : Setting} → List (Quiet t) → List Pass
passes_of quiet = map (λ q. q.0) quiet

-- such passes leave each actor stopped or running as it was
stopped_passes : (t : Setting) (h : History) (quiet : List (Quiet t)) (actor : Actor) → stopped actor (passed t h (passes_of quiet)) ≡ stopped actor h
stopped_passes t h [] actor = refl
stopped_passes t h (q ∷ quiet) actor = stopped_passes t (followed_all t h (q.0 t h)) quiet actor ∙ stopped_lines t h (q.0 t h) actor (q.1 h)

-- the passes of a calm round
round_quiet : (t : Setting) → List (Quiet t)
round_quiet t =
    (tolds, λ h. taking (tolds t h) (give_tolds t h))
    ∷ (begins, λ h. give_more t begins_command stops_nobody (begins t h) (no_stop is_beginning refl) (give_begins t h))
    ∷ (writes, λ h. taking (writes t h) (give_writes t h))
    ∷ (acks, λ h. taking (acks t h) (give_acks t h))
    ∷ (publishes, λ h. give_more t publishes_marks stops_nobody (publishes t h) (no_stop is_publishing refl) (give_publishes t h))
    ∷ (hears, λ h. taking (hears t h) (give_hears t h))
    ∷ (publishes, λ h. give_more t publishes_marks stops_nobody (publishes t h) (no_stop is_publishing refl) (give_publishes t h))
    ∷ (hears, λ h. taking (hears t h) (give_hears t h))
    ∷ (questions, λ h. give_more t opens_round stops_nobody (questions t h) (no_stop is_asking refl) (give_questions t h))
    ∷ (answers, λ h. taking (answers t h) (give_answers t h))
    ∷ (takes, λ h. taking (takes t h) (give_takes t h))
    ∷ (settlements, λ h. give_more t settles_round stops_nobody (settlements t h) (no_stop is_settling refl) (give_settlements t h))
    ∷ (results, λ h. taking (results t h) (give_results t h))
    ∷ (replies_of, λ h. taking (replies_of t h) (give_replies t h))
    ∷ []
  where
    taking : (lines : List Line) → GiveOnly t takes_letter lines → GiveOnly t stops_nobody lines
    taking lines only = give_more t takes_letter stops_nobody lines (no_stop is_taking refl) only

-- ---- calm rounds

-- a round leaves each actor stopped or running as it was
round_same : (t : Setting) (h : History) (actor : Actor) → stopped actor (calm_round t h) ≡ stopped actor h
unfolding round_quiet
round_same t h actor = stopped_passes t h (round_quiet t) actor

-- so do rounds
rounds_same : (n : ℕ) (t : Setting) (h : History) (actor : Actor) → stopped actor (calm_rounds n t h) ≡ stopped actor h
rounds_same zero t h actor = refl
rounds_same (suc n) t h actor = by (all_replied t h) (replies (calm_round t h) == replies h) (rounds_same n t (calm_round t h) actor ∙ round_same t h actor)
  where
    by : (all none : Bool) → stopped actor (calm_rounds n t (calm_round t h)) ≡ stopped actor h
        → stopped actor (if all then h else (if none then calm_round t h else calm_rounds n t (calm_round t h))) ≡ stopped actor h
    by true none more = refl
    by false true more = round_same t h actor
    by false false more = more

-- Calm rounds stop nobody.
pub calm_stops : (t : Setting) (h : History) (actor : Actor) → stopped actor (calm t h) ≡ stopped actor h
calm_stops t h actor = rounds_same (commands t + 1) t h actor

-- A world that is whole before calm rounds is whole after them.
pub calm_whole : (t : Setting) (h : History) → IsWhole t.topology h → IsWhole t.topology (calm t h)
calm_whole t h whole = record {
  gateways = λ g inside. calm_stops t h (Gate g) ∙ whole.gateways g inside;
  settlers = λ s inside. calm_stops t h (Settler s) ∙ whole.settlers s inside;
  nodes = λ p inside.
      let enough = whole.nodes p inside in
      let more = weight_more t.topology (λ c. not (stopped (Node c p) h)) (λ c. not (stopped (Node c p) (calm t h))) (λ c runs. ap not (calm_stops t h (Node c p)) ∙ runs) in
      omega (arith, enough, more);
}

-- ---- without an entry

-- one more that is marked
marked_more : (marks : List Bool) → marked (marks ++ true ∷ []) ≡ marked marks + 1
marked_more [] = refl
marked_more (true ∷ marks) = rw (marked_more marks) refl
marked_more (false ∷ marks) = marked_more marks

-- where all numbers below pass, as many are marked
all_marked : (n : ℕ) → marked (passing (λ c. true) n) ≡ n
all_marked zero = refl
all_marked (suc n) = marked_more (passing (λ c. true) n) ∙ rw (all_marked n) (omega arith)

-- In a topology in form the world without an entry is whole: all run, and no quorum exceeds the centres.
pub nothing_whole : (t : Shape) → IsShape t → IsWhole t []
nothing_whole t shape = record {
  gateways = λ g inside. refl;
  settlers = λ s inside. refl;
  nodes = λ p inside.
      let write = shape.few_write in
      let read = shape.few_read in
      let all = all_marked t.centres in
      omega (arith, write, read, all);
}
