-- How many entries may move a clock: those of lines, of calm rounds, and of whole runs.
use Rattle.std.proofs.Common.{◌≡◌, ◌==◌, ℕ, zero, suc, ◌+◌, ◌*◌, ◌≤◌, Bool, true, false, not, Option, Some, None, List, [], ◌∷◌, length, refl, ◌∙◌, arith}
use Rattle.std.specs.Prelude.{if◌then◌else◌, is_some}
use Rattle.ov_topology.specs.Shape.{IsShape, gates}
use Rattle.ov_topology.specs.declared.actor.Actor.TheVariants.{Gate}
use Rattle.ov_script.specs.declared.step.Step.{Step}
use Rattle.ov_event.specs.declared.entry.Entry.{Entry}
use Rattle.ov_event.specs.declared.kind.Kind.{Kind}
use Rattle.ov_event.specs.declared.kind.Kind.TheVariants as kinds
use Rattle.ov_history.specs.Past.{History, tally, stopped}
use Rattle.ov_history.specs.May.{Setting, Lawful}
use Rattle.ov_history.specs.Gives.{Publish, gives}
use Rattle.ov_history.specs.Cores.{onto}
use Rattle.ov_follow.specs.Lines.{Line, begin_of, line_of, followed, followed_all, followed_some, follow, drive}
use Rattle.ov_follow.specs.Passes.{only, running, can, tolds, begins, writes, acks, publishes, hears, questions, answers, takes, settlements, results, replies_of}
use Rattle.ov_follow.specs.Calm.{Pass, passed, round_passes, calm_round, commands, all_replied, replies, calm_rounds, calm}
use Rattle.ov_follow.proofs.Lawful.{drive_lawful, rounds_lawful}
use Rattle.ov_laws.specs.Draws.{moves, moves_clock}
use Rattle.ov_complete.specs.Stable.{GiveOnly, is_taking, is_beginning, is_publishing, is_asking, is_settling}
use Rattle.ov_complete.proofs.Beginnings.{begun_few}
use Rattle.ov_complete.proofs.General.{tally_line, tally_lines, each_length}
use Rattle.ov_complete.proofs.Gives.{give_tolds, give_begins, give_writes, give_acks, give_hears, give_questions, give_answers, give_takes, give_settlements, give_results, give_replies, begins_command, publishes_marks, opens_round, settles_round}
use Rattle.ov_complete.proofs.Listed.{takes_letter}

-- ---- lines

-- each line gives at most one entry that may move a clock
pub lines_few : (t : Setting) (h : History) (lines : List Line) → tally moves_clock (followed_all t h lines) ≤ tally moves_clock h + length lines
lines_few t h lines = tally_lines moves_clock t h lines

-- lines that give none of the entries that are counted leave their number as it was
pub all_same : (f test : Entry → Bool) → ((e : Entry) → test e ≡ true → f e ≡ false) → (t : Setting) (h : History) (lines : List Line) → GiveOnly t test lines
    → tally f (followed_all t h lines) ≡ tally f h
all_same f test none t h [] only_those = refl
all_same f test none t h (line ∷ lines) only_those = all_same f test none t (followed t h line) lines only_those.1 ∙ by (gives t h line.actor line.act) (λ e is. only_those.0 h e is)
  where
    by : (given : Option Entry) → ((e : Entry) → given ≡ Some e → test e ≡ true) → tally f (onto given h) ≡ tally f h
    by None passes = refl
    by (Some e) passes = rw (none e (passes e refl)) (omega arith)

-- Entries of these kinds are not counted: those that take letters, open rounds or settle them.
record LeavesOut (f : Entry → Bool) : Type 0 where
  taken : (e : Entry) → takes_letter e ≡ true → f e ≡ false
  opened : (e : Entry) → opens_round e ≡ true → f e ≡ false
  settled : (e : Entry) → settles_round e ≡ true → f e ≡ false

-- none of these moves a clock
clocks_out : LeavesOut moves_clock
clocks_out = record { taken = λ e is. by_taking e.kind is; opened = λ e is. by_asking e.kind is; settled = λ e is. by_settling e.kind is }
  where
    by_taking : (kind : Kind) → is_taking kind ≡ true → moves kind ≡ false
    by_taking (kinds.Began s c start) is = absurd cc
    by_taking (kinds.Published time vector) is = absurd cc
    by_taking kind is = refl

    by_asking : (kind : Kind) → is_asking kind ≡ true → moves kind ≡ false
    by_asking (kinds.Asked round mode from below) is = refl
    by_asking kind is = absurd cc

    by_settling : (kind : Kind) → is_settling kind ≡ true → moves kind ≡ false
    by_settling (kinds.Settled values) is = refl
    by_settling kind is = absurd cc

-- none of these publishes
marks_out : LeavesOut publishes_marks
marks_out = record { taken = λ e is. by_taking e.kind is; opened = λ e is. by_asking e.kind is; settled = λ e is. by_settling e.kind is }
  where
    by_taking : (kind : Kind) → is_taking kind ≡ true → is_publishing kind ≡ false
    by_taking (kinds.Published time vector) is = absurd cc
    by_taking kind is = refl

    by_asking : (kind : Kind) → is_asking kind ≡ true → is_publishing kind ≡ false
    by_asking (kinds.Asked round mode from below) is = refl
    by_asking kind is = absurd cc

    by_settling : (kind : Kind) → is_settling kind ≡ true → is_publishing kind ≡ false
    by_settling (kinds.Settled values) is = refl
    by_settling kind is = absurd cc

-- nor does a beginning
begins_out : (e : Entry) → begins_command e ≡ true → publishes_marks e ≡ false
begins_out e is = by e.kind is
  where
    by : (kind : Kind) → is_beginning kind ≡ true → is_publishing kind ≡ false
    by (kinds.Began s c start) begun = refl
    by kind begun = absurd cc

-- lines that take letters leave the number of entries that may move a clock as it was
pub takings_same : (t : Setting) (h : History) (lines : List Line) → GiveOnly t takes_letter lines → tally moves_clock (followed_all t h lines) ≡ tally moves_clock h
takings_same t h lines only_those = all_same moves_clock takes_letter clocks_out.taken t h lines only_those

-- and so do lines that open rounds
pub askings_same : (t : Setting) (h : History) (lines : List Line) → GiveOnly t opens_round lines → tally moves_clock (followed_all t h lines) ≡ tally moves_clock h
askings_same t h lines only_those = all_same moves_clock opens_round clocks_out.opened t h lines only_those

-- and lines that settle them
pub settlings_same : (t : Setting) (h : History) (lines : List Line) → GiveOnly t settles_round lines → tally moves_clock (followed_all t h lines) ≡ tally moves_clock h
settlings_same t h lines only_those = all_same moves_clock settles_round clocks_out.settled t h lines only_those

-- ---- passes

-- a line under a test
only_few : (b : Bool) (line : Line) → length (only b line) ≤ 1
only_few true line = omega arith
only_few false line = omega arith

-- pass 2 lists at most one line for each session
pub begins_few : (t : Setting) (h : History) → length (begins t h) ≤ length t.roster.sessions
begins_few t h = each_length (λ s. can t h (begin_of t.roster 0 s)) (length t.roster.sessions) (λ s. by (begin_of t.roster 0 s))
  where
    by : (o : Option Line) → length (can t h o) ≤ 1
    by None = omega arith
    by (Some line) = only_few (is_some (gives t h line.actor line.act)) line

-- passes 5 and 7 list at most one line for each gateway
pub publishes_few : (t : Setting) (h : History) → length (publishes t h) ≤ gates t.topology
publishes_few t h = each_length (λ g. running h (record { actor = Gate g; act = Publish 0 })) (gates t.topology) (λ g. only_few (not (stopped (Gate g) h)) (record { actor = Gate g; act = Publish 0 }))

-- After the passes at most so many more entries are counted.
record AtMost (t : Setting) (f : Entry → Bool) (passes : List Pass) (n : ℕ) : Type 0 where
  few : (h : History) → tally f (passed t h passes) ≤ tally f h + n

-- without a pass there are none more
none_more : (t : Setting) (f : Entry → Bool) → AtMost t f [] 0
none_more t f = record { few = λ h. omega arith }

-- one pass before others, of which so many are counted
some_before : {t : Setting} {f : Entry → Bool} {pass : Pass} {passes : List Pass} (n m : ℕ) → ((h : History) → tally f (followed_all t h (pass t h)) ≤ tally f h + n) → AtMost t f passes m
    → AtMost t f (pass ∷ passes) (n + m)
some_before {t} {f} {pass} {passes} n m first rest = record {
  few = λ h.
      let here : tally f (followed_all t h (pass t h)) ≤ tally f h + n = first h in
      let later : tally f (passed t (followed_all t h (pass t h)) passes) ≤ tally f (followed_all t h (pass t h)) + m = rest.few (followed_all t h (pass t h)) in
      omega (arith, here, later);
}

-- one pass before others, of which none are counted
none_before : {t : Setting} {f : Entry → Bool} {pass : Pass} {passes : List Pass} {m : ℕ} → ((h : History) → tally f (followed_all t h (pass t h)) ≡ tally f h) → AtMost t f passes m
    → AtMost t f (pass ∷ passes) m
none_before {t} {f} {pass} {passes} {m} first rest = record {
  few = λ h.
      let here : tally f (followed_all t h (pass t h)) ≡ tally f h = first h in
      let later : tally f (passed t (followed_all t h (pass t h)) passes) ≤ tally f (followed_all t h (pass t h)) + m = rest.few (followed_all t h (pass t h)) in
      omega (arith, here, later);
}

-- Of a calm round so many are counted as pass 2 begins, and at most two for each gateway.
module _ (t : Setting) (f : Entry → Bool) (out : LeavesOut f) (n : ℕ) (begun : (h : History) → tally f (followed_all t h (begins t h)) ≤ tally f h + n) where
  -- a pass that takes letters
  taking : (h : History) (lines : List Line) → GiveOnly t takes_letter lines → tally f (followed_all t h lines) ≡ tally f h
  taking h lines only_those = all_same f takes_letter out.taken t h lines only_those

  -- a pass in which gateways publish
  publishing : (h : History) → tally f (followed_all t h (publishes t h)) ≤ tally f h + gates t.topology
  publishing h =
      let all : tally f (followed_all t h (publishes t h)) ≤ tally f h + length (publishes t h) = tally_lines f t h (publishes t h) in
      let few : length (publishes t h) ≤ gates t.topology = publishes_few t h in
      omega (arith, all, few)

  -- the passes that stand behind the publications
  rounds_at_most : AtMost t f (questions ∷ answers ∷ takes ∷ settlements ∷ results ∷ replies_of ∷ []) 0
  rounds_at_most =
      none_before (λ x. all_same f opens_round out.opened t x (questions t x) (give_questions t x))
      (none_before (λ x. taking x (answers t x) (give_answers t x))
      (none_before (λ x. taking x (takes t x) (give_takes t x))
      (none_before (λ x. all_same f settles_round out.settled t x (settlements t x) (give_settlements t x))
      (none_before (λ x. taking x (results t x) (give_results t x))
      (none_before (λ x. taking x (replies_of t x) (give_replies t x)) (none_more t f))))))

  -- all passes
  passes_at_most : AtMost t f round_passes (n + (gates t.topology + (gates t.topology + 0)))
  passes_at_most =
      none_before (λ x. taking x (tolds t x) (give_tolds t x))
      (some_before n (gates t.topology + (gates t.topology + 0)) begun
      (none_before (λ x. taking x (writes t x) (give_writes t x))
      (none_before (λ x. taking x (acks t x) (give_acks t x))
      (some_before (gates t.topology) (gates t.topology + 0) publishing
      (none_before (λ x. taking x (hears t x) (give_hears t x))
      (some_before (gates t.topology) 0 publishing
      (none_before (λ x. taking x (hears t x) (give_hears t x)) rounds_at_most)))))))

  -- the round
  round_at_most : (h : History) → tally f (calm_round t h) ≤ tally f h + n + 2 * gates t.topology
  round_at_most h =
      let few : tally f (calm_round t h) ≤ tally f h + (n + (gates t.topology + (gates t.topology + 0))) = passes_at_most.few h in
      omega (arith, few)

-- A calm round adds at most one beginning for each session and two publications for each gateway.
pub round_few : (t : Setting) (h : History) → tally moves_clock (calm_round t h) ≤ tally moves_clock h + length t.roster.sessions + 2 * gates t.topology
round_few t h = round_at_most t moves_clock clocks_out (length t.roster.sessions) begun h
  where
    begun : (x : History) → tally moves_clock (followed_all t x (begins t x)) ≤ tally moves_clock x + length t.roster.sessions
    begun x =
        let all : tally moves_clock (followed_all t x (begins t x)) ≤ tally moves_clock x + length (begins t x) = lines_few t x (begins t x) in
        let few : length (begins t x) ≤ length t.roster.sessions = begins_few t x in
        omega (arith, all, few)

-- ---- runs

-- a calm round adds at most two publications for each gateway
round_marks : (t : Setting) (h : History) → tally publishes_marks (calm_round t h) ≤ tally publishes_marks h + 0 + 2 * gates t.topology
round_marks t h = round_at_most t publishes_marks marks_out 0 begun h
  where
    begun : (x : History) → tally publishes_marks (followed_all t x (begins t x)) ≤ tally publishes_marks x + 0
    begun x =
        let same : tally publishes_marks (followed_all t x (begins t x)) ≡ tally publishes_marks x = all_same publishes_marks begins_command begins_out t x (begins t x) (give_begins t x) in
        omega (arith, same)

-- calm rounds add at most 16 each
rounds_marks : (n : ℕ) (t : Setting) (h : History) → gates t.topology ≤ 8 → tally publishes_marks (calm_rounds n t h) ≤ tally publishes_marks h + n * 16
rounds_marks zero t h small = omega arith
rounds_marks (suc n) t h small =
    let most : tally publishes_marks (calm_round t h) ≤ tally publishes_marks h + 0 + 2 * gates t.topology = round_marks t h in
    by (all_replied t h) (replies (calm_round t h) == replies h) (omega (arith, most, small)) (rounds_marks n t (calm_round t h) small)
  where
    by : (all none : Bool) → tally publishes_marks (calm_round t h) ≤ tally publishes_marks h + 16
        → tally publishes_marks (calm_rounds n t (calm_round t h)) ≤ tally publishes_marks (calm_round t h) + n * 16
        → tally publishes_marks (if all then h else (if none then calm_round t h else calm_rounds n t (calm_round t h))) ≤ tally publishes_marks h + suc n * 16
    by true none one rest = omega arith
    by false true one rest = omega (arith, one)
    by false false one rest = omega (arith, one, rest)

-- each line of a schedule gives at most one of the entries that are counted
drive_few : (f : Entry → Bool) (t : Setting) (h : History) (schedule : List Step) → tally f (drive t h schedule) ≤ tally f h + length schedule
drive_few f t h [] = omega arith
drive_few f t h (step ∷ schedule) =
    let first : tally f (follow t h step) ≤ tally f h + 1 = by (line_of t.roster step) in
    let rest : tally f (drive t (follow t h step) schedule) ≤ tally f (follow t h step) + length schedule = drive_few f t (follow t h step) schedule in
    omega (arith, first, rest)
  where
    by : (o : Option Line) → tally f (followed_some t h o) ≤ tally f h + 1
    by None = omega arith
    by (Some line) = tally_line f t h line

-- what may move a clock begins or publishes
moved : (h : History) → tally moves_clock h ≡ tally begins_command h + tally publishes_marks h
moved [] = refl
moved (e ∷ h) = by e.kind (moved h)
  where
    by : (kind : Kind) → tally moves_clock h ≡ tally begins_command h + tally publishes_marks h
        → (if moves kind then 1 else 0) + tally moves_clock h ≡ ((if is_beginning kind then 1 else 0) + tally begins_command h) + ((if is_publishing kind then 1 else 0) + tally publishes_marks h)
    by (kinds.Began s c start) rest = omega (arith, rest)
    by (kinds.Published time vector) rest = omega (arith, rest)
    by kind rest = omega (arith, rest)

-- A whole run has few entries that may move a clock.
pub run_few : (t : Setting) (schedule : List Step) → IsShape t.topology → length schedule ≤ 100000 → commands t ≤ 4000 → tally moves_clock (calm t (drive t [] schedule)) ≤ 600000
run_few t schedule shape short few_commands =
    let driven = drive t [] schedule in
    let lawful : Lawful t driven = drive_lawful t schedule [] shape tt in
    let begun : tally begins_command (calm t driven) ≤ commands t = begun_few t (calm t driven) (rounds_lawful (commands t + 1) t driven shape lawful) in
    let published : tally publishes_marks driven ≤ 0 + length schedule = drive_few publishes_marks t [] schedule in
    let more : tally publishes_marks (calm t driven) ≤ tally publishes_marks driven + (commands t + 1) * 16 = rounds_marks (commands t + 1) t driven shape.few_gateways in
    let both : tally moves_clock (calm t driven) ≡ tally begins_command (calm t driven) + tally publishes_marks (calm t driven) = moved (calm t driven) in
    omega (arith, short, few_commands, begun, published, more, both)
