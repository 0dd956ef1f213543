-- The facts one after another: a calm round over a whole world replies to the command that comes first.
use Rattle.std.proofs.Common.{◌≡◌, ℕ, ◌+◌, ◌^◌, ◌≤◌, ◌<◌, Bool, true, false, not, List, [], ◌∷◌, ◌++◌, length, refl, sym, ◌∙◌, arith}
use Rattle.ov_topology.specs.Shape.{gates}
use Rattle.ov_script.specs.declared.order.CommandAt.{CommandAt}
use Rattle.ov_event.specs.declared.entry.Entry.{Entry}
use Rattle.ov_event.specs.declared.kind.Kind.{Kind}
use Rattle.ov_event.specs.declared.kind.Kind.TheVariants as kinds
use Rattle.ov_event.specs.declared.start.Start.{Start}
use Rattle.ov_history.specs.Past.{History, stops, tally}
use Rattle.ov_history.specs.May.{Setting}
use Rattle.ov_follow.specs.Lines.{Line, followed_all}
use Rattle.ov_follow.specs.Passes.{tolds, begins, writes, acks, publishes, hears, questions, answers, takes, settlements, results, replies_of, is_replied}
use Rattle.ov_follow.specs.Calm.{Pass, passed, calm_round}
use Rattle.ov_laws.specs.Draws.{moves_clock}
use Rattle.ov_laws.specs.Runs.{IsRun}
use Rattle.ov_complete.specs.Facts.{Runs, HasBegun, AllVisible}
use Rattle.ov_complete.specs.Order.{IsOrder, AllAnswered}
use Rattle.ov_complete.specs.Stable.{GiveOnly, is_taking, is_beginning, is_publishing, is_asking, is_settling}
use Rattle.ov_complete.proofs.Keeping.{run_all, keeps}
use Rattle.ov_complete.proofs.Listed.{takes_letter}
use Rattle.ov_complete.proofs.Gives.{begins_command, publishes_marks, opens_round, settles_round, give_tolds, give_begins, give_writes, give_acks, give_publishes, give_hears, give_questions, give_answers, give_takes, give_settlements}
use Rattle.ov_complete.proofs.General.{give_more}
use Rattle.ov_complete.proofs.Lasting.{stops_nobody, begins_none, runs_after, begun_stays, visible_stays, passed_longer}
use Rattle.ov_complete.proofs.Few.{lines_few, begins_few, publishes_few, takings_same, askings_same, settlings_same}
use Rattle.ov_complete.proofs.Begun.{begins_then}
use Rattle.ov_complete.proofs.Acknowledged.{acknowledged_then}
use Rattle.ov_complete.proofs.Visible.{visible_then}
use Rattle.ov_complete.proofs.Settled.{settled_then}
use Rattle.ov_complete.proofs.Answered.{replied_then}

-- ---- what kinds of entries do not do

true_is_false : true ≡ false → ⊥
true_is_false same = absurd cc

-- kinds among which a stop is not stop nobody
pub no_stop : (test : Kind → Bool) → test kinds.Stopped ≡ false → (e : Entry) → test e.kind ≡ true → stops_nobody e ≡ true
no_stop test none e is = by e.kind is
  where
    by : (kind : Kind) → test kind ≡ true → not (stops kind) ≡ true
    by kinds.Stopped passes = absurd (true_is_false (sym passes ∙ none))
    by other passes = refl

-- kinds among which a beginning is not begin no command
no_beginning : (test : Kind → Bool) → ((s c : ℕ) (start : Start) → test (kinds.Began s c start) ≡ false) → (e : Entry) → test e.kind ≡ true → begins_none e ≡ true
no_beginning test none e is = by e.kind is
  where
    by : (kind : Kind) → test kind ≡ true → not (is_beginning kind) ≡ true
    by (kinds.Began s c start) passes = absurd (true_is_false (sym passes ∙ none s c start))
    by other passes = refl

-- ---- runs after passes

-- after lines that take letters
runs_taking : (t : Setting) (h : History) (lines : List Line) → GiveOnly t takes_letter lines → Runs t h → Runs t (followed_all t h lines)
runs_taking t h lines only runs =
    let early : tally moves_clock (followed_all t h lines) < 2 ^ 45 = rw (takings_same t h lines only) runs.early in
    runs_after t h lines (give_more t takes_letter stops_nobody lines (no_stop is_taking refl) only) early runs

-- after the passes 1 and 2
runs_begun : (t : Setting) (h : History) → tally moves_clock h ≤ 600000 → Runs t h → Runs t (passed t h (tolds ∷ begins ∷ []))
runs_begun t h few runs =
    let told = followed_all t h (tolds t h) in
    let same = takings_same t h (tolds t h) (give_tolds t h) in
    let more = lines_few t told (begins t told) in
    let sessions : length t.roster.sessions ≤ 64 = runs.roster.few in
    let listed = begins_few t told in
    runs_after t told (begins t told) (give_more t begins_command stops_nobody (begins t told) (no_stop is_beginning refl) (give_begins t told)) (omega (arith, few, same, more, sessions, listed))
    (runs_taking t h (tolds t h) (give_tolds t h) runs)

-- how far clocks have moved after the passes 1 and 2
few_begun : (t : Setting) (h : History) → tally moves_clock h ≤ 600000 → Runs t h → tally moves_clock (passed t h (tolds ∷ begins ∷ [])) ≤ 600064
few_begun t h few runs =
    let told = followed_all t h (tolds t h) in
    let same = takings_same t h (tolds t h) (give_tolds t h) in
    let more = lines_few t told (begins t told) in
    let sessions : length t.roster.sessions ≤ 64 = runs.roster.few in
    let listed = begins_few t told in
    omega (arith, few, same, more, sessions, listed)

-- after the passes 3 and 4
runs_written : (t : Setting) (h : History) → Runs t h → Runs t (passed t h (writes ∷ acks ∷ []))
runs_written t h runs =
    let stored = followed_all t h (writes t h) in
    runs_taking t stored (acks t stored) (give_acks t stored) (runs_taking t h (writes t h) (give_writes t h) runs)

few_written : (t : Setting) (h : History) (n : ℕ) → tally moves_clock h ≤ n → tally moves_clock (passed t h (writes ∷ acks ∷ [])) ≤ n
few_written t h n few =
    let stored = followed_all t h (writes t h) in
    let first = takings_same t h (writes t h) (give_writes t h) in
    let second = takings_same t stored (acks t stored) (give_acks t stored) in
    omega (arith, few, first, second)

-- after a pass of publishing and one of hearing
runs_heard : (t : Setting) (h : History) (n : ℕ) → n < 1000000 → tally moves_clock h ≤ n → Runs t h → Runs t (passed t h (publishes ∷ hears ∷ []))
runs_heard t h n small few runs =
    let shown = followed_all t h (publishes t h) in
    let more = lines_few t h (publishes t h) in
    let listed = publishes_few t h in
    let gateways : gates t.topology ≤ 8 = runs.run.0.few_gateways in
    runs_taking t shown (hears t shown) (give_hears t shown)
    (runs_after t h (publishes t h) (give_more t publishes_marks stops_nobody (publishes t h) (no_stop is_publishing refl) (give_publishes t h)) (omega (arith, small, few, more, listed, gateways)) runs)

few_heard : (t : Setting) (h : History) (n : ℕ) → tally moves_clock h ≤ n → Runs t h → tally moves_clock (passed t h (publishes ∷ hears ∷ [])) ≤ n + 8
few_heard t h n few runs =
    let shown = followed_all t h (publishes t h) in
    let more = lines_few t h (publishes t h) in
    let listed = publishes_few t h in
    let gateways : gates t.topology ≤ 8 = runs.run.0.few_gateways in
    let same = takings_same t shown (hears t shown) (give_hears t shown) in
    omega (arith, few, more, listed, gateways, same)

-- after the passes 9 to 12
runs_settled : (t : Setting) (h : History) → Runs t h → Runs t (passed t h (questions ∷ answers ∷ takes ∷ settlements ∷ []))
runs_settled t h runs =
    let asked = followed_all t h (questions t h) in
    let answered = followed_all t asked (answers t asked) in
    let taken = followed_all t answered (takes t answered) in
    let early : tally moves_clock asked < 2 ^ 45 = rw (askings_same t h (questions t h) (give_questions t h)) runs.early in
    let first = runs_after t h (questions t h) (give_more t opens_round stops_nobody (questions t h) (no_stop is_asking refl) (give_questions t h)) early runs in
    let second = runs_taking t asked (answers t asked) (give_answers t asked) first in
    let third = runs_taking t answered (takes t answered) (give_takes t answered) second in
    let last_early : tally moves_clock (followed_all t taken (settlements t taken)) < 2 ^ 45 = rw (settlings_same t taken (settlements t taken) (give_settlements t taken)) third.early in
    runs_after t taken (settlements t taken) (give_more t settles_round stops_nobody (settlements t taken) (no_stop is_settling refl) (give_settlements t taken)) last_early third

-- what is visible stays so over the passes 9 to 12
visible_settled : (t : Setting) (h : History) → Runs t h → AllVisible t.topology h → AllVisible t.topology (passed t h (questions ∷ answers ∷ takes ∷ settlements ∷ []))
visible_settled t h runs visible =
    let asked = followed_all t h (questions t h) in
    let answered = followed_all t asked (answers t asked) in
    let taken = followed_all t answered (takes t answered) in
    let asked_run = run_all t h (questions t h) runs.run in
    let answered_run = run_all t asked (answers t asked) asked_run in
    let taken_run = run_all t answered (takes t answered) answered_run in
    let first = keeps (visible_stays t) h (questions t h) runs.run (give_more t opens_round begins_none (questions t h) (no_beginning is_asking (λ s c start. refl)) (give_questions t h)) visible in
    let second = keeps (visible_stays t) asked (answers t asked) asked_run (give_more t takes_letter begins_none (answers t asked) (no_beginning is_taking (λ s c start. refl)) (give_answers t asked)) first in
    let third = keeps (visible_stays t) answered (takes t answered) answered_run (give_more t takes_letter begins_none (takes t answered) (no_beginning is_taking (λ s c start. refl)) (give_takes t answered)) second in
    keeps (visible_stays t) taken (settlements t taken) taken_run (give_more t settles_round begins_none (settlements t taken) (no_beginning is_settling (λ s c start. refl)) (give_settlements t taken)) third

-- ---- what goes on

-- lines of any kind
give_any : (t : Setting) (lines : List Line) → GiveOnly t (λ e. true) lines
give_any t [] = tt
give_any t (line ∷ lines) = ((λ h e is. refl), give_any t lines)

-- a command that has begun has begun after passes
begun_passed : (t : Setting) (h : History) (passes : List Pass) (s c : ℕ) → IsRun t h → HasBegun h s c → HasBegun (passed t h passes) s c
begun_passed t h [] s c run begun = begun
begun_passed t h (pass ∷ passes) s c run begun =
    begun_passed t (followed_all t h (pass t h)) passes s c (run_all t h (pass t h) run) (keeps (begun_stays t s c) h (pass t h) run (give_any t (pass t h)) begun)

-- ---- a calm round

-- the command that comes first is replied
pub round_replies : (t : Setting) (h : History) (order before rest : List CommandAt) (one : CommandAt) → Runs t h → tally moves_clock h ≤ 600000 → length (calm_round t h) < 2 ^ 64
    → IsOrder t.roster order → order ≡ before ++ one ∷ rest → AllAnswered h before → is_replied one.session one.seq h ≡ false → is_replied one.session one.seq (calm_round t h) ≡ true
round_replies t h order before rest one runs few short is_order split answered waits =
    let begun_h = passed t h (tolds ∷ begins ∷ []) in
    let written = passed t begun_h (writes ∷ acks ∷ []) in
    let shown = passed t written (publishes ∷ hears ∷ []) in
    let seen = passed t shown (publishes ∷ hears ∷ []) in
    let settled_h = passed t seen (questions ∷ answers ∷ takes ∷ settlements ∷ []) in
    let begun = begins_then t h order before rest one runs is_order split answered waits in
    let begun_runs = runs_begun t h few runs in
    let begun_few = few_begun t h few runs in
    let acknowledged = acknowledged_then t begun_h begun_runs in
    let written_runs = runs_written t begun_h begun_runs in
    let written_few = few_written t begun_h 600064 begun_few in
    let visible = visible_then t written written_runs acknowledged in
    let shown_runs = runs_heard t written 600064 (omega arith) written_few written_runs in
    let shown_few = few_heard t written 600064 written_few written_runs in
    let seen_runs = runs_heard t shown 600072 (omega arith) shown_few shown_runs in
    let last_longer : length settled_h ≤ length (calm_round t h) = passed_longer t settled_h (results ∷ replies_of ∷ []) in
    let settled_short : length settled_h < 2 ^ 64 = omega (arith, short, last_longer) in
    let settled = settled_then t seen seen_runs settled_short in
    replied_then t settled_h one.session one.seq (runs_settled t seen seen_runs) (visible_settled t seen seen_runs visible) settled
    (begun_passed t begun_h (writes ∷ acks ∷ publishes ∷ hears ∷ publishes ∷ hears ∷ questions ∷ answers ∷ takes ∷ settlements ∷ []) one.session one.seq begun_runs.run begun)
