-- Calm rounds over a world that is whole after them reply to all, and each command is then replied exactly once.
use Rattle.std.proofs.Common.{◌≡◌, ◌==◌, ℕ, zero, suc, ◌+◌, ◌^◌, ◌≤◌, ◌<◌, ◌⊎◌, Bool, true, false, not, ◌||◌, Option, Some, None, List, [], ◌∷◌, ◌++◌, length, refl, sym, ap, subst, ◌∙◌, arith, inl, inr}
use Rattle.std.specs.Prelude.{slice_get, if◌then◌else◌}
use Rattle.std.proofs.lemmas.Bool.{eqb-true, eqb-false, and_parts}
use Rattle.std.proofs.lemmas.Bool.Decides.{leb_tells, eqb_tells}
use Rattle.ov_topology.specs.Shape.{gates}
use Rattle.ov_topology.specs.declared.actor.Actor.{Actor}
use Rattle.ov_topology.specs.declared.actor.Actor.TheVariants.{Gate, Node, Settler}
use Rattle.ov_session.specs.Standing.{IsRoster}
use Rattle.ov_session.specs.declared.plan.SessionPlan.{SessionPlan}
use Rattle.ov_script.specs.declared.order.CommandAt.{CommandAt}
use Rattle.ov_event.specs.declared.entry.Entry.{Entry}
use Rattle.ov_event.specs.declared.kind.Kind.{Kind}
use Rattle.ov_event.specs.declared.kind.Kind.TheVariants as kinds
use Rattle.ov_history.specs.Past.{History, stopped, tally}
use Rattle.ov_history.specs.Counts.{all_below}
use Rattle.ov_history.specs.Cores.{onto}
use Rattle.ov_history.specs.Gives.{gives}
use Rattle.ov_history.specs.Marks as marks
use Rattle.ov_history.specs.May.{Setting, Lawful}
use Rattle.ov_history.proofs.Counting.{weight_more}
use Rattle.ov_history.proofs.Given.{all_below_at}
use Rattle.ov_history.proofs.Giving.{all_below_where}
use Rattle.ov_follow.specs.Lines.{Line, followed, followed_all}
use Rattle.ov_follow.specs.Passes.{is_replied}
use Rattle.ov_follow.specs.Calm.{Pass, passed, round_passes, calm_round, commands, all_replied_from, all_replied, is_reply, replies, calm_rounds, calm}
use Rattle.ov_follow.specs.Whole.{IsWhole}
use Rattle.ov_follow.proofs.Lawful.{round_lawful, rounds_lawful}
use Rattle.ov_follow.proofs.Replies.{replies_few}
use Rattle.ov_follow.proofs.Rounds.{round_grows}
use Rattle.ov_laws.specs.Draws.{moves_clock}
use Rattle.ov_laws.specs.Entries.{BeganAt, RepliedAt}
use Rattle.ov_laws.specs.Runs.{IsRun}
use Rattle.ov_laws.proofs.Sessions.Order.{begins_rise, replies_rise}
use Rattle.ov_complete.specs.Facts.{Runs, HasBegun}
use Rattle.ov_complete.specs.Once.{OnceEach, Calms}
use Rattle.ov_complete.specs.Order.{IsOrder, AllAnswered, command_at}
use Rattle.ov_complete.proofs.Chain.{round_replies}
use Rattle.ov_complete.proofs.Lasting.{runs_before}
use Rattle.ov_complete.proofs.Sessions.{stands, found_reply, replied_there}

-- ---- what holds between a history and what follows it

-- It holds of a history and any that follows it.
record Follows (R : History → History → Type 0) : Type 0 where
  same : (h : History) → R h h
  entry : (h : History) (e : Entry) → R h (e ∷ h)
  through : (a b c : History) → R a b → R b c → R a c

module _ {R : History → History → Type 0} (follows : Follows R) (t : Setting) where
  -- it holds after lines
  after_lines : (h : History) (lines : List Line) → R h (followed_all t h lines)
  after_lines h [] = follows.same h
  after_lines h (line ∷ lines) = follows.through h (followed t h line) (followed_all t (followed t h line) lines) (by (gives t h line.actor line.act)) (after_lines (followed t h line) lines)
    where
      by : (given : Option Entry) → R h (onto given h)
      by None = follows.same h
      by (Some e) = follows.entry h e

  -- it holds after passes
  after_passes : (h : History) (passes : List Pass) → R h (passed t h passes)
  after_passes h [] = follows.same h
  after_passes h (pass ∷ passes) =
      let next = followed_all t h (pass t h) in
      follows.through h next (passed t next passes) (after_lines h (pass t h)) (after_passes next passes)

-- no fewer entries are counted
tally_follows : (f : Entry → Bool) → Follows (λ a b. tally f a ≤ tally f b)
tally_follows f = record {
  same = λ h. omega arith;
  entry = λ h e. omega arith;
  through = λ a b c first second. omega (arith, first, second);
}

-- who runs ran before
runs_follows : (actor : Actor) → Follows (λ a b. stopped actor b ≡ false → stopped actor a ≡ false)
runs_follows actor = record {
  same = λ h runs. runs;
  entry = λ h e runs. runs_before h e actor runs;
  through = λ a b c first second runs. first (second runs);
}

-- a world that is whole was so before
whole_before : (t : Setting) (h : History) (passes : List Pass) → IsWhole t.topology (passed t h passes) → IsWhole t.topology h
whole_before t h passes whole = record {
  gateways = λ g inside. ran (Gate g) (whole.gateways g inside);
  settlers = λ s inside. ran (Settler s) (whole.settlers s inside);
  nodes = λ p inside.
      let enough = whole.nodes p inside in
      let more = weight_more t.topology (λ c. not (stopped (Node c p) (passed t h passes))) (λ c. not (stopped (Node c p) h))
      (λ c. turned (stopped (Node c p) (passed t h passes)) (stopped (Node c p) h) (ran (Node c p))) in
      omega (arith, enough, more);
}
  where
    ran : (actor : Actor) → stopped actor (passed t h passes) ≡ false → stopped actor h ≡ false
    ran actor = after_passes (runs_follows actor) t h passes

    turned : (late early : Bool) → (late ≡ false → early ≡ false) → not late ≡ true → not early ≡ true
    turned true early before is = absurd cc
    turned false early before is = ap not (before refl)

-- ---- one more reply

-- one where the command is replied
abbrev is_counted : ℕ → ℕ → History → ℕ
is_counted s c h = if is_replied s c h then 1 else 0

-- an entry that replies to a command is a reply
counts : (s c : ℕ) (kind : Kind) → marks.replies s c kind ≡ true → is_reply kind ≡ true
counts s c (kinds.Replied place session seq reply) is = refl
counts s c kind is = absurd cc

-- a command that is newly replied is counted among the replies
counted_follows : (s c : ℕ) → Follows (λ a b. replies a + is_counted s c b ≤ replies b + is_counted s c a)
counted_follows s c = record {
  same = λ h. omega arith;
  entry = λ h e. by h (marks.replies s c e.kind) (is_replied s c h) (is_reply e.kind) (counts s c e.kind);
  through = λ a b d first second. omega (arith, first, second);
}
  where
    by : (h : History) (now was reply : Bool) → (now ≡ true → reply ≡ true) → replies h + (if now || was then 1 else 0) ≤ ((if reply then 1 else 0) + replies h) + (if was then 1 else 0)
    by h true true true is = omega arith
    by h true false true is = omega arith
    by h true was false is = let bad = is refl in absurd cc
    by h false true reply is = omega arith
    by h false false reply is = omega arith

-- where a command is newly replied there is one more reply
one_more : (t : Setting) (h : History) (passes : List Pass) (s c : ℕ) → is_replied s c h ≡ false → is_replied s c (passed t h passes) ≡ true → replies h + 1 ≤ replies (passed t h passes)
one_more t h passes s c waited is = by (is_replied s c h) (is_replied s c (passed t h passes)) waited is (after_passes (counted_follows s c) t h passes)
  where
    by : (was now : Bool) → was ≡ false → now ≡ true → replies h + (if now then 1 else 0) ≤ replies (passed t h passes) + (if was then 1 else 0)
        → replies h + 1 ≤ replies (passed t h passes)
    by false true was now more = omega (arith, more)
    by true now was is more = absurd cc
    by false false was is more = absurd cc

-- ---- the first command that waits

-- The first of these commands that is not replied, with those before it and behind it.
record Waiting (h : History) (order : List CommandAt) : Type 0 where
  front : List CommandAt
  one : CommandAt
  back : List CommandAt
  split : order ≡ front ++ one ∷ back
  answered : AllAnswered h front
  waits : is_replied one.session one.seq h ≡ false

-- one more command that is replied
pub answered_first : (h : History) (one : CommandAt) (others : List CommandAt) → is_replied one.session one.seq h ≡ true → AllAnswered h others → AllAnswered h (one ∷ others)
answered_first h one others is all = λ other among. elim among [
  | inl same ↦ subst (λ (x : CommandAt). is_replied x.session x.seq h ≡ true) (sym same) is
  | inr more ↦ all other more
]

-- all of these commands are replied, or there is a first one that is not
first_waiting : (h : History) (order : List CommandAt) → AllAnswered h order ⊎ Waiting h order
first_waiting h [] = inl (λ one among. absurd among)
first_waiting h (one ∷ order) = by (is_replied one.session one.seq h) refl (first_waiting h order)
  where
    by : (b : Bool) → is_replied one.session one.seq h ≡ b → AllAnswered h order ⊎ Waiting h order → AllAnswered h (one ∷ order) ⊎ Waiting h (one ∷ order)
    by false waits rest = inr (record { front = []; one = one; back = order; split = refl; answered = λ other among. absurd among; waits = waits })
    by true is (inl all) = inl (answered_first h one order is all)
    by true is (inr waiting) = inr (record {
      front = one ∷ waiting.front;
      one = waiting.one;
      back = waiting.back;
      split = ap (λ others. one ∷ others) waiting.split;
      answered = answered_first h one waiting.front is waiting.answered;
      waits = waiting.waits;
    })

-- where every command of these sessions is replied, the test says so; the first session has this number
all_from : (number : ℕ) (plans : List SessionPlan) (h : History)
    → ((s c : ℕ) (plan : SessionPlan) → slice_get plans s ≡ Some plan → c < length plan.planned → is_replied (s + number) (c + 1) h ≡ true)
    → all_replied_from number plans h ≡ true
all_from number [] h each = refl
all_from number (plan ∷ plans) h each =
    let first : all_below (λ c. is_replied number (c + 1) h) (length plan.planned) ≡ true =
    all_below_where (λ c. is_replied number (c + 1) h) (length plan.planned) (λ c less.
    let same : 0 + number ≡ number = omega arith in
    subst (λ n. is_replied n (c + 1) h ≡ true) same (each 0 c plan refl less)) in
    let rest : all_replied_from (number + 1) plans h ≡ true = all_from (number + 1) plans h (λ s c other there less.
    let next : suc s + number ≡ s + (number + 1) = omega arith in
    subst (λ n. is_replied n (c + 1) h ≡ true) next (each (suc s) c other there less)) in
    rw (first, rest) refl

-- where the test says so, every command of these sessions is replied
pub each_from : (number : ℕ) (plans : List SessionPlan) (h : History) (s c : ℕ) (plan : SessionPlan)
    → all_replied_from number plans h ≡ true → slice_get plans s ≡ Some plan → c < length plan.planned → is_replied (s + number) (c + 1) h ≡ true
each_from number [] h s c plan all there less = absurd cc
each_from number (first ∷ plans) h zero c plan all there less =
    let here = and_parts (all_below (λ k. is_replied number (k + 1) h) (length first.planned)) (all_replied_from (number + 1) plans h) all in
    let same : first ≡ plan = cc in
    let now : number ≡ 0 + number = omega arith in
    subst (λ n. is_replied n (c + 1) h ≡ true) now
    (all_below_at (λ k. is_replied number (k + 1) h) (length first.planned) here.0 c (subst (λ (x : SessionPlan). c < length x.planned) (sym same) less))
each_from number (first ∷ plans) h (suc s) c plan all there less =
    let here = and_parts (all_below (λ k. is_replied number (k + 1) h) (length first.planned)) (all_replied_from (number + 1) plans h) all in
    let next : s + (number + 1) ≡ suc s + number = omega arith in
    subst (λ n. is_replied n (c + 1) h ≡ true) next (each_from (number + 1) plans h s c plan here.1 there less)

-- where all of the order is replied, every command is
pub order_all : (t : Setting) (order : List CommandAt) (h : History) → IsOrder t.roster order → AllAnswered h order → all_replied t h ≡ true
order_all t order h is_order answered = all_from 0 t.roster.sessions h (λ s c plan there less.
    let number : s ≡ s + 0 = omega arith in
    subst (λ n. is_replied n (c + 1) h ≡ true) number (answered (command_at s (c + 1)) (is_order.all s c plan there less)))

-- where not every command is replied, one of the order is the first that waits
some_waits : (t : Setting) (order : List CommandAt) (h : History) → IsOrder t.roster order → all_replied t h ≡ false → Waiting h order
some_waits t order h is_order waits = elim (first_waiting h order) [
  | inl answered ↦ let all : all_replied t h ≡ true = order_all t order h is_order answered in absurd (let bad : true ≡ false = sym all ∙ waits in cc)
  | inr waiting ↦ waiting
]

-- ---- calm rounds

-- What holds of the history after calm rounds.
record Ends (t : Setting) (h : History) : Type 0 where
  whole : IsWhole t.topology h
  few : tally moves_clock h ≤ 600000
  short : length h < 2 ^ 64

module _ (t : Setting) (order : List CommandAt) (roster : IsRoster t.roster) (own : (s : ℕ) (plan : SessionPlan) → slice_get t.roster.sessions s ≡ Some plan → plan.gate < gates t.topology)
    (is_order : IsOrder t.roster order) where
  -- a round before which not every command is replied makes a reply
  round_more : (h : History) → IsRun t h → Ends t (calm_round t h) → all_replied t h ≡ false → replies h + 1 ≤ replies (calm_round t h)
  round_more h run ends waits =
      let waiting = some_waits t order h is_order waits in
      let grows : tally moves_clock h ≤ tally moves_clock (calm_round t h) = after_passes (tally_follows moves_clock) t h round_passes in
      let last = ends.few in
      let few : tally moves_clock h ≤ 600000 = omega (arith, grows, last) in
      let early : tally moves_clock h < 2 ^ 45 = omega (arith, few) in
      let runs : Runs t h = record { run = run; roster = roster; own = own; whole = whole_before t h round_passes ends.whole; early = early } in
      one_more t h round_passes waiting.one.session waiting.one.seq waiting.waits
      (round_replies t h order waiting.front waiting.back waiting.one runs few ends.short is_order waiting.split waiting.answered waiting.waits)

  -- rounds that are enough reply to all
  rounds_reply : (n : ℕ) (h : History) → IsRun t h → commands t + 1 ≤ n + replies h → Ends t (calm_rounds n t h) → all_replied t (calm_rounds n t h) ≡ true
  rounds_reply zero h run enough ends = let few = replies_few t h run.1 in absurd (omega (arith, enough, few))
  rounds_reply (suc n) h run enough ends = by (all_replied t h) (replies (calm_round t h) == replies h) refl refl ends (λ differs.
      rounds_reply n (calm_round t h) (run.0, round_lawful t h run.0 run.1) (still (round_grows t h) differs))
    where
      still : replies h ≤ replies (calm_round t h) → (replies (calm_round t h) == replies h) ≡ false → commands t + 1 ≤ n + replies (calm_round t h)
      still grows differs = let apart = eqb-false (replies (calm_round t h)) (replies h) differs in omega (arith, enough, grows, apart)

      stuck : replies h + 1 ≤ replies (calm_round t h) → (replies (calm_round t h) == replies h) ≡ true → ⊥
      stuck more same = let is = eqb-true (replies (calm_round t h)) (replies h) same in omega (arith, more, is)

      by : (all none : Bool) → all_replied t h ≡ all → (replies (calm_round t h) == replies h) ≡ none
          → Ends t (if all then h else (if none then calm_round t h else calm_rounds n t (calm_round t h)))
          → ((replies (calm_round t h) == replies h) ≡ false → Ends t (calm_rounds n t (calm_round t h)) → all_replied t (calm_rounds n t (calm_round t h)) ≡ true)
          → all_replied t (if all then h else (if none then calm_round t h else calm_rounds n t (calm_round t h))) ≡ true
      by true none is same ends more = is
      by false true waits same ends more = absurd (stuck (round_more h run ends waits) same)
      by false false waits differs ends more = more differs ends

-- Calm rounds over a world that is whole after them reply to all.
pub calm_replies : (t : Setting) (order : List CommandAt) (h : History) → Calms t order h → all_replied t (calm t h) ≡ true
calm_replies t order h calms =
    rounds_reply t order calms.roster calms.own calms.order_is (commands t + 1) h calms.run (omega arith) (record { whole = calms.whole; few = calms.few; short = calms.short })

-- ---- each once

-- of two numbers neither is below the other
one_number : (i j : ℕ) → (i < j → ⊥) → (j < i → ⊥) → i ≡ j
one_number i j not_below not_above = elim (leb_tells i j) [
  | inl low ↦ elim (eqb_tells i j) [
    | inl same ↦ same.1
    | inr other ↦ absurd (not_below (omega (arith, low.1, other.1)))
  ]
  | inr high ↦ absurd (not_above high.1)
]

-- a command begins in one entry
begun_in_one : (t : Setting) (h : History) (i j s c : ℕ) → Lawful t h → BeganAt h i s c → BeganAt h j s c → i ≡ j
begun_in_one t h i j s c lawful one other = one_number i j
    (λ less. let bad = begins_rise t h i j one.gate other.gate s c c one.start other.start lawful less one.there other.there in omega (arith, bad))
    (λ more. let bad = begins_rise t h j i other.gate one.gate s c c other.start one.start lawful more other.there one.there in omega (arith, bad))

-- a command is replied in one entry
replied_in_one : (t : Setting) (h : History) (i j s c : ℕ) → Lawful t h → RepliedAt h i s c → RepliedAt h j s c → i ≡ j
replied_in_one t h i j s c lawful one other = one_number i j
    (λ less. let bad = replies_rise t h i j one.gate other.gate s c c one.place other.place one.reply other.reply lawful less one.there other.there in omega (arith, bad))
    (λ more. let bad = replies_rise t h j i other.gate one.gate s c c other.place one.place other.reply one.reply lawful more other.there one.there in omega (arith, bad))

-- Where every command of a lawful history is replied, each began in exactly one entry, and was replied in exactly one.
pub all_once : (t : Setting) (h : History) → Lawful t h → all_replied t h ≡ true
    → (s c : ℕ) (plan : SessionPlan) → slice_get t.roster.sessions s ≡ Some plan → c < length plan.planned → OnceEach h s (c + 1)
all_once t h lawful all s c plan session less =
    let number : s + 0 ≡ s = omega arith in
    let is : is_replied s (c + 1) h ≡ true = subst (λ n. is_replied n (c + 1) h ≡ true) number (each_from 0 t.roster.sessions h s c plan all session less) in
    let found = found_reply t h s (c + 1) lawful is in
    let standing = stands t h s plan session lawful in
    let answered = replied_there t h s (c + 1) plan session lawful is in
    let least = standing.least in
    let begun : HasBegun h s (c + 1) = standing.begins c (omega (arith, answered, least)) in
    record {
      began = begun.number;
      begun = begun.begun;
      begun_once = λ k other. begun_in_one t h k begun.number s (c + 1) lawful other begun.begun;
      answered = found.0;
      replied = found.1;
      replied_once = λ k other. replied_in_one t h k found.0 s (c + 1) lawful other found.1;
    }

-- After calm rounds to the end each command of each session began in exactly one entry, and was replied in exactly one.
pub calm_once : (t : Setting) (order : List CommandAt) (h : History) → Calms t order h
    → (s c : ℕ) (plan : SessionPlan) → slice_get t.roster.sessions s ≡ Some plan → c < length plan.planned → OnceEach (calm t h) s (c + 1)
calm_once t order h calms s c plan session less =
    all_once t (calm t h) (rounds_lawful (commands t + 1) t h calms.run.0 calms.run.1) (calm_replies t order h calms) s c plan session less
