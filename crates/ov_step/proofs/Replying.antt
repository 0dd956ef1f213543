-- How far the commands of the sessions are replied.
use Rattle.std.proofs.Common.{◌≡◌, ℕ, zero, suc, ◌+◌, ◌≤◌, ◌<◌, Bool, true, false, ◌&&◌, ◌||◌, Some, List, [], ◌∷◌, length, get_or, refl, sym, subst, arith, inl, inr}
use Rattle.std.specs.Prelude.{slice_get}
use Rattle.std.proofs.lemmas.Bool.Decides.{eqb_tells}
use Rattle.std.proofs.lemmas.Option.{slice_get_within, slice_get_read}
use Rattle.ov_session.specs.declared.roster.Roster.{Roster}
use Rattle.ov_session.specs.declared.plan.SessionPlan.{SessionPlan}
use Rattle.ov_event.specs.declared.entry.Entry.{Entry}
use Rattle.ov_history.specs.Past.{History}
use Rattle.ov_history.specs.Counts.{all_below}
use Rattle.ov_history.specs.Marks.{replies}
use Rattle.ov_history.specs.May.{Setting}
use Rattle.ov_history.proofs.Giving.{all_below_where}
use Rattle.ov_follow.specs.Calm.{all_replied, all_replied_from}
use Rattle.ov_follow.specs.Passes.{is_replied}
use Rattle.ov_step.specs.Replied.{IsReplied}
use Rattle.ov_step.specs.declared.replied.Replied.{Replied}

-- ---- whether all are replied

and_false : (b : Bool) → (b && false) ≡ false
and_false true = refl
and_false false = refl

-- where one fails, not all pass
one_fails : (f : ℕ → Bool) (n p : ℕ) → p < n → f p ≡ false → all_below f n ≡ false
one_fails f zero p less fails = absurd (omega arith)
one_fails f (suc n) p less fails = elim (eqb_tells p n) [
  | inl h ↦ let last : f n ≡ false = subst (λ (k : ℕ). f k ≡ false) h.1 fails in rw last refl
  | inr h ↦ rw (one_fails f n p (omega (arith, h.1)) fails) (and_false (f n))
]

-- where each command of these sessions is replied, all are
all_are : (h : History) (s : ℕ) (plans : List SessionPlan)
    → ((k c : ℕ) (plan : SessionPlan) → slice_get plans k ≡ Some plan → c < length plan.planned → is_replied (s + k) (c + 1) h ≡ true) → all_replied_from s plans h ≡ true
all_are h s [] each = refl
all_are h s (plan ∷ plans) each =
    let here : all_below (λ c. is_replied s (c + 1) h) (length plan.planned) ≡ true =
    all_below_where (λ c. is_replied s (c + 1) h) (length plan.planned)
    (λ c less. let same : s + zero ≡ s = omega arith in subst (λ (n : ℕ). is_replied n (c + 1) h ≡ true) same (each zero c plan refl less)) in
    let rest : all_replied_from (s + 1) plans h ≡ true =
    all_are h (s + 1) plans
    (λ k c other there less. let same : s + suc k ≡ (s + 1) + k = omega arith in subst (λ (n : ℕ). is_replied n (c + 1) h ≡ true) same (each (suc k) c other there less)) in
    rw (here, rest) refl

-- where one command of these sessions is not replied, not all are
one_is_not : (h : History) (s k c : ℕ) (plans : List SessionPlan) (plan : SessionPlan) → slice_get plans k ≡ Some plan → c < length plan.planned
    → is_replied (s + k) (c + 1) h ≡ false → all_replied_from s plans h ≡ false
one_is_not h s k c [] plan there less fails = absurd cc
one_is_not h s zero c (first ∷ plans) plan there less fails =
    let same : plan ≡ first = cc in
    let within : c < length first.planned = subst (λ (p : SessionPlan). c < length p.planned) same less in
    let at : s + zero ≡ s = omega arith in
    rw (one_fails (λ c. is_replied s (c + 1) h) (length first.planned) c within (subst (λ (n : ℕ). is_replied n (c + 1) h ≡ false) at fails)) refl
one_is_not h s (suc k) c (first ∷ plans) plan there less fails =
    let at : s + suc k ≡ (s + 1) + k = omega arith in
    rw (one_is_not h (s + 1) k c plans plan there less (subst (λ (n : ℕ). is_replied n (c + 1) h ≡ false) at fails))
    (and_false (all_below (λ c. is_replied s (c + 1) h) (length first.planned)))

-- the session that was read is there
pub plan_there : (t : Setting) (roster : Roster) (sessions : List SessionPlan) (session n count : ℕ) (plan : SessionPlan) → t.roster ≡ roster → sessions ≡ roster.sessions
    → count ≡ length roster.sessions → session ≡ n → n < count → plan ≡ get_or sessions n plan → slice_get t.roster.sessions session ≡ Some plan
plan_there t roster sessions session n count plan same are count_is at less read =
    let there : plan ≡ get_or roster.sessions n plan = rw (sym are) read in
    rw (same, at) (slice_get_read roster.sessions count n plan count_is less there)

-- ---- how far they are replied

-- so far they are still replied after one entry more
pub replied_stays : (t : Setting) (h : History) (e : Entry) (r : Replied) → IsReplied t h r → IsReplied t (e ∷ h) r
replied_stays t h e r is = record {
  below = λ s c plan there less within. still s (c + 1) (is.below s c plan there less within);
  here = λ c less. still r.session (c + 1) (is.here c less);
}
  where
    still : (s c : ℕ) → is_replied s c h ≡ true → is_replied s c (e ∷ h) ≡ true
    still s c replied = rw replied (by (replies s c e.kind))
      where
        by : (b : Bool) → (b || true) ≡ true
        by true = refl
        by false = refl

-- before the first command
pub none_replied : (t : Setting) → IsReplied t [] (record { session = 0; seq = 0 })
none_replied t = record { below = λ s c plan there less within. absurd (omega (arith, less)); here = λ c less. absurd (omega (arith, less)) }

-- one command more
pub command_more : (t : Setting) (h : History) (session seq : ℕ) → IsReplied t h (record { session = session; seq = seq }) → is_replied session (seq + 1) h ≡ true
    → IsReplied t h (record { session = session; seq = seq + 1 })
command_more t h session seq is replied = record {
  below = is.below;
  here = λ c less. elim (eqb_tells c seq) [
    | inl same ↦ subst (λ (n : ℕ). is_replied session (n + 1) h ≡ true) (sym same.1) replied
    | inr other ↦ is.here c (omega (arith, less, other.1))
  ];
}

-- one session more
pub session_more : (t : Setting) (h : History) (session seq : ℕ) (plan : SessionPlan) → slice_get t.roster.sessions session ≡ Some plan → length plan.planned ≤ seq
    → IsReplied t h (record { session = session; seq = seq }) → IsReplied t h (record { session = session + 1; seq = 0 })
session_more t h session seq plan there all is = record {
  below = λ s c other at less within. elim (eqb_tells s session) [
    | inl same ↦
        let found : slice_get t.roster.sessions session ≡ Some other = subst (λ (n : ℕ). slice_get t.roster.sessions n ≡ Some other) same.1 at in
        let is_plan : other ≡ plan = cc in
        let short : c < length plan.planned = subst (λ (p : SessionPlan). c < length p.planned) is_plan within in
        subst (λ (n : ℕ). is_replied n (c + 1) h ≡ true) (sym same.1) (is.here c (omega (arith, short, all)))
    | inr apart ↦ is.below s c other at (omega (arith, less, apart.1)) within
  ];
  here = λ c less. absurd (omega (arith, less));
}

-- where no session is left, all is replied
pub all_sessions : (t : Setting) (h : History) (session seq : ℕ) → length t.roster.sessions ≤ session → IsReplied t h (record { session = session; seq = seq }) → all_replied t h ≡ true
all_sessions t h session seq all is = all_are h 0 t.roster.sessions λ k c plan there less.
    let within : k < length t.roster.sessions = slice_get_within t.roster.sessions k plan there in
    let same : k ≡ 0 + k = omega arith in
    subst (λ (n : ℕ). is_replied n (c + 1) h ≡ true) same (is.below k c plan there (omega (arith, within, all)) less)

-- where a command is not replied, not all is
pub one_open : (t : Setting) (h : History) (session seq : ℕ) (plan : SessionPlan) → slice_get t.roster.sessions session ≡ Some plan → seq < length plan.planned
    → is_replied session (seq + 1) h ≡ false → all_replied t h ≡ false
one_open t h session seq plan there less fails =
    let same : session ≡ 0 + session = omega arith in
    one_is_not h 0 session seq t.roster.sessions plan there less (subst (λ (n : ℕ). is_replied n (seq + 1) h ≡ false) same fails)
