-- Calm rounds: everything that is outstanding is done, in fixed passes, until every command is replied or a round replies to none.
use Rattle.std.proofs.Common.{zero, suc}
use Rattle.std.specs.Prelude.{ℕ, ◌+◌, Bool, true, false, ◌&&◌, ◌==◌, List, [], ◌∷◌, length, if◌then◌else◌}
use Rattle.ov_session.specs.declared.plan.SessionPlan.{SessionPlan}
use Rattle.ov_event.specs.declared.kind.Kind.{Kind}
use Rattle.ov_event.specs.declared.kind.Kind.TheVariants as kinds
use Rattle.ov_history.specs.Past.{History, tally}
use Rattle.ov_history.specs.Counts.{all_below}
use Rattle.ov_history.specs.May.{Setting}
use Rattle.ov_follow.specs.Lines.{Line, followed_all}
use Rattle.ov_follow.specs.Passes.{tolds, begins, writes, acks, publishes, hears, questions, answers, takes, settlements, results, replies_of, is_replied}

-- A pass: the lines that it lists from the history before it.
abbrev pub Pass : Type 0
Pass = Setting → History → List Line

-- the history after passes, each listed from the history before it and then followed
abbrev pub passed : Setting → History → List Pass → History
passed t h [] = h
passed t h (pass ∷ passes) = passed t (followed_all t h (pass t h)) passes

-- the passes of a calm round in their order
abbrev pub round_passes : List Pass
round_passes =
    tolds ∷ begins ∷ writes ∷ acks ∷ publishes ∷ hears ∷ publishes ∷ hears ∷ questions ∷ answers ∷ takes ∷ settlements ∷ results ∷ replies_of ∷ []

-- the history after one calm round
abbrev pub calm_round : Setting → History → History
calm_round t h = passed t h round_passes

-- ---- until all is replied

-- how many commands these sessions have
abbrev pub count : List SessionPlan → ℕ
count [] = 0
count (plan ∷ plans) = length plan.planned + count plans

-- how many commands the sessions have
abbrev pub commands : Setting → ℕ
commands t = count t.roster.sessions

-- whether every command of these sessions is replied; the first has this number
abbrev pub all_replied_from : ℕ → List SessionPlan → History → Bool
all_replied_from s [] h = true
all_replied_from s (plan ∷ plans) h = all_below (λ c. is_replied s (c + 1) h) (length plan.planned) && all_replied_from (s + 1) plans h

-- whether every command is replied
abbrev pub all_replied : Setting → History → Bool
all_replied t h = all_replied_from 0 t.roster.sessions h

-- whether an entry replies
abbrev pub is_reply : Kind → Bool
is_reply (kinds.Replied place s c reply) = true
is_reply other = false

-- how many replies there are
abbrev pub replies : History → ℕ
replies h = tally (λ e. is_reply e.kind) h

-- the history after at most so many calm rounds: none more where every command is replied, or after a round that made no reply
abbrev pub calm_rounds : ℕ → Setting → History → History
calm_rounds zero t h = h
calm_rounds (suc n) t h = if all_replied t h then h else (if replies (calm_round t h) == replies h then calm_round t h else calm_rounds n t (calm_round t h))

-- the history after calm rounds; one more than there are commands are enough, since each but the last makes a reply
abbrev pub calm : Setting → History → History
calm t h = calm_rounds (commands t + 1) t h
