-- Lines that are listed behind other lines.
use Rattle.std.proofs.Common.{◌≡◌, ℕ, ◌+◌, ◌==◌, ◌||◌, List, [], ◌++◌, sym, ap, ◌∙◌}
use Rattle.std.specs.Prelude.{if◌then◌else◌}
use Rattle.std.proofs.lemmas.List.{append-nil, append_assoc}
use Rattle.ov_topology.specs.declared.actor.Actor.TheVariants.{Gate, Node, Settler}
use Rattle.ov_topology.specs.declared.mode.Mode.{Mode}
use Rattle.ov_event.specs.Letters.{is_asked}
use Rattle.ov_event.specs.declared.entry.Entry.{Entry}
use Rattle.ov_history.specs.Past.{History, stopped}
use Rattle.ov_history.specs.Settlers.{open_round}
use Rattle.ov_history.specs.May.{Setting}
use Rattle.ov_follow.specs.Lines.{Line}
use Rattle.ov_follow.specs.Passes.{each, gather, only, running, take, hear_lines, last_published, answer_lines, is_waiting, is_to}
use Rattle.ov_step.proofs.Passing.{each_more}

-- ---- lists

-- no line behind lines
pub none_behind : (old : List Line) → old ≡ old ++ []
none_behind old = sym (append-nil old)

-- lines behind lines that are behind others
pub both_behind : (first others old here new : List Line) → here ≡ old ++ first → new ≡ here ++ others → new ≡ old ++ (first ++ others)
both_behind first others old here new one next = next ∙ ap (λ (lines : List Line). lines ++ others) one ∙ append_assoc old first others

-- the lines of one number more, behind others
pub each_behind : (f : ℕ → List Line) (n : ℕ) (old here new : List Line) → here ≡ old ++ each f n → new ≡ here ++ f n → new ≡ old ++ each f (n + 1)
each_behind f n old here new one next = both_behind (each f n) (f n) old here new one next ∙ ap (λ (lines : List Line). old ++ lines) (sym (each_more f n))

-- ---- what is listed for each number

-- what a gateway published last is heard
abbrev pub heard : Setting → History → ℕ → List Line
heard t h g = if stopped (Gate g) h || (last_published g h == 0) then [] else hear_lines t h g (last_published g h)

-- a gateway hears another one's entry
abbrev pub gate_hears : History → ℕ → ℕ → ℕ → List Line
gate_hears h g number k = if k == g then [] else running h (take (Gate k) number 1)

-- a settler's open round is answered
abbrev pub answered : Setting → History → ℕ → List Line
answered t h s = if is_waiting h s then answer_lines t h s else []

-- so many nodes of a centre answer, where they are asked
abbrev pub centre_answers : History → ℕ → ℕ → Mode → ℕ → ℕ → List Line
centre_answers h count s mode number c = if is_asked s mode (Node c 0) then each (λ p. running h (take (Node c p) number 1)) count else []

-- a settler takes an answer to its open round
abbrev pub takings : History → ℕ → ℕ → Entry → List Line
takings h s number e = only (is_to s (open_round s h) e.kind) (take (Settler s) number 1)

-- a settler takes the answers to its open round
abbrev pub taken : History → ℕ → List Line
taken h s = if is_waiting h s then gather (takings h s) h else []
