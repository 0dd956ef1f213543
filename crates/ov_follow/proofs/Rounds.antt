-- Calm rounds end before they are as many as they may be: each that is not the last replies, and there are no more replies than commands.
use Rattle.std.proofs.Common.{◌≡◌, ◌==◌, ℕ, zero, suc, ◌+◌, ◌≤◌, Bool, true, false, Option, Some, None, List, [], ◌∷◌, refl, arith}
use Rattle.std.specs.Prelude.{if◌then◌else◌}
use Rattle.std.proofs.lemmas.Bool.{eqb-false}
use Rattle.ov_topology.specs.Shape.{IsShape}
use Rattle.ov_event.specs.declared.entry.Entry.{Entry}
use Rattle.ov_history.specs.Past.{History}
use Rattle.ov_history.specs.May.{Setting, Lawful}
use Rattle.ov_history.specs.Gives.{gives}
use Rattle.ov_history.specs.Cores.{onto}
use Rattle.ov_follow.specs.Lines.{Line, followed, followed_all}
use Rattle.ov_follow.specs.Calm.{Pass, passed, round_passes, calm_round, commands, all_replied, replies, calm_rounds, calm}
use Rattle.ov_follow.proofs.Lawful.{round_lawful}
use Rattle.ov_follow.proofs.Replies.{replies_few}

-- a number that is at most one that is at most another
through : (a b c : ℕ) → a ≤ b → b ≤ c → a ≤ c
through a b c first second = omega (arith, first, second)

-- there are not fewer replies after an entry that may be given
onto_grows : (given : Option Entry) (h : History) → replies h ≤ replies (onto given h)
onto_grows None h = omega arith
onto_grows (Some e) h = omega arith

-- after lines
pub all_grows : (t : Setting) (lines : List Line) (h : History) → replies h ≤ replies (followed_all t h lines)
all_grows t [] h = omega arith
all_grows t (line ∷ lines) h =
    through (replies h) (replies (followed t h line)) (replies (followed_all t (followed t h line) lines)) (onto_grows (gives t h line.actor line.act) h) (all_grows t lines (followed t h line))

-- after passes
pub passed_grows : (t : Setting) (passes : List Pass) (h : History) → replies h ≤ replies (passed t h passes)
passed_grows t [] h = omega arith
passed_grows t (pass ∷ passes) h =
    let after = followed_all t h (pass t h) in
    through (replies h) (replies after) (replies (passed t after passes)) (all_grows t (pass t h) h) (passed_grows t passes after)

-- after a calm round
pub round_grows : (t : Setting) (h : History) → replies h ≤ replies (calm_round t h)
round_grows t h = passed_grows t round_passes h

-- what is enough before a further reply is enough with one round less after it
still_enough : (least n before after : ℕ) → least ≤ suc n + before → before ≤ after → (after == before) ≡ false → least ≤ n + after
still_enough least n before after enough grows differs =
    let apart = eqb-false after before differs in
    omega (arith, enough, grows, apart)

-- where no round is left, there are not replies enough
never_none : (t : Setting) (h : History) → Lawful t h → commands t + 1 ≤ 0 + replies h → ⊥
never_none t h lawful enough = let few = replies_few t h lawful in omega (arith, enough, few)

-- rounds that are enough make the same, however many they are
rounds_same : (n m : ℕ) (t : Setting) (h : History) → IsShape t.topology → Lawful t h → commands t + 1 ≤ n + replies h → commands t + 1 ≤ m + replies h → calm_rounds n t h ≡ calm_rounds m t h
rounds_same zero m t h shape lawful enough also = absurd (never_none t h lawful enough)
rounds_same (suc n) zero t h shape lawful enough also = absurd (never_none t h lawful also)
rounds_same (suc n) (suc m) t h shape lawful enough also =
    by (all_replied t h) (replies (calm_round t h) == replies h) (λ differs.
    rounds_same n m t (calm_round t h) shape (round_lawful t h shape lawful)
    (still_enough (commands t + 1) n (replies h) (replies (calm_round t h)) enough (round_grows t h) differs)
    (still_enough (commands t + 1) m (replies h) (replies (calm_round t h)) also (round_grows t h) differs))
  where
    by : (all none : Bool) → (none ≡ false → calm_rounds n t (calm_round t h) ≡ calm_rounds m t (calm_round t h))
        → (if all then h else (if none then calm_round t h else calm_rounds n t (calm_round t h))) ≡ (if all then h else (if none then calm_round t h else calm_rounds m t (calm_round t h)))
    by true none rest = refl
    by false true rest = refl
    by false false rest = rest refl

-- rounds that are one more than the commands make what calm rounds make
pub rounds_enough : (n : ℕ) (t : Setting) (h : History) → IsShape t.topology → Lawful t h → commands t + 1 ≤ n → calm_rounds n t h ≡ calm t h
rounds_enough n t h shape lawful enough = rounds_same n (commands t + 1) t h shape lawful (below (commands t + 1) n (replies h) enough) (below (commands t + 1) (commands t + 1) (replies h) (omega arith))
  where
    below : (least n more : ℕ) → least ≤ n → least ≤ n + more
    below least n more under = omega (arith, under)
