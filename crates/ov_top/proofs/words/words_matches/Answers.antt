use Rattle.std.proofs.Common.{◌≡◌, ◌∙◌, Bool, ap, subst, refl, true, false, map, string_bytes, Global}
use Rattle.std.proofs.lemmas.Result.{IfOk-weaker}
use Rattle.clap.specs.Simple.{App, is_simple, matches_of}
use Rattle.clap.specs.Kinds.{FailsBy}
use Rattle.clap.specs.Faults.{fault_of, is_simple_and_free}
use Rattle.ov_top.specs.Parsing.{words_app}
use Rattle.ov_top.proofs.words.words_matches.Goals as goal

-- the command is one of which clap's clauses say what it refuses
simple_and_free : (allowed : Bool) → is_simple_and_free (words_app allowed) ≡ true
simple_and_free false = refl
simple_and_free true = refl

-- and of which they say what is found
simple : (allowed : Bool) → is_simple (words_app allowed) ≡ true
simple false = refl
simple true = refl

pub returns-clause-faults : goal.returns-clause-faults
returns-clause-faults c =
    subst (λ (a : App). FailsBy (fault_of a (map (string_bytes {Z = Global}) c.args.words.now)) c.try_get_matches_from_mut.result) c.in_ok-command.ensures
    (c.try_get_matches_from_mut.ensures.kinds (ap is_simple_and_free c.in_ok-command.ensures ∙ simple_and_free c.args.allowed))

pub returns-clause-rows : goal.returns-clause-rows
returns-clause-rows c =
    IfOk-weaker c.try_get_matches_from_mut.result _ _
    (λ m h. (h.2 (ap is_simple c.in_ok-command.ensures ∙ simple c.args.allowed)).0 ∙ ap (λ (a : App). matches_of a (map (string_bytes {Z = Global}) c.args.words.now)) c.in_ok-command.ensures)
    c.try_get_matches_from_mut.ensures.ok
