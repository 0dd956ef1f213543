use Rattle.std.proofs.Common.{◌∙◌, ℕ, List, [], Option, ap, sym, false, inl, inr}
use Rattle.std.specs.Prelude.{unwrap_or}
use Rattle.std.proofs.lemmas.Result.{IfOk-weaker}
use Rattle.clap.specs.Matches.{found_of}
use Rattle.ov_base.specs.Word.{◌>>=◌}
use Rattle.ov_top.specs.Words.{Said, make_by}
use Rattle.ov_top.specs.declared.words.Order.{Order}
use Rattle.ov_top.proofs.Walks.{all_said, nothing_is_said}
use Rattle.ov_top.proofs.words.make_of.Goals as goal

-- the order to make a script, by what the words say
abbrev order_said : Option Said → Option Order
order_said o = o >>= λ said. make_by said.files

pub returns-in-Ok-clause-exact : goal.returns-in-Ok-clause-exact
returns-in-Ok-clause-exact c =
    let all = all_said false c.args.words.now (found_of c.in-Ok.matches) c.in-Ok.ensures.faults c.in-Ok.ensures.rows in
    let files = ap (λ (o : Option (List (List ℕ))). unwrap_or o []) c.get_raw.ensures ∙ all.files in
    c.make_by_words.ensures.exact ∙ ap make_by files ∙ sym (ap order_said all.read)

pub returns-in-Err-clause-exact : goal.returns-in-Err-clause-exact
returns-in-Err-clause-exact c =
    IfOk-weaker c.refusal.result _ _
    (λ order is. is.0 ∙ elim c.in-Err.ensures.faults [
      | inl memory ↦ absurd (is.1 (c.kind.ensures ∙ memory))
      | inr among ↦ sym (ap order_said (nothing_is_said false c.args.words.now _ among))
    ]) c.refusal.ensures.none
