use Rattle.std.proofs.Common.{◌∙◌, ℕ, List, [], Option, ap, ap₂, sym, true, inl, inr}
use Rattle.std.specs.Prelude.{unwrap_or}
use Rattle.std.proofs.lemmas.Result.{IfOk-weaker}
use Rattle.clap.specs.Matches.{found_of}
use Rattle.ov_base.specs.Word.{◌>>=◌}
use Rattle.ov_top.specs.Words.{Said, step_by}
use Rattle.ov_top.specs.declared.words.Order.{Order}
use Rattle.ov_top.proofs.Walks.{all_said, flag_read, nothing_is_said}
use Rattle.ov_top.proofs.words.step_of.Goals as goal

-- the order to follow a schedule, by what the words say
abbrev order_said : Option Said → Option Order
order_said o = o >>= λ said. step_by said.journal said.files

pub returns-in-Ok-clause-exact : goal.returns-in-Ok-clause-exact
returns-in-Ok-clause-exact c =
    let found = found_of c.in-Ok.matches in
    let all = all_said true c.args.words.now found c.in-Ok.ensures.faults c.in-Ok.ensures.rows in
    let journal = flag_read found all.said.journal c.get_flag.result all.journal c.get_flag.ensures.value c.get_flag.ensures.other in
    let files = ap (λ (o : Option (List (List ℕ))). unwrap_or o []) c.get_raw.ensures ∙ all.files in
    IfOk-weaker c.step_by_files.result _ _ (λ order is. is ∙ ap₂ step_by journal files ∙ sym (ap order_said all.read)) c.step_by_files.ensures.exact

pub returns-in-Err-clause-exact : goal.returns-in-Err-clause-exact
returns-in-Err-clause-exact c =
    IfOk-weaker c.refusal.result _ _
    (λ order is. is.0 ∙ elim c.in-Err.ensures.faults [
      | inl memory ↦ absurd (is.1 (c.kind.ensures ∙ memory))
      | inr among ↦ sym (ap order_said (nothing_is_said true c.args.words.now _ among))
    ]) c.refusal.ensures.none
