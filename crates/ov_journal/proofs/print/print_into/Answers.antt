use Rattle.std.proofs.Common.{◌≡◌, ℕ, List, [], ◌∷◌, ◌++◌, sym, ap, ◌∙◌, append_assoc, rules}
use Rattle.std.proofs.lemmas.Result.{on_ok_weaker}
use Rattle.ov_topology.specs.Actor.{actor_text}
use Rattle.ov_journal.specs.Text.{kind_text}
use Rattle.ov_journal.proofs.Pieces.{entry_pieces}
use Rattle.ov_journal.proofs.print.print_into.Goals as goal

pub returns : goal.returns
returns c =
    let actor = actor_text c.args.entry.now.actor in
    let kind = kind_text c.args.entry.now.kind in
    let first : c.print_to.new.text.items ≡ actor = search rules in
    let space : c.push.new.self.items ≡ c.print_to.new.text.items ++ 32 ∷ [] = search rules in
    on_ok_weaker c.print_kind.result
    (λ last. last
    ∙ ap (λ (t : List ℕ). t ++ kind) (space ∙ ap (λ (t : List ℕ). t ++ 32 ∷ []) first)
    ∙ append_assoc actor (32 ∷ []) kind
    ∙ sym (entry_pieces c.args.entry.now c.requires)) c.print_kind.ensures
