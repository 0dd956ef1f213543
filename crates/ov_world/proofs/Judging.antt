-- What an actor gives for the act of an entry, and whether the entry may follow.
use Rattle.std.proofs.Common.{◌≡◌, ℕ, ◌+◌, ◌<◌, List, ◌∷◌, ◌++◌, length, get_or, take, drop, Option, Some, None, sym, ap, ◌∙◌, ◌↔◌, reverse, arith}
use Rattle.std.proofs.lemmas.List.{drop_more, length-take-le, take-append-drop}
use Rattle.ov_topology.specs.Shape.{IsShape}
use Rattle.ov_event.specs.declared.entry.Entry.{Entry}
use Rattle.ov_history.specs.Past.{History}
use Rattle.ov_history.specs.May.{Setting, Lawful, May}
use Rattle.ov_history.specs.Gives.{act_of, gives}
use Rattle.ov_history.proofs.Given.{given_follows}
use Rattle.ov_history.proofs.Giving.{may_given}
use Rattle.ov_world.specs.Judging.{FirstRefused}

-- what is given is the entry exactly where the entry may follow
pub given_may : (t : Setting) (h : History) (e given : Entry) → IsShape t.topology → Some given ≡ gives t h e.actor (act_of e.kind) → (given ≡ e) ↔ May t h e
given_may t h e given shape gave = (
  λ same. (given_follows t h e.actor (act_of e.kind) e shape (sym gave ∙ ap Some same)).0,
  λ may. let both : ◌≡◌ {A = Option Entry} (Some given) (Some e) = gave ∙ may_given t h e may in cc,
)

-- where nothing is given the entry may not follow
pub none_may_not : (t : Setting) (h : History) (e : Entry) → None ≡ gives t h e.actor (act_of e.kind) → May t h e → ⊥
none_may_not t h e none may = let both : ◌≡◌ {A = Option Entry} None (Some e) = none ∙ may_given t h e may in cc

-- the entry at a place, behind lawful ones, is the first that may not follow
pub refused_at : (t : Setting) (entries : List Entry) (i : ℕ) (e : Entry) → i < length entries → e ≡ get_or entries i e → Lawful t (reverse (take i entries)) → (May t (reverse (take i entries)) e → ⊥)
    → FirstRefused t entries (i + 1)
refused_at t entries i e less at lawful refused = record {
  front = take i entries;
  refused = e;
  rest = drop (i + 1) entries;
  split = sym (take-append-drop i entries) ∙ ap (λ (es : List Entry). take i entries ++ es) (drop_more entries i e less ∙ ap (λ (x : Entry). x ∷ drop (i + 1) entries) (sym at));
  number_is = ap (λ (n : ℕ). n + 1) (sym (length-take-le i entries (omega (arith, less))));
  lawful = lawful;
  may_not = refused;
}
