-- What is gathered over a history against one of its entries, over longer histories, and against another that is gathered.
use Rattle.std.proofs.Common.{◌≡◌, ℕ, ◌+◌, ◌≤◌, Some, [], ◌∷◌, ◌++◌, length, arith, List}
use Rattle.ov_session.specs.Events.{greatest}
use Rattle.ov_event.specs.declared.entry.Entry.{Entry}
use Rattle.ov_history.specs.Past.{History, at}
use Rattle.ov_history.proofs.Past.{at_older}
use Rattle.ov_laws.proofs.History.Earlier.{at_newest}

-- a longer history has no smaller greatest
pub greatest_grows : {A : Type 0} (f : A → ℕ) (more h : List A) → greatest f h ≤ greatest f (more ++ h)
greatest_grows f [] h = omega arith
greatest_grows f (e ∷ more) h = let rest : greatest f h ≤ greatest f (more ++ h) = greatest_grows f more h in grind (arith)

-- one greatest is not above another where this holds of each entry
pub greatest_less : (f g : Entry → ℕ) (h : History) → ((k : ℕ) (e : Entry) → at h k ≡ Some e → f e ≤ g e) → greatest f h ≤ greatest g h
greatest_less f g [] each = omega arith
greatest_less f g (e ∷ h) each =
    let here : f e ≤ g e = each (length h + 1) e (at_newest h e) in
    let rest : greatest f h ≤ greatest g h = greatest_less f g h (λ k old there. each k old (at_older h k old e there)) in
    grind (arith)
