-- Entries that are read, and the history that they are.
use Rattle.std.proofs.Common.{◌≡◌, ℕ, ◌+◌, ◌<◌, ◌≤◌, Option, Some, None, List, [], ◌∷◌, ◌++◌, length, take, get_or, refl, sym, ap, subst, ◌∙◌}
use Rattle.std.specs.Prelude.{reverse}
use Rattle.std.proofs.Math.Seq.{take-append_seam}
use Rattle.std.proofs.lemmas.List.{take_more, take_all, length-reverse, reverse-reverse, reverse-append, append_assoc}
use Rattle.ov_event.specs.declared.entry.Entry.{Entry}
use Rattle.ov_history.specs.Past.{History}
use Rattle.ov_history.specs.May.{Setting}
use Rattle.ov_history.specs.Gives.{gives}
use Rattle.ov_history.specs.Cores.{onto}
use Rattle.ov_follow.specs.Lines.{Line, followed, followed_all}
use Rattle.ov_world.proofs.Numbered.{reverse_more}

-- the entries of a history are the first ones of those of a later one
first_entries : (h more : History) → reverse (take (length h) (reverse (more ++ h))) ≡ h
first_entries h more =
    rw (reverse-append more h, sym (length-reverse h), take-append_seam (reverse h) (reverse more), reverse-reverse h) refl

-- what is true of a history is true of the first entries of a later one, as many as it has
pub seen_from : (P : History → Type 0) (entries : List Entry) (h more : History) (read : ℕ) → entries ≡ reverse (more ++ h) → read ≡ length h
    → P h → P (reverse (take read entries))
seen_from P entries h more read are all seen =
    let same : reverse (take read entries) ≡ h = rw (are, all) (first_entries h more) in
    subst P (sym same) seen

-- what is true with one entry more is true of one first entry more
pub seen_more : (P : History → Type 0) (entries : List Entry) (place : ℕ) (e : Entry) → place < length entries → e ≡ get_or entries place e
    → P (e ∷ reverse (take place entries)) → P (reverse (take (place + 1) entries))
seen_more P entries place e less is seen =
    let next : reverse (take (place + 1) entries) ≡ e ∷ reverse (take place entries) =
    rw (take_more entries place e less, sym is) (reverse_more (take place entries) e) in
    subst P (sym next) seen

-- what is true of all entries is true of the history
pub seen_to : (P : History → Type 0) (entries : List Entry) (h : History) (place : ℕ) → entries ≡ reverse h → length entries ≤ place
    → P (reverse (take place entries)) → P h
seen_to P entries h place are all seen =
    let same : reverse (take place entries) ≡ h = rw (take_all place entries all, are) (reverse-reverse h) in
    subst P same seen

-- ---- histories after lines

-- A history goes on from another one.
pub record GoesOn (h later : History) : Type 0 where
  pub more : List Entry
  pub is : later ≡ more ++ h

onto_goes_on : (answer : Option Entry) (h : History) → GoesOn h (onto answer h)
onto_goes_on None h = record { more = []; is = refl }
onto_goes_on (Some e) h = record { more = e ∷ []; is = refl }

-- the history after lines goes on from the one before
pub lines_go_on : (t : Setting) (h : History) (lines : List Line) → GoesOn h (followed_all t h lines)
lines_go_on t h [] = record { more = []; is = refl }
lines_go_on t h (line ∷ lines) =
    let next = onto_goes_on (gives t h line.actor line.act) h in
    let rest = lines_go_on t (followed t h line) lines in
    record { more = rest.more ++ next.more; is = rest.is ∙ ap (λ (here : History). rest.more ++ here) next.is ∙ sym (append_assoc rest.more next.more h) }

-- what is read of a history before lines, and then of what they added, is read of the history after them
pub seen_after : (P Q : History → Type 0) (t : Setting) (h : History) (lines : List Line) (entries : List Entry) → entries ≡ reverse (followed_all t h lines)
    → ((first more : History) → entries ≡ reverse (more ++ first) → P first → Q (more ++ first)) → P h → Q (followed_all t h lines)
seen_after P Q t h lines entries are caught seen =
    let later = lines_go_on t h lines in
    subst Q (sym later.is) (caught h later.more (are ∙ ap (λ (here : History). reverse here) later.is) seen)
