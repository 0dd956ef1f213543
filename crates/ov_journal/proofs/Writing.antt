-- What a sink holds as the lines of a journal are put to it.
use Rattle.std.proofs.Common.{◌≡◌, ℕ, ◌+◌, ◌<◌, List, [], ◌∷◌, ◌++◌, length, get_or, take, Option, Result, Ok, Err, OnOk, OnErr, sym, ap, subst, ◌∙◌, append_assoc}
use Rattle.std.specs.List.{flat_map}
use Rattle.std.proofs.lemmas.List.{append-nil, take_more}
use Rattle.std.proofs.lemmas.Grind.{flat_map-append}
use Rattle.ov_base.specs.Lines.{lines_text}
use Rattle.ov_event.specs.declared.entry.Entry.{Entry}
use Rattle.ov_io.specs.Causes.{Wrote, WroteFront}
use Rattle.ov_io.proofs.Sinks.{wrote_both}
use Rattle.ov_journal.specs.Line.{entry_text}

-- the line of an entry, with its line feed
abbrev pub ended : Entry → List ℕ
ended entry = entry_text entry ++ 10 ∷ []

-- one line more was put
pub wrote_next : (entries : List Entry) (i : ℕ) (entry : Entry) (old mid new : Option (List ℕ)) → i < length entries → entry ≡ get_or entries i entry
    → Wrote old mid (lines_text entry_text (take i entries)) → Wrote mid new (ended entry) → Wrote old new (lines_text entry_text (take (i + 1) entries))
wrote_next entries i entry old mid new lt at wrote next =
    let text : lines_text entry_text (take (i + 1) entries) ≡ lines_text entry_text (take i entries) ++ ended entry =
    ap (flat_map ended) (take_more entries i entry lt)
    ∙ flat_map-append ended (take i entries) (get_or entries i entry ∷ [])
    ∙ ap (λ (t : List ℕ). lines_text entry_text (take i entries) ++ t) (append-nil (ended (get_or entries i entry)) ∙ ap ended (sym at)) in
    subst (Wrote old new) (sym text) (wrote_both old mid new (lines_text entry_text (take i entries)) (ended entry) wrote next)

-- a text was put, and behind it another
pub put_behind : {T E : Type 0} (r : Result T E) (old mid new : Option (List ℕ)) (front back : List ℕ) → Wrote old mid front
    → OnOk r (Wrote mid new back) → OnOk r (Wrote old new (front ++ back))
put_behind (Ok done) old mid new front back wrote h = wrote_both old mid new front back wrote h
put_behind (Err error) old mid new front back wrote h = tt

-- a text was put, and behind it a prefix of another
pub front_behind : {T E : Type 0} (r : Result T E) (old mid new : Option (List ℕ)) (front back : List ℕ) → Wrote old mid front
    → OnErr r (WroteFront mid new back) → OnErr r (WroteFront old new (front ++ back))
front_behind (Ok done) old mid new front back wrote h = tt
front_behind (Err error) old mid new front back wrote h = (
  front ++ h.0,
  h.1,
  ap (λ (t : List ℕ). front ++ t) h.2 ∙ sym (append_assoc front h.0 h.1),
  wrote_both old mid new front h.0 wrote h.3,
)

-- a prefix of a text is one of that text with more behind it
pub front_before : (old new : Option (List ℕ)) (front back : List ℕ) → WroteFront old new front → WroteFront old new (front ++ back)
front_before old new front back h = (h.0, h.1 ++ back, ap (λ (t : List ℕ). t ++ back) h.2 ∙ append_assoc h.0 h.1 back, h.3)
