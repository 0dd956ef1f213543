-- What wants a reply: of one entry more, and of what is still to be replied.
use Rattle.std.proofs.Common.{◌≡◌, ℕ, suc, ◌+◌, Bool, true, false, not, ◌||◌, Option, List, [], ◌∷◌, ◌++◌, length, map, refl, sym, ap, ◌∙◌, arith}
use Rattle.std.specs.Prelude.{if◌then◌else◌}
use Rattle.std.specs.List.{filter}
use Rattle.std.proofs.lemmas.List.Elements.{filter-append}
use Rattle.ov_functor.specs.declared.part.Part.{Part}
use Rattle.ov_topology.specs.Shape.{Shape}
use Rattle.ov_topology.specs.declared.actor.Actor.{Actor}
use Rattle.ov_topology.specs.declared.actor.Actor.TheVariants.{Gate, Node, Settler}
use Rattle.ov_event.specs.Letters.{write_of, touched, writes_of, gate_letter, last_of, listed, letters_of}
use Rattle.ov_event.specs.declared.entry.Entry.{Entry}
use Rattle.ov_event.specs.declared.kind.Kind.{Kind}
use Rattle.ov_event.specs.declared.kind.Kind.TheVariants.{Began}
use Rattle.ov_event.specs.declared.letter.Letter.{Letter}
use Rattle.ov_event.specs.declared.start.Start.TheVariants.{Draw, Look}
use Rattle.ov_history.specs.Past.{History}
use Rattle.ov_history.specs.Marks.{replies}
use Rattle.ov_follow.specs.Passes.{is_replied}
use Rattle.ov_step.specs.Wants.{wants_over, wants_of, is_wanting, AreWants}
use Rattle.ov_step.specs.declared.wants.Want.{Want}

-- ---- what passes two tests

-- of what passes a test that is no stronger, the same passes
filter_within : {X : Type 0} (f g : X → Bool) (xs : List X) → ((x : X) → f x ≡ true → g x ≡ true) → filter f (filter g xs) ≡ filter f xs
filter_within f g [] weaker = refl
filter_within f g (x ∷ xs) weaker = by (g x) (f x) refl (weaker x) (filter_within f g xs weaker)
  where
    by : (b c : Bool) → f x ≡ c → (c ≡ true → b ≡ true) → filter f (filter g xs) ≡ filter f xs
        → filter f (if b then x ∷ filter g xs else filter g xs) ≡ (if c then x ∷ filter f xs else filter f xs)
    by true true is less rest = rw (is, rest) refl
    by true false is less rest = rw (is, rest) refl
    by false true is less rest = let no : false ≡ true = less refl in absurd cc
    by false false is less rest = rest

-- what is to be replied after an entry more was to be replied before it
wanting_before : (h : History) (e : Entry) (want : Want) → is_wanting (e ∷ h) want ≡ true → is_wanting h want ≡ true
wanting_before h e want = by (replies want.session want.seq e.kind) (is_replied want.session want.seq h)
  where
    by : (b c : Bool) → not (b || c) ≡ true → not c ≡ true
    by true c is = absurd cc
    by false c is = is

-- ---- what of an entry wants a reply

-- what of letters behind writes wants a reply
behind_writes : (t : Shape) (number place version : ℕ) (transaction : List Part) (parts : List ℕ) (others : List Letter)
    → wants_over t number place (map (write_of t version transaction) parts ++ others)
    ≡ wants_over t number (place + length (map (write_of t version transaction) parts)) others
behind_writes t number place version transaction [] others = let same : place ≡ place + 0 = omega arith in ap (λ (n : ℕ). wants_over t number n others) same
behind_writes t number place version transaction (part ∷ parts) others =
    let same : (place + 1) + length (map (write_of t version transaction) parts) ≡ place + suc (length (map (write_of t version transaction) parts)) = omega arith in
    behind_writes t number (place + 1) version transaction parts others ∙ ap (λ (n : ℕ). wants_over t number n others) same

-- what of an entry wants a reply is its last letter
pub wants_of_entry : (t : Shape) (number : ℕ) (actor : Actor) (kind : Kind)
    → wants_over t number (length (writes_of t actor kind) + 1) (listed (last_of actor kind))
    ≡ wants_over t number 1 (letters_of t (record { actor = actor; kind = kind }))
wants_of_entry t number (Gate g) (Began s c (Draw version transaction)) =
    let same : length (map (write_of t version transaction) (touched t transaction)) + 1 ≡ 1 + length (map (write_of t version transaction) (touched t transaction)) = omega arith in
    ap (λ (n : ℕ). wants_over t number n (listed (last_of (Gate g) (Began s c (Draw version transaction))))) same
    ∙ sym (behind_writes t number 1 version transaction (touched t transaction) (listed (last_of (Gate g) (Began s c (Draw version transaction)))))
wants_of_entry t number (Gate g) (Began s c (Look least keys)) = refl
wants_of_entry t number (Gate g) kind = refl
wants_of_entry t number (Node c p) kind = refl
wants_of_entry t number (Settler s) kind = refl

-- what of a gateway's entry wants a reply
pub wants_of_gate : (t : Shape) (number : ℕ) (e : Entry) (g writes : ℕ) (found : List Want) → e.actor ≡ Gate g → writes ≡ length (writes_of t e.actor e.kind)
    → found ≡ wants_over t number (writes + 1) (listed (gate_letter g e.kind)) → found ≡ wants_over t number 1 (letters_of t e)
wants_of_gate t number e g writes found is count are =
    are
    ∙ ap (λ (n : ℕ). wants_over t number (n + 1) (listed (gate_letter g e.kind))) count
    ∙ ap (λ (last : Option Letter). wants_over t number (length (writes_of t e.actor e.kind) + 1) (listed last)) (sym (ap (λ (a : Actor). last_of a e.kind) is))
    ∙ wants_of_entry t number e.actor e.kind

-- ---- what is kept of what wants a reply

-- with what of an entry more wants a reply, it is that of the history with the entry
pub wants_noted : (t : Shape) (h : History) (e : Entry) (number : ℕ) (more old new : List Want) → more ≡ wants_over t number 1 (letters_of t e)
    → new ≡ old ++ more → number ≡ length h + 1 → AreWants t h old → AreWants t (e ∷ h) new
wants_noted t h e number more old new are next at wants =
    let here : filter (is_wanting (e ∷ h)) old ≡ filter (is_wanting (e ∷ h)) (wants_of t h) =
    sym (filter_within (is_wanting (e ∷ h)) (is_wanting h) old (wanting_before h e))
    ∙ ap (λ (kept : List Want). filter (is_wanting (e ∷ h)) kept) wants
    ∙ filter_within (is_wanting (e ∷ h)) (is_wanting h) (wants_of t h) (wanting_before h e) in
    rw (
      next,
      are,
      at,
      filter-append (is_wanting (e ∷ h)) old (wants_over t (length h + 1) 1 (letters_of t e)),
      filter-append (is_wanting (e ∷ h)) (wants_of t h) (wants_over t (length h + 1) 1 (letters_of t e)),
      here,
    ) refl

-- where those are dropped that are replied, it is still that of the history
pub wants_dropped : (t : Shape) (h : History) (wants : List Want) → AreWants t h wants → AreWants t h (filter (is_wanting h) wants)
wants_dropped t h wants are = filter_within (is_wanting h) (is_wanting h) wants (λ want is. is) ∙ are
