-- Answers to a settler's open round: none stands before the entry that asked for it.
use Rattle.std.proofs.Common.{◌≡◌, ℕ, ◌+◌, ◌≤◌, ◌<◌, Bool, true, false, Option, Some, None, List, [], ◌∷◌, ◌++◌, length, refl, sym, ap, subst, ◌∙◌, arith, inl, inr}
use Rattle.std.proofs.Math.ListN as lists
use Rattle.std.specs.Prelude.{reverse, if◌then◌else◌}
use Rattle.std.specs.Option.{option_map}
use Rattle.std.proofs.lemmas.Bool.{cases_Bool}
use Rattle.std.proofs.lemmas.Grind.{common_steps}
use Rattle.std.proofs.lemmas.List.{take-append-drop, length-reverse, length-take, reverse-reverse, reverse-append}
use Rattle.ov_topology.specs.declared.actor.Actor.{Actor}
use Rattle.ov_topology.specs.declared.actor.Actor.TheVariants.{Gate, Node, Settler}
use Rattle.ov_event.specs.Letters.{is_settler}
use Rattle.ov_event.specs.declared.entry.Entry.{Entry}
use Rattle.ov_event.specs.declared.kind.Kind.{Kind}
use Rattle.ov_event.specs.declared.kind.Kind.TheVariants as kinds
use Rattle.ov_history.specs.Past.{History, at, before}
use Rattle.ov_history.specs.Settlers.{Round, opened, open_round, asks}
use Rattle.ov_history.specs.May.{Setting, Lawful, MayAnswer}
use Rattle.ov_history.proofs.Past.{lawful_at, at_most, at_older}
use Rattle.ov_follow.specs.Lines.{Line}
use Rattle.ov_follow.specs.Passes.{gather, is_to, last_asked}
use Rattle.ov_laws.proofs.History.Earlier.{at_newest, at_after, before_length}
use Rattle.ov_laws.proofs.Windows.Rounds.{asked_by, settler_is, question}
use Rattle.ov_step.specs.Rounds.{kept_round}
use Rattle.ov_step.specs.declared.rounds.OpenRound.{OpenRound}
use Rattle.ov_step.proofs.Listing.{takings, none_behind}

-- ---- the entry that asked for an open round

-- the last entry of the settler that asks asked for its open round
last_asked_is : (h : History) (s : ℕ) (round : Round) → open_round s h ≡ Some round → at h (last_asked s h) ≡ Some (asked_by s round)
last_asked_is [] s round is = absurd (cc)
last_asked_is (e ∷ h) s round is = by (is_settler s e.actor) refl is (λ old. at_older h (last_asked s h) (asked_by s round) e (last_asked_is h s round old))
  where
    of : (k : Kind) → e.kind ≡ k → e.actor ≡ Settler s → opened k (open_round s h) ≡ Some round → (open_round s h ≡ Some round → at (e ∷ h) (last_asked s h) ≡ Some (asked_by s round))
        → at (e ∷ h) (if asks k then length h + 1 else last_asked s h) ≡ Some (asked_by s round)
    of (kinds.Asked number mode from below) kind_is actor_is new later =
        let same : ◌≡◌ {A = Round} (record { number = number; mode = mode; from = from; below = below }) round = cc in
        let entry_is : e ≡ asked_by s (record { number = number; mode = mode; from = from; below = below }) = λ i. record { actor = actor_is i; kind = kind_is i } in
        at_newest h e ∙ ap (λ (one : Entry). Some one) (entry_is ∙ ap (λ (one : Round). asked_by s one) same)
    of (kinds.Settled values) kind_is actor_is new later = absurd (cc)
    of k kind_is actor_is old later = later old

    by : (b : Bool) → is_settler s e.actor ≡ b → (if b then opened e.kind (open_round s h) else open_round s h) ≡ Some round
        → (open_round s h ≡ Some round → at (e ∷ h) (last_asked s h) ≡ Some (asked_by s round))
        → at (e ∷ h) (if (if b then asks e.kind else false) then length h + 1 else last_asked s h) ≡ Some (asked_by s round)
    by true own new later = of e.kind refl (settler_is s e.actor own) new later
    by false other old later = later old

-- an answer to the open round stands behind the entry that asked for it
answer_is_later : (t : Setting) (h : History) (s : ℕ) (round : Round) (i : ℕ) (e : Entry) → Lawful t h → open_round s h ≡ Some round → at h i ≡ Some e
    → is_to s (Some round) e.kind ≡ true → last_asked s h < i
answer_is_later t h s round i e lawful current there answers = by e.actor e.kind there answers
  where
    by : (a : Actor) (k : Kind) → at h i ≡ Some (record { actor = a; kind = k }) → is_to s (Some round) k ≡ true → last_asked s h < i
    by (Node c p) (kinds.Answered place settler number items) here is =
        let may : MayAnswer t.topology (before i h) place c p settler number items = (lawful_at t h i (record { actor = Node c p; kind = kinds.Answered place settler number items }) lawful here).guard in
        let settler_same : settler ≡ s = grind (arith, common_steps) in
        let number_same : number ≡ round.number = grind (arith, common_steps) in
        let asked : MayAnswer t.topology (before i h) place c p s round.number items =
        subst (λ n. MayAnswer t.topology (before i h) place c p s n items) number_same (subst (λ n. MayAnswer t.topology (before i h) place c p n number items) settler_same may) in
        let found = question t h (last_asked s h) i s round c p place items lawful (last_asked_is h s round current) asked in
        let within : place.entry ≤ length (before i h) = at_most (before i h) place.entry (asked_by s (record { number = round.number; mode = asked.mode; from = asked.from; below = asked.below })) found.asked in
        let past : length (before i h) + 1 ≡ i = before_length h i (record { actor = Node c p; kind = kinds.Answered place settler number items }) here in
        let same : place.entry ≡ last_asked s h = found.same in
        omega (arith, within, past, same)
    by (Gate g) (kinds.Answered place settler number items) here is =
        absurd ((lawful_at t h i (record { actor = Gate g; kind = kinds.Answered place settler number items }) lawful here).guard)
    by (Settler z) (kinds.Answered place settler number items) here is =
        absurd ((lawful_at t h i (record { actor = Settler z; kind = kinds.Answered place settler number items }) lawful here).guard)
    by a k here is = absurd (cc)

-- ---- the first entries of a history

-- lines of entries that have none
gather_none : (f : ℕ → Entry → List Line) (h : History) → ((i : ℕ) (e : Entry) → at h i ≡ Some e → f i e ≡ []) → gather f h ≡ []
gather_none f [] none = refl
gather_none f (e ∷ h) none = rw (gather_none f h (λ i old there. none i old (at_older h i old e there)), none (length h + 1) e (at_newest h e)) refl

-- a history is some newer entries and its first ones
first_behind : (h : History) (n : ℕ) → reverse (lists.drop n (reverse h)) ++ reverse (lists.take n (reverse h)) ≡ h
first_behind h n =
    sym (reverse-append (lists.take n (reverse h)) (lists.drop n (reverse h))) ∙ ap (λ (entries : List Entry). reverse entries) (take-append-drop n (reverse h)) ∙ reverse-reverse h

-- no entry up to the one that asked for the open round answers it
pub early_none : (t : Setting) (h : History) (s : ℕ) (round : Round) → Lawful t h → open_round s h ≡ Some round
    → gather (takings h s) (reverse (lists.take (last_asked s h) (reverse h))) ≡ []
early_none t h s round lawful current = gather_none (takings h s) first none
  where
    first : History
    first = reverse (lists.take (last_asked s h) (reverse h))

    few : length first ≤ last_asked s h
    few = omega (arith, length-reverse (lists.take (last_asked s h) (reverse h)), length-take (last_asked s h) (reverse h))

    there : (i : ℕ) (e : Entry) → at first i ≡ Some e → at h i ≡ Some e
    there i e here = subst (λ (all : History). at all i ≡ Some e) (first_behind h (last_asked s h)) (at_after first (reverse (lists.drop (last_asked s h) (reverse h))) i e here)

    none : (i : ℕ) (e : Entry) → at first i ≡ Some e → takings h s i e ≡ []
    none i e here =
        elim (cases_Bool (is_to s (Some round) e.kind)) [
          | inl is ↦
              let later : last_asked s h < i = answer_is_later t h s round i e lawful current (there i e here) is in
              let within : i ≤ length first = at_most first i e here in
              absurd (omega (arith, later, within, few))
          | inr not ↦ rw (current, not) refl
        ]

-- ---- what is listed before the entry that asked

-- the round that is kept so
pub kept_is : (o : Option Round) (kept : OpenRound) → Some kept ≡ option_map kept_round o → (round : Round) × (o ≡ Some round) × (kept ≡ kept_round round)
kept_is None kept is = absurd (cc)
kept_is (Some round) kept is = let same : kept ≡ kept_round round = cc in (round, refl, same)

-- nothing is listed before the entry that asked for the open round
pub takings_begin : (t : Setting) (h : History) (s asked : ℕ) (kept : OpenRound) (old : List Line) → Lawful t h → asked ≡ last_asked s h → Some kept ≡ option_map kept_round (open_round s h)
    → old ≡ old ++ gather (takings h s) (reverse (lists.take asked (reverse h)))
takings_begin t h s asked kept old lawful last current =
    let found = kept_is (open_round s h) kept current in
    let none : gather (takings h s) (reverse (lists.take asked (reverse h))) ≡ [] = rw last (early_none t h s found.0 lawful found.1) in
    rw none (none_behind old)
