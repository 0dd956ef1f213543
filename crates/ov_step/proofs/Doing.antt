-- What entries do once and for all.
use Rattle.std.proofs.Common.{◌≡◌, ℕ, ◌%◌, ◌<◌, Bool, true, false, cond, ◌&&◌, ◌||◌, ◌==◌, Option, Some, None, unwrap_or, List, [], ◌∷◌, refl, sym, ap, ◌∙◌, arith, inl, inr}
use Rattle.std.specs.Prelude.{if◌then◌else◌}
use Rattle.std.specs.Map.{lookup}
use Rattle.std.proofs.Math.Bool.{or_comm}
use Rattle.std.proofs.lemmas.Bool.{and_parts, cases_Bool, eqb-true}
use Rattle.std.proofs.lemmas.Bool.Decides.{nat_tests}
use Rattle.std.proofs.lemmas.Grind.{common_steps}
use Rattle.ov_topology.specs.declared.actor.Actor.{Actor}
use Rattle.ov_topology.specs.declared.actor.Actor.TheVariants.{Gate, Node, Settler}
use Rattle.ov_event.specs.Letters.{is_gate}
use Rattle.ov_event.specs.declared.entry.Entry.{Entry}
use Rattle.ov_event.specs.declared.kind.Kind.{Kind}
use Rattle.ov_event.specs.declared.kind.Kind.TheVariants as kinds
use Rattle.ov_history.specs.Past.{History, is_node}
use Rattle.ov_history.specs.Marks.{replies}
use Rattle.ov_history.specs.Placement.{acks, acked}
use Rattle.ov_follow.specs.Passes.{tells, told, stores_from, stored_from, is_replied}
use Rattle.ov_step.specs.Deeds.{AllDone, deed_by, deed_of, is_done, number_of, numbers, same_subject, subject_of, with_one}
use Rattle.ov_step.specs.contracts.deeds.SubjectPartialEq.TheImpl.{ghosts}
use Rattle.ov_step.specs.declared.deeds.Deed.{Deed}
use Rattle.ov_step.specs.declared.deeds.Deed.TheVariants.{Told, Stored, Acked, Replied}
use Rattle.ov_step.specs.declared.deeds.Subject.{Subject}
use Rattle.ov_step.specs.declared.deeds.Subject.TheVariants.{Command, Letter, Version}
use Rattle.ov_base.specs.declared.small.SmallSet.{SmallSet}
use Rattle.ov_base.specs.Small.{empty_set, has, with_number}
use Rattle.ov_base.proofs.SmallSets.{empty_has, with_either}

-- ---- the subjects of deeds

-- the derived test is the one of the definitions
pub test_is : (one other : Subject) → ghosts.eq one other ≡ same_subject one other
test_is (Command s c b) (Command s2 c2 b2) = grind (arith, common_steps)
test_is (Command s c b) other = refl
test_is (Letter n l p b) (Letter n2 l2 p2 b2) = grind (arith, common_steps)
test_is (Letter n l p b) other = refl
test_is (Version g v p b) (Version g2 v2 p2 b2) = grind (arith, common_steps)
test_is (Version g v p b) other = refl

-- subjects that are tested alike are one
same_is : (one other : Subject) → same_subject one other ≡ true → one ≡ other
same_is (Command s c b) (Command s2 c2 b2) is =
    let parts = and_parts (s == s2) ((c == c2) && (b == b2)) is in
    let rest = and_parts (c == c2) (b == b2) parts.1 in
    rw (eqb-true s s2 parts.0, eqb-true c c2 rest.0, eqb-true b b2 rest.1) refl
same_is (Command s c b) other is = absurd (cc)
same_is (Letter n l p b) (Letter n2 l2 p2 b2) is =
    let parts = and_parts (n == n2) ((l == l2) && ((p == p2) && (b == b2))) is in
    let rest = and_parts (l == l2) ((p == p2) && (b == b2)) parts.1 in
    let last = and_parts (p == p2) (b == b2) rest.1 in
    rw (eqb-true n n2 parts.0, eqb-true l l2 rest.0, eqb-true p p2 last.0, eqb-true b b2 last.1) refl
same_is (Letter n l p b) other is = absurd (cc)
same_is (Version g v p b) (Version g2 v2 p2 b2) is =
    let parts = and_parts (g == g2) ((v == v2) && ((p == p2) && (b == b2))) is in
    let rest = and_parts (v == v2) ((p == p2) && (b == b2)) parts.1 in
    let last = and_parts (p == p2) (b == b2) rest.1 in
    rw (eqb-true g g2 parts.0, eqb-true v v2 rest.0, eqb-true p p2 last.0, eqb-true b b2 last.1) refl
same_is (Version g v p b) other is = absurd (cc)

-- whether two deeds are one
abbrev same_deed : Deed → Deed → Bool
same_deed (Told g s c) (Told g2 s2 c2) = (g == g2) && ((s == s2) && (c == c2))
same_deed (Stored n l c p) (Stored n2 l2 c2 p2) = (n == n2) && ((l == l2) && ((c == c2) && (p == p2)))
same_deed (Acked g v c p) (Acked g2 v2 c2 p2) = (g == g2) && ((v == v2) && ((c == c2) && (p == p2)))
same_deed (Replied s c) (Replied s2 c2) = (s == s2) && (c == c2)
same_deed one other = false

-- deeds are one where they have the same number among those of one subject
parts_are : (one other : Deed) → (same_subject (subject_of one) (subject_of other) && (number_of one == number_of other)) ≡ same_deed one other
parts_are (Told g s c) (Told g2 s2 c2) = grind (arith, nat_tests)
parts_are (Told g s c) (Replied s2 c2) = grind (arith, nat_tests)
parts_are (Told g s c) other = refl
parts_are (Stored n l c p) (Stored n2 l2 c2 p2) = grind (arith, nat_tests)
parts_are (Stored n l c p) other = refl
parts_are (Acked g v c p) (Acked g2 v2 c2 p2) = grind (arith, nat_tests)
parts_are (Acked g v c p) other = refl
parts_are (Replied s c) (Told g2 s2 c2) = grind (arith, nat_tests)
parts_are (Replied s c) (Replied s2 c2) = grind (arith, nat_tests)
parts_are (Replied s c) other = refl

-- ---- one entry more

-- whether what is done is the deed
abbrev does : Deed → Option Deed → Bool
does deed None = false
does deed (Some other) = same_deed other deed

-- a test that fails either way
either_fails : (b : Bool) → (if b then false else false) ≡ false
either_fails true = refl
either_fails false = refl

-- a test behind another one
both_pass : (a b : Bool) → (if a then b else false) ≡ (a && b)
both_pass true b = refl
both_pass false b = refl

-- tests in another order
four_pass : (a b x y : Bool) → (if if a then b else false then x && y else false) ≡ (x && (y && (a && b)))
four_pass true true true true = refl
four_pass true true true false = refl
four_pass true true false y = refl
four_pass true false true true = refl
four_pass true false true false = refl
four_pass true false false y = refl
four_pass false b true true = refl
four_pass false b true false = refl
four_pass false b false y = refl

-- who is told by an entry
told_done : (g s c : ℕ) (a : Actor) (k : Kind) → (if is_gate g a then tells s c k else false) ≡ does (Told g s c) (deed_by a k)
told_done g s c (Gate other) (kinds.Told place s2 c2) = both_pass (other == g) ((s2 == s) && (c2 == c))
told_done g s c (Gate other) kind = either_fails (other == g)
told_done g s c (Node d q) (kinds.Stored place version items) = refl
told_done g s c (Node d q) kind = refl
told_done g s c (Settler x) (kinds.Replied place s2 c2 reply) = refl
told_done g s c (Settler x) kind = refl

-- what is stored by an entry
stored_done : (n l c p : ℕ) (a : Actor) (k : Kind)
    → (if is_node c p a then stores_from (record { entry = n; letter = l }) k else false) ≡ does (Stored n l c p) (deed_by a k)
stored_done n l c p (Gate g) (kinds.Told place s2 c2) = refl
stored_done n l c p (Gate g) kind = refl
stored_done n l c p (Node d q) (kinds.Stored place version items) = four_pass (d == c) (q == p) (place.entry == n) (place.letter == l)
stored_done n l c p (Node d q) kind = either_fails (if d == c then q == p else false)
stored_done n l c p (Settler x) (kinds.Replied place s2 c2 reply) = refl
stored_done n l c p (Settler x) kind = refl

-- what is acknowledged by an entry
acked_done : (g v c p : ℕ) (a : Actor) (k : Kind) → (if is_gate g a then acks v c p k else false) ≡ does (Acked g v c p) (deed_by a k)
acked_done g v c p (Gate other) (kinds.Acked place version centre part) = both_pass (other == g) ((version == v) && ((centre == c) && (part == p)))
acked_done g v c p (Gate other) kind = either_fails (other == g)
acked_done g v c p (Node d q) (kinds.Stored place version items) = refl
acked_done g v c p (Node d q) kind = refl
acked_done g v c p (Settler x) (kinds.Replied place s2 c2 reply) = refl
acked_done g v c p (Settler x) kind = refl

-- what is replied by an entry
replied_done : (s c : ℕ) (a : Actor) (k : Kind) → replies s c k ≡ does (Replied s c) (deed_by a k)
replied_done s c (Gate g) (kinds.Told place s2 c2) = refl
replied_done s c (Gate g) kind = refl
replied_done s c (Node d q) (kinds.Stored place version items) = refl
replied_done s c (Node d q) kind = refl
replied_done s c (Settler x) (kinds.Replied place s2 c2 reply) = refl
replied_done s c (Settler x) kind = refl

-- what is done after one entry more is what that does, or was done before
done_more : (deed : Deed) (e : Entry) (h : History) → is_done deed (e ∷ h) ≡ (does deed (deed_of e) || is_done deed h)
done_more (Told g s c) e h = ap (λ (b : Bool). b || told g s c h) (told_done g s c e.actor e.kind)
done_more (Stored n l c p) e h = ap (λ (b : Bool). b || stored_from (Node c p) (record { entry = n; letter = l }) h) (stored_done n l c p e.actor e.kind)
done_more (Acked g v c p) e h = ap (λ (b : Bool). b || acked g v c p h) (acked_done g v c p e.actor e.kind)
done_more (Replied s c) e h = ap (λ (b : Bool). b || is_replied s c h) (replied_done s c e.actor e.kind)

-- ---- the deeds of a history

-- of the empty history
pub none_done : AllDone [] []
none_done (Told g s c) = empty_has (g % 32)
none_done (Stored n l c p) = empty_has (c % 32)
none_done (Acked g v c p) = empty_has (c % 32)
none_done (Replied s c) = empty_has 32

-- with an entry more that does nothing once and for all
pub same_done : (e : Entry) (known : List (Subject × SmallSet)) → deed_of e ≡ None → (h : History) → AllDone h known → AllDone (e ∷ h) known
same_done e known none h all deed = all deed ∙ sym (done_more deed e h ∙ ap (λ (o : Option Deed). does deed o || is_done deed h) none)

-- the numbers of a subject's deeds, by the derived test
numbers_are : (known : List (Subject × SmallSet)) (subject : Subject) → unwrap_or (lookup (ghosts.eq subject) known) empty_set ≡ numbers known subject
numbers_are [] subject = refl
numbers_are (e ∷ known) subject = rw (test_is subject e.0) (by (same_subject subject e.0) (numbers_are known subject))
  where
    by : (b : Bool) → unwrap_or (lookup (ghosts.eq subject) known) empty_set ≡ numbers known subject
        → unwrap_or (cond b (Some e.1) (lookup (ghosts.eq subject) known)) empty_set ≡ unwrap_or (cond b (Some e.1) (lookup (same_subject subject) known)) empty_set
    by true rest = refl
    by false rest = rest

-- what is known of each subject, where one number more was put to those of one
pub put_is : (one : Subject) (number : ℕ) (old new : List (Subject × SmallSet)) (other : Subject)
    → lookup (ghosts.eq other) new ≡ cond (ghosts.eq one other) (Some (with_number number (unwrap_or (lookup (ghosts.eq one) old) empty_set))) (lookup (ghosts.eq other) old)
    → numbers new other ≡ with_one one number old other
put_is one number old new other is =
    sym (numbers_are new other) ∙ rw (is, test_is one other, numbers_are old one) (by (same_subject one other))
  where
    by : (b : Bool)
        → unwrap_or (cond b (Some (with_number number (numbers old one))) (lookup (ghosts.eq other) old)) empty_set
        ≡ cond b (with_number number (numbers old one)) (numbers old other)
    by true = refl
    by false = numbers_are old other

-- where the number of a deed was put to those of its subject, a deed is known that is that one or was known
put_knows : (done deed : Deed) (known : List (Subject × SmallSet)) → number_of done < 64
    → has (with_one (subject_of done) (number_of done) known (subject_of deed)) (number_of deed) ≡ (same_deed done deed || has (numbers known (subject_of deed)) (number_of deed))
put_knows done deed known small =
    elim (cases_Bool (same_subject (subject_of done) (subject_of deed))) [
      | inl is ↦
          rw is (with_either (number_of done) (number_of deed) (numbers known (subject_of done)) small)
          ∙ or_comm (has (numbers known (subject_of done)) (number_of deed)) (number_of done == number_of deed)
          ∙ ap (λ (subject : Subject). (number_of done == number_of deed) || has (numbers known subject) (number_of deed)) (same_is (subject_of done) (subject_of deed) is)
          ∙ ap (λ (b : Bool). b || has (numbers known (subject_of deed)) (number_of deed)) (rw is at (parts_are done deed))
      | inr other ↦ rw other (ap (λ (b : Bool). b || has (numbers known (subject_of deed)) (number_of deed)) (rw other at (parts_are done deed)))
    ]

-- with an entry more that does a deed
pub more_done : (e : Entry) (done : Deed) (old new : List (Subject × SmallSet)) → deed_of e ≡ Some done → number_of done < 64
    → ((subject : Subject) → numbers new subject ≡ with_one (subject_of done) (number_of done) old subject)
    → (h : History) → AllDone h old → AllDone (e ∷ h) new
more_done e done old new some small is h all deed =
    ap (λ (s : SmallSet). has s (number_of deed)) (is (subject_of deed))
    ∙ put_knows done deed old small ∙ ap (λ (b : Bool). same_deed done deed || b) (all deed)
    ∙ sym (done_more deed e h ∙ ap (λ (o : Option Deed). does deed o || is_done deed h) some)
