-- Which lines a pass lists, and what they give.
use Rattle.std.proofs.Common.{◌≡◌, ℕ, zero, suc, ◌+◌, ◌<◌, ◌==◌, Bool, true, false, not, ◌&&◌, Option, Some, None, List, [], ◌∷◌, ◌++◌, length, refl, sym, ap, subst, arith, inl, inr, ◌⊎◌}
use Rattle.std.specs.Prelude.{slice_get, if◌then◌else◌}
use Rattle.std.specs.Option.{option_map}
use Rattle.std.proofs.lemmas.Bool.{cases_Bool, eqb-true, eqb-false}
use Rattle.std.proofs.lemmas.Option.{same_Some}
use Rattle.ov_base.specs.Word.{◌>>=◌}
use Rattle.ov_functor.specs.declared.reply.Reply.{Reply}
use Rattle.ov_functor.specs.Windows.{Among}
use Rattle.ov_functor.proofs.Among.{among_front, among_back, among_either}
use Rattle.ov_topology.specs.declared.actor.Actor.{Actor}
use Rattle.ov_topology.specs.declared.actor.Actor.TheVariants.{Gate, Node, Settler}
use Rattle.ov_topology.specs.declared.place.Place.{Place}
use Rattle.ov_event.specs.Letters.{is_in, is_for}
use Rattle.ov_event.specs.declared.entry.Entry.{Entry}
use Rattle.ov_event.specs.declared.kind.Kind.{Kind}
use Rattle.ov_event.specs.declared.kind.Kind.TheVariants as kinds
use Rattle.ov_event.specs.declared.letter.Letter.{Letter}
use Rattle.ov_event.specs.declared.letter.Letter.TheVariants as letters
use Rattle.ov_history.specs.Past.{History, at, stopped}
use Rattle.ov_history.proofs.Past.{at_older}
use Rattle.ov_laws.proofs.History.Earlier.{at_newest}
use Rattle.ov_history.specs.Letters.{letter}
use Rattle.ov_history.specs.May.{Setting}
use Rattle.ov_history.specs.Gives.{Act, Take, gives, acts, takes, takes_as, gate_takes, node_takes, settler_takes, is_open, is_current, reply_to}
use Rattle.ov_history.specs.Nodes.{answer}
use Rattle.ov_history.specs.Settlers.{open_round}
use Rattle.ov_follow.specs.Lines.{Line}
use Rattle.ov_follow.specs.Passes.{gather, each, over, only, running, take, can}
use Rattle.ov_complete.specs.Stable.{GiveOnly, is_taking}
use Rattle.ov_complete.proofs.Keeping.{give_both}

-- ---- which lines are listed

-- the lines for an entry of the history are among those that are gathered
pub in_gather : (f : ℕ → Entry → List Line) (h : History) (k : ℕ) (e : Entry) (line : Line) → at h k ≡ Some e → Among line (f k e) → Among line (gather f h)
in_gather f [] k e line there among = absurd cc
in_gather f (first ∷ h) k e line there among = by (k == length h + 1) refl there (λ older. in_gather f h k e line older among)
  where
    by : (b : Bool) → (k == length h + 1) ≡ b → (if b then Some first else at h k) ≡ Some e → (at h k ≡ Some e → Among line (gather f h)) → Among line (gather f h ++ f (length h + 1) first)
    by true here is older =
        among_back line (gather f h) (f (length h + 1) first) (rw (sym (eqb-true k (length h + 1) here), same_Some first e is) among)
    by false here is older = among_front line (gather f h) (f (length h + 1) first) (older is)

-- the lines for a letter are among those for all letters
pub in_over : (f : ℕ → Letter → List Line) (number : ℕ) (sent : List Letter) (i : ℕ) (one : Letter) (line : Line) → slice_get sent i ≡ Some one
    → Among line (f (number + i) one) → Among line (over f number sent)
in_over f number [] i one line there among = absurd cc
in_over f number (first ∷ others) zero one line there among =
    let same : number + 0 ≡ number = omega arith in
    among_front line (f number first) (over f (number + 1) others)
    (subst (λ x. Among line (f number x)) (sym (same_Some first one there)) (subst (λ n. Among line (f n one)) same among))
in_over f number (first ∷ others) (suc i) one line there among =
    let same : number + suc i ≡ number + 1 + i = omega arith in
    among_back line (f number first) (over f (number + 1) others) (in_over f (number + 1) others i one line there (subst (λ n. Among line (f n one)) same among))

-- the lines for a number below are among those for each
pub in_each : (f : ℕ → List Line) (n k : ℕ) (line : Line) → k < n → Among line (f k) → Among line (each f n)
in_each f zero k line less among = absurd (omega (arith, less))
in_each f (suc n) k line less among =
    elim (cases_Bool (k == n)) [
      | inl same ↦ among_back line (each f n) (f n) (rw (sym (eqb-true k n same)) among)
      | inr other ↦
          let apart = eqb-false k n other in
          among_front line (each f n) (f n) (in_each f n k line (omega (arith, less, apart)) among)
    ]

-- the line of an actor that runs is listed
pub in_running : (h : History) (line : Line) → stopped line.actor h ≡ false → Among line (running h line)
in_running h line runs = rw runs (inl refl)

-- a line that can give an entry is listed
pub in_can : (t : Setting) (h : History) (line : Line) (e : Entry) → gives t h line.actor line.act ≡ Some e → Among line (can t h (Some line))
in_can t h line e some = rw some (inl refl)

-- the lines for the last letter are among those for all
pub in_over_last : (f : ℕ → Letter → List Line) (k : ℕ) (front : List Letter) (sent : Letter) (line : Line) → Among line (f (k + length front) sent)
    → Among line (over f k (front ++ sent ∷ []))
in_over_last f k [] sent line among = among_front line (f k sent) [] (subst (λ n. Among line (f n sent)) (omega arith) among)
in_over_last f k (one ∷ front) sent line among =
    among_back line (f k one) (over f (k + 1) (front ++ sent ∷ [])) (in_over_last f (k + 1) front sent line (subst (λ n. Among line (f n sent)) (omega arith) among))

-- ---- where listed lines come from

-- a line for each entry is one for an entry
pub from_gather : (f : ℕ → Entry → List Line) (h : History) (line : Line) → Among line (gather f h) → (k : ℕ) × (e : Entry) × (at h k ≡ Some e) × Among line (f k e)
from_gather f [] line among = absurd among
from_gather f (e ∷ h) line among = by (among_either line (gather f h) (f (length h + 1) e) among) (from_gather f h line)
  where
    by : Among line (gather f h) ⊎ Among line (f (length h + 1) e) → (Among line (gather f h) → (k : ℕ) × (one : Entry) × (at h k ≡ Some one) × Among line (f k one))
        → (k : ℕ) × (one : Entry) × (at (e ∷ h) k ≡ Some one) × Among line (f k one)
    by (inl older) rest = let found = rest older in (found.0, found.1, at_older h found.0 found.1 e found.2, found.3)
    by (inr new) rest = (length h + 1, e, at_newest h e, new)

-- a line for each number is one for a number below
pub from_each : (f : ℕ → List Line) (n : ℕ) (line : Line) → Among line (each f n) → (k : ℕ) × (k < n) × Among line (f k)
from_each f zero line among = absurd among
from_each f (suc n) line among = by (among_either line (each f n) (f n) among) (from_each f n line)
  where
    by : Among line (each f n) ⊎ Among line (f n) → (Among line (each f n) → (k : ℕ) × (k < n) × Among line (f k)) → (k : ℕ) × (k < suc n) × Among line (f k)
    by (inl lower) rest = let found = rest lower in let less : found.0 < n = found.1 in (found.0, omega (arith, less), found.2)
    by (inr here) rest = (n, omega arith, here)

-- a line under a test
pub from_only : (b : Bool) (one line : Line) → Among line (only b one) → (b ≡ true) × (line ≡ one)
from_only true one line (inl same) = (refl, same)
from_only true one line (inr among) = absurd among
from_only false one line among = absurd among

-- lines under a test
pub from_if : (b : Bool) (lines : List Line) (line : Line) → Among line (if b then lines else []) → Among line lines
from_if true lines line among = among
from_if false lines line among = absurd among

-- ---- what lines give

-- lines for each entry give what each of them gives
pub give_gather : (t : Setting) (test : Entry → Bool) (f : ℕ → Entry → List Line) (h : History) → ((k : ℕ) (e : Entry) → GiveOnly t test (f k e)) → GiveOnly t test (gather f h)
give_gather t test f [] gives = tt
give_gather t test f (e ∷ h) gives = give_both t test (gather f h) (f (length h + 1) e) (give_gather t test f h gives) (gives (length h + 1) e)

-- lines for each number give what each of them gives
pub give_each : (t : Setting) (test : Entry → Bool) (f : ℕ → List Line) (n : ℕ) → ((k : ℕ) → GiveOnly t test (f k)) → GiveOnly t test (each f n)
give_each t test f zero gives = tt
give_each t test f (suc n) gives = give_both t test (each f n) (f n) (give_each t test f n gives) (gives n)

-- lines for each letter give what each of them gives
pub give_over : (t : Setting) (test : Entry → Bool) (f : ℕ → Letter → List Line) (k : ℕ) (sent : List Letter) → ((k : ℕ) (one : Letter) → GiveOnly t test (f k one)) → GiveOnly t test (over f k sent)
give_over t test f k [] gives = tt
give_over t test f k (one ∷ sent) gives = give_both t test (f k one) (over f (k + 1) sent) (gives k one) (give_over t test f (k + 1) sent gives)

-- a line that is listed under a test gives what it gives
pub give_only : (t : Setting) (test : Entry → Bool) (b : Bool) (line : Line) → ((h : History) (e : Entry) → gives t h line.actor line.act ≡ Some e → test e ≡ true) → GiveOnly t test (only b line)
give_only t test true line gives = (gives, tt)
give_only t test false line gives = tt

-- lines under a test
pub give_if : (t : Setting) (test : Entry → Bool) (b : Bool) (lines : List Line) → GiveOnly t test lines → GiveOnly t test (if b then lines else [])
give_if t test true lines gives = gives
give_if t test false lines gives = tt

pub give_unless : (t : Setting) (test : Entry → Bool) (b : Bool) (lines : List Line) → GiveOnly t test lines → GiveOnly t test (if b then [] else lines)
give_unless t test true lines gives = tt
give_unless t test false lines gives = gives

-- ---- what taking a letter gives

-- whether an entry takes a letter
abbrev pub takes_letter : Entry → Bool
takes_letter e = is_taking e.kind

-- what an actor makes of a letter takes it
gate_takes_only : (t : Setting) (h : History) (g : ℕ) (place : Place) (sent : Letter) (kind : Kind) → gate_takes t h g place sent ≡ Some kind → is_taking kind ≡ true
gate_takes_only t h g place (letters.Ack version c p) kind is = rw (sym (same_Some (kinds.Acked place version c p) kind is)) refl
gate_takes_only t h g place (letters.Gossip sender vector) kind is = rw (sym (same_Some (kinds.Heard place vector) kind is)) refl
gate_takes_only t h g place (letters.Result s c gate reply) kind is = by (is_open t h g s c) is
  where
    by : (b : Bool) → (if b then Some (kinds.Replied place s c reply) else None) ≡ Some kind → is_taking kind ≡ true
    by true is = rw (sym (same_Some (kinds.Replied place s c reply) kind is)) refl
    by false is = absurd cc
gate_takes_only t h g place (letters.Told s c sender) kind is = rw (sym (same_Some (kinds.Told place s c) kind is)) refl
gate_takes_only t h g place other kind is = absurd cc

node_takes_only : (h : History) (c p : ℕ) (place : Place) (sent : Letter) (kind : Kind) → node_takes h c p place sent ≡ Some kind → is_taking kind ≡ true
node_takes_only h c p place (letters.Write version part items) kind is = rw (sym (same_Some (kinds.Stored place version items) kind is)) refl
node_takes_only h c p place (letters.Ask settler round mode from below) kind is = rw (sym (same_Some (kinds.Answered place settler round (answer c p from below h)) kind is)) refl
node_takes_only h c p place other kind is = absurd cc

settler_takes_only : (h : History) (s : ℕ) (place : Place) (sent : Letter) (kind : Kind) → settler_takes h s place sent ≡ Some kind → is_taking kind ≡ true
settler_takes_only h s place (letters.Gossip sender vector) kind is = rw (sym (same_Some (kinds.Heard place vector) kind is)) refl
settler_takes_only h s place (letters.Answer settler round c p items) kind is = by (is_current (open_round s h) round) is
  where
    by : (b : Bool) → (if b then Some (kinds.Taken place round c p items) else None) ≡ Some kind → is_taking kind ≡ true
    by true is = rw (sym (same_Some (kinds.Taken place round c p items) kind is)) refl
    by false is = absurd cc
settler_takes_only h s place (letters.Want session seq gate start) kind is = by (reply_to h s start) is
  where
    by : (o : Option Reply) → (o >>= λ reply. Some (kinds.Resulted place session seq gate reply)) ≡ Some kind → is_taking kind ≡ true
    by (Some reply) is = rw (sym (same_Some (kinds.Resulted place session seq gate reply) kind is)) refl
    by None is = absurd cc
settler_takes_only h s place other kind is = absurd cc

takes_as_only : (t : Setting) (h : History) (a : Actor) (place : Place) (sent : Letter) (kind : Kind) → takes_as t h a place sent ≡ Some kind → is_taking kind ≡ true
takes_as_only t h (Gate g) place sent kind is = gate_takes_only t h g place sent kind is
takes_as_only t h (Node c p) place sent kind is = node_takes_only h c p place sent kind is
takes_as_only t h (Settler s) place sent kind is = settler_takes_only h s place sent kind is

takes_only : (t : Setting) (h : History) (a : Actor) (place : Place) (kind : Kind) → takes t h a place ≡ Some kind → is_taking kind ≡ true
takes_only t h a place kind is = by (letter t.topology h place) is
  where
    by_for : (sent : Letter) (b : Bool) → (if b then takes_as t h a place sent else None) ≡ Some kind → is_taking kind ≡ true
    by_for sent true is = takes_as_only t h a place sent kind is
    by_for sent false is = absurd cc

    by : (o : Option Letter) → (o >>= λ sent. if is_for t.topology sent a then takes_as t h a place sent else None) ≡ Some kind → is_taking kind ≡ true
    by (Some sent) is = by_for sent (is_for t.topology sent a) is
    by None is = absurd cc

-- an entry that is given is of the kind that its actor makes
pub given_kind : (t : Setting) (h : History) (a : Actor) (act : Act) (e : Entry) → gives t h a act ≡ Some e → acts t h a act ≡ Some e.kind
given_kind t h a act e is = by_test (is_in t.topology a && not (stopped a h)) is
  where
    by : (o : Option Kind) → option_map (λ kind. record { actor = a; kind = kind }) o ≡ Some e → o ≡ Some e.kind
    by (Some kind) is = ap Some (ap (λ (e : Entry). e.kind) (same_Some (record { actor = a; kind = kind }) e is))
    by None is = absurd cc

    by_test : (b : Bool) → (if b then option_map (λ kind. record { actor = a; kind = kind }) (acts t h a act) else None) ≡ Some e → acts t h a act ≡ Some e.kind
    by_test true is = by (acts t h a act) is
    by_test false is = absurd cc

-- whoever takes a letter makes an entry of that
pub take_takes : (t : Setting) (h : History) (a : Actor) (number place : ℕ) (e : Entry) → gives t h a (take a number place).act ≡ Some e → takes_letter e ≡ true
take_takes t h a number place e is = takes_only t h a (record { entry = number; letter = place }) e.kind (given_kind t h a (Take (record { entry = number; letter = place })) e is)

-- the line of taking a letter, where its actor runs
pub give_take : (t : Setting) (h : History) (a : Actor) (number place : ℕ) → GiveOnly t takes_letter (running h (take a number place))
give_take t h a number place = give_only t takes_letter (not (stopped a h)) (take a number place) (λ x e is. take_takes t x a number place e is)
