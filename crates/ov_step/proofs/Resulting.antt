-- Wanted replies that are computed one after another: what cannot be computed cannot be after other results.
use Rattle.std.proofs.Common.{◌≡◌, ℕ, zero, suc, ◌+◌, ◌-◌, ◌<◌, ◌≤◌, ◌==◌, Bool, true, false, not, ◌&&◌, ◌||◌, Option, Some, None, List, [], ◌∷◌, ◌++◌, length, get_or, take, drop, refl, sym, ap, subst, ◌∙◌, arith}
use Rattle.std.specs.Prelude.{is_some, slice_get, if◌then◌else◌}
use Rattle.std.specs.List.{All, filter, flat_map}
use Rattle.std.specs.Option.{option_map}
use Rattle.std.proofs.lemmas.Bool.{ne_eqb, eq-eqb}
use Rattle.std.proofs.lemmas.Grind.{flat_map-append}
use Rattle.std.proofs.lemmas.List.{append-nil, flat_map_more, take_more, take_all, take-append-drop}
use Rattle.std.proofs.lemmas.List.Elements.{All-nil, All-cons, All-head, All-tail, All-append, All-weaker, All-take, All-get_or, All-filter}
use Rattle.ov_base.specs.Word.{◌>>=◌}
use Rattle.ov_functor.specs.declared.reply.Reply.{Reply}
use Rattle.ov_topology.specs.Shape.{Shape}
use Rattle.ov_topology.specs.declared.actor.Actor.TheVariants.{Settler}
use Rattle.ov_topology.specs.declared.place.Place.{Place}
use Rattle.ov_event.specs.Letters.{is_in, letters_of, letter_in}
use Rattle.ov_event.specs.declared.entry.Entry.{Entry}
use Rattle.ov_event.specs.declared.kind.Kind.{Kind}
use Rattle.ov_event.specs.declared.kind.Kind.TheVariants.{Resulted}
use Rattle.ov_event.specs.declared.letter.Letter.{Letter}
use Rattle.ov_event.specs.declared.letter.Letter.TheVariants as letters
use Rattle.ov_event.specs.declared.start.Start.{Start}
use Rattle.ov_event.specs.declared.start.Start.TheVariants.{Draw, Look}
use Rattle.ov_history.specs.Past.{History, stopped}
use Rattle.ov_history.specs.Letters.{letter}
use Rattle.ov_history.specs.Settlers.{settled, values_of}
use Rattle.ov_history.specs.May.{Setting}
use Rattle.ov_history.specs.Gives.{gives, reply_to}
use Rattle.ov_history.specs.Gives as acts
use Rattle.ov_history.specs.Cores.{onto}
use Rattle.ov_history.proofs.Stays.{letter-stays}
use Rattle.ov_follow.specs.Lines.{Line, followed, followed_all}
use Rattle.ov_follow.specs.Passes.{gather, over, only, can, is_replied, want_lines, results}
use Rattle.ov_follow.specs.Passes.{take as taking}
use Rattle.ov_world.specs.World.{WorldState, setting_of}
use Rattle.ov_step.specs.Followed.{Followed, FollowedInPart, with_history}
use Rattle.ov_step.specs.Wants.{wants_in, wants_over, wants_of, is_wanting, AreWants}
use Rattle.ov_step.specs.declared.wants.Want.{Want}
use Rattle.ov_follow.proofs.Following.{followed_behind}
use Rattle.ov_step.proofs.Passing.{unlisted_next}

-- ---- one more result, of a settler

module _ (h : History) (b : ℕ) (from : Place) (c d g : ℕ) (reply : Reply) where
  -- the history with the entry
  abbrev longer : History
  longer = record { actor = Settler b; kind = Resulted from c d g reply } ∷ h

  -- a settler that runs still runs
  stopped_same : (s : ℕ) → stopped (Settler s) longer ≡ stopped (Settler s) h
  stopped_same s = by (b == s)
    where
      by : (t : Bool) → ((if t then false else false) || stopped (Settler s) h) ≡ stopped (Settler s) h
      by true = refl
      by false = refl

  -- how far a settler has settled
  settled_same : (s : ℕ) → settled s longer ≡ settled s h
  settled_same s = by (b == s)
    where
      by : (t : Bool) → (if t then settled s h else settled s h) ≡ settled s h
      by true = refl
      by false = refl

  -- the values of a settler
  values_same : (s : ℕ) → values_of s longer ≡ values_of s h
  values_same s = by (b == s)
    where
      by : (t : Bool) → (if t then [] else []) ++ values_of s h ≡ values_of s h
      by true = refl
      by false = refl

  -- the reply that a settler can compute
  reply_same : (s : ℕ) (start : Start) → reply_to longer s start ≡ reply_to h s start
  reply_same s (Draw version transaction) = rw (settled_same s, values_same s) refl
  reply_same s (Look least keys) = rw (settled_same s, values_same s) refl

  -- what a settler gives for what wants a reply
  gives_same : (t : Setting) (s : ℕ) (place : Place) (one two gate : ℕ) (start : Start) → letter t.topology h place ≡ Some (letters.Want one two gate start)
      → gives t longer (Settler s) (acts.Take place) ≡ gives t h (Settler s) (acts.Take place)
  gives_same t s place one two gate start there =
      let still : letter t.topology longer place ≡ Some (letters.Want one two gate start) =
      letter-stays h (Settler b) (Resulted from c d g reply) t.topology place (letters.Want one two gate start) there in
      rw (stopped_same s, still, there, reply_same s start) refl

-- ---- lines by which settlers take what wants a reply

-- A line by which a settler takes what wants a reply.
record IsWanted (t : Shape) (h : History) (line : Line) : Type 0 where
  settler : ℕ
  place : Place
  session : ℕ
  seq : ℕ
  gate : ℕ
  start : Start
  is : line ≡ record { actor = Settler settler; act = acts.Take place }
  there : letter t h place ≡ Some (letters.Want session seq gate start)

-- what no result changes, such a line does not
result_onto : (P : History → Type 0) (t : Setting) (h : History) (line : Line) → IsWanted t.topology h line → P h
    → ((b : ℕ) (from : Place) (c d g : ℕ) (reply : Reply) → P (record { actor = Settler b; kind = Resulted from c d g reply } ∷ h)) → P (followed t h line)
result_onto P t h line wanted here more = subst (λ (l : Line). P (followed t h l)) (sym wanted.is)
    (rw wanted.there (by (is_in t.topology (Settler wanted.settler) && not (stopped (Settler wanted.settler) h)) (wanted.settler == get_or t.topology.gateways wanted.gate 0) (reply_to h wanted.settler wanted.start)))
  where
    by : (runs addressed : Bool) (o : Option Reply)
        → P (onto (if runs then option_map (λ (kind : Kind). record { actor = Settler wanted.settler; kind = kind }) (if addressed then (o >>= λ reply. Some (Resulted wanted.place wanted.session wanted.seq wanted.gate reply)) else None) else None) h)
    by true true (Some reply) = more wanted.settler wanted.place wanted.session wanted.seq wanted.gate reply
    by true true None = here
    by true false o = here
    by false addressed o = here

-- a letter stays at its place
letter_onto : (t : Shape) (answer : Option Entry) (h : History) (place : Place) (sent : Letter) → letter t h place ≡ Some sent → letter t (onto answer h) place ≡ Some sent
letter_onto t None h place sent there = there
letter_onto t (Some e) h place sent there = letter-stays h e.actor e.kind t place sent there

-- such a line is still one
wanted_onto : (t : Setting) (h : History) (other line : Line) → IsWanted t.topology h line → IsWanted t.topology (followed t h other) line
wanted_onto t h other line wanted = record {
  settler = wanted.settler;
  place = wanted.place;
  session = wanted.session;
  seq = wanted.seq;
  gate = wanted.gate;
  start = wanted.start;
  is = wanted.is;
  there = letter_onto t.topology (gives t h other.actor other.act) h wanted.place (letters.Want wanted.session wanted.seq wanted.gate wanted.start) wanted.there;
}

-- what a settler gives for what wants a reply, after such lines
gives_on : (t : Setting) (h : History) (lines : List Line) (s : ℕ) (place : Place) (one two gate : ℕ) (start : Start)
    → letter t.topology h place ≡ Some (letters.Want one two gate start) → All (IsWanted t.topology h) lines
    → gives t (followed_all t h lines) (Settler s) (acts.Take place) ≡ gives t h (Settler s) (acts.Take place)
gives_on t h [] s place one two gate start there wanted = refl
gives_on t h (line ∷ lines) s place one two gate start there wanted =
    gives_on t (followed t h line) lines s place one two gate start
    (letter_onto t.topology (gives t h line.actor line.act) h place (letters.Want one two gate start) there)
    (All-weaker (IsWanted t.topology h) (IsWanted t.topology (followed t h line)) (λ other is. wanted_onto t h line other is) lines (All-tail (IsWanted t.topology h) line lines wanted))
    ∙ result_onto (λ here. gives t here (Settler s) (acts.Take place) ≡ gives t h (Settler s) (acts.Take place)) t h line (All-head (IsWanted t.topology h) line lines wanted) refl
    (λ b from c d g reply. gives_same h b from c d g reply t s place one two gate start there)

-- ---- what the pass lists

-- the line by which its settler takes what wants a reply
abbrev pub want_line : Want → Line
want_line want = taking (Settler want.settler) want.entry want.letter

-- the lines for what wants a reply
abbrev pub computed : Setting → History → Want → List Line
computed t h want = if is_replied want.session want.seq h then [] else can t h (Some (want_line want))

-- the lines for a letter
lines_in : (t : Setting) (h : History) (number place : ℕ) (sent : Letter) → want_lines t h number place sent ≡ flat_map (computed t h) (wants_in t.topology number place sent)
lines_in t h number place (letters.Want s c g start) = sym (append-nil (want_lines t h number place (letters.Want s c g start)))
lines_in t h number place sent = refl

-- the lines for letters
lines_over : (t : Setting) (h : History) (number place : ℕ) (sent : List Letter)
    → over (want_lines t h number) place sent ≡ flat_map (computed t h) (wants_over t.topology number place sent)
lines_over t h number place [] = refl
lines_over t h number place (one ∷ sent) =
    rw (lines_in t h number place one, lines_over t h number (place + 1) sent)
    (sym (flat_map-append (computed t h) (wants_in t.topology number place one) (wants_over t.topology number (place + 1) sent)))

-- the lines for entries
lines_of : (t : Setting) (h entries : History)
    → gather (λ number e. over (want_lines t h number) 1 (letters_of t.topology e)) entries ≡ flat_map (computed t h) (wants_of t.topology entries)
lines_of t h [] = refl
lines_of t h (e ∷ entries) =
    rw (lines_of t h entries, lines_over t h (length entries + 1) 1 (letters_of t.topology e))
    (sym (flat_map-append (computed t h) (wants_of t.topology entries) (wants_over t.topology (length entries + 1) 1 (letters_of t.topology e))))

-- what is replied has no line
lines_wanting : (t : Setting) (h : History) (wants : List Want) → flat_map (computed t h) (filter (is_wanting h) wants) ≡ flat_map (computed t h) wants
lines_wanting t h [] = refl
lines_wanting t h (want ∷ wants) = by (is_replied want.session want.seq h) refl (lines_wanting t h wants)
  where
    by : (b : Bool) → is_replied want.session want.seq h ≡ b → flat_map (computed t h) (filter (is_wanting h) wants) ≡ flat_map (computed t h) wants
        → flat_map (computed t h) (if not b then want ∷ filter (is_wanting h) wants else filter (is_wanting h) wants)
        ≡ (if b then [] else can t h (Some (want_line want))) ++ flat_map (computed t h) wants
    by true is rest = rest
    by false is rest = rw (is, rest) refl

-- the lines of the pass are those for what is kept of what wants a reply
results_are : (t : Setting) (h : History) (wants : List Want) → AreWants t.topology h wants → results t h ≡ flat_map (computed t h) wants
results_are t h wants are =
    lines_of t h h
    ∙ sym (lines_wanting t h (wants_of t.topology h))
    ∙ ap (λ (kept : List Want). flat_map (computed t h) kept) (sym are)
    ∙ lines_wanting t h wants

-- ---- what wants a reply is a letter

-- What wants a reply is a letter of the history.
record IsLetter (t : Shape) (h : History) (want : Want) : Type 0 where
  gate : ℕ
  start : Start
  there : letter t h (record { entry = want.entry; letter = want.letter }) ≡ Some (letters.Want want.session want.seq gate start)

-- the letters of an entry, from one of a number on
abbrev AreFrom : Shape → Entry → ℕ → List Letter → Type 0
AreFrom t e place sent = (k : ℕ) → letter_in t e (place + k) ≡ slice_get sent k

-- what of the letters of an entry wants a reply is one of them
each_over : (t : Shape) (e : Entry) (h : History) (place : ℕ) (sent : List Letter) → AreFrom t e place sent
    → All (IsLetter t (e ∷ h)) (wants_over t (length h + 1) place sent)
each_over t e h place [] are = All-nil (IsLetter t (e ∷ h))
each_over t e h place (one ∷ sent) are =
    All-append (IsLetter t (e ∷ h)) (wants_in t (length h + 1) place one) (wants_over t (length h + 1) (place + 1) sent) (by one first)
    (each_over t e h (place + 1) sent (λ k. let same : (place + 1) + k ≡ place + suc k = omega arith in rw same (are (suc k))))
  where
    first : letter_in t e place ≡ Some one
    first = let same : place ≡ place + 0 = omega arith in rw same (are zero)

    by : (sent : Letter) → letter_in t e place ≡ Some sent → All (IsLetter t (e ∷ h)) (wants_in t (length h + 1) place sent)
    by (letters.Want s c g start) is =
        All-cons (IsLetter t (e ∷ h)) (record { entry = length h + 1; letter = place; settler = get_or t.gateways g 0; session = s; seq = c }) []
        (record { gate = g; start = start; there = rw (eq-eqb (length h + 1) (length h + 1) refl) is }) (All-nil (IsLetter t (e ∷ h)))
    by sent is = All-nil (IsLetter t (e ∷ h))

-- the letters of an entry are those from the first one on
from_first : (t : Shape) (e : Entry) → AreFrom t e 1 (letters_of t e)
from_first t e k =
    let same : (1 + k) - 1 ≡ k = omega arith in
    rw (ne_eqb (1 + k) 0 (λ none. absurd (omega (arith, none))), same) refl

-- what of a history wants a reply is a letter of it
each_letter : (t : Shape) (h : History) → All (IsLetter t h) (wants_of t h)
each_letter t [] = All-nil (IsLetter t [])
each_letter t (e ∷ h) =
    All-append (IsLetter t (e ∷ h)) (wants_of t h) (wants_over t (length h + 1) 1 (letters_of t e))
    (All-weaker (IsLetter t h) (IsLetter t (e ∷ h)) (λ want is. still want is) (wants_of t h) (each_letter t h))
    (each_over t e h 1 (letters_of t e) (from_first t e))
  where
    still : (want : Want) → IsLetter t h want → IsLetter t (e ∷ h) want
    still want is = record {
      gate = is.gate;
      start = is.start;
      there = letter-stays h e.actor e.kind t (record { entry = want.entry; letter = want.letter }) (letters.Want want.session want.seq is.gate is.start) is.there;
    }

-- what holds of each that passes a test
each_passing : {X : Type 0} (P : X → Type 0) (f : X → Bool) (xs : List X) → All P (filter f xs) → All (λ x. f x ≡ true → P x) xs
each_passing P f [] all = All-nil (λ x. f x ≡ true → P x)
each_passing P f (x ∷ xs) all = by (f x) refl all (λ rest. each_passing P f xs rest)
  where
    by : (b : Bool) → f x ≡ b → All P (if b then x ∷ filter f xs else filter f xs) → (All P (filter f xs) → All (λ x. f x ≡ true → P x) xs)
        → All (λ x. f x ≡ true → P x) (x ∷ xs)
    by true is all others = All-cons (λ x. f x ≡ true → P x) x xs (λ passes. All-head P x (filter f xs) all) (others (All-tail P x (filter f xs) all))
    by false is all others = All-cons (λ x. f x ≡ true → P x) x xs (λ passes. absurd cc) (others all)

-- what is kept and still to be replied is a letter of the history
abbrev EachLetter : Shape → History → List Want → Type 0
EachLetter t h wants = All (λ want. is_wanting h want ≡ true → IsLetter t h want) wants

kept_letters : (t : Shape) (h : History) (wants : List Want) → AreWants t h wants → EachLetter t h wants
kept_letters t h wants are =
    each_passing (IsLetter t h) (is_wanting h) wants
    (subst (λ (kept : List Want). All (IsLetter t h) kept) (sym are) (All-filter (is_wanting h) (IsLetter t h) (wants_of t h) (each_letter t h)))

-- the lines for it are lines by which settlers take what wants a reply
lines_wanted : (t : Setting) (h : History) (wants : List Want) → EachLetter t.topology h wants → All (IsWanted t.topology h) (flat_map (computed t h) wants)
lines_wanted t h [] each = All-nil (IsWanted t.topology h)
lines_wanted t h (want ∷ wants) each =
    All-append (IsWanted t.topology h) (computed t h want) (flat_map (computed t h) wants)
    (by (is_replied want.session want.seq h) (is_some (gives t h (Settler want.settler) (acts.Take (record { entry = want.entry; letter = want.letter }))))
    (All-head (λ want. is_wanting h want ≡ true → IsLetter t.topology h want) want wants each))
    (lines_wanted t h wants (All-tail (λ want. is_wanting h want ≡ true → IsLetter t.topology h want) want wants each))
  where
    by : (b c : Bool) → (not b ≡ true → IsLetter t.topology h want) → All (IsWanted t.topology h) (if b then [] else only c (want_line want))
    by true c is = All-nil (IsWanted t.topology h)
    by false true is =
        let sent = is refl in
        All-cons (IsWanted t.topology h) (want_line want) []
        (record {
          settler = want.settler;
          place = record { entry = want.entry; letter = want.letter };
          session = want.session;
          seq = want.seq;
          gate = sent.gate;
          start = sent.start;
          is = refl;
          there = sent.there;
        }) (All-nil (IsWanted t.topology h))
    by false false is = All-nil (IsWanted t.topology h)

-- ---- one after another

-- what stands in a proof for no want
abbrev pub no_want : Want
no_want = record { entry = 0; letter = 0; settler = 0; session = 0; seq = 0 }

-- the lines for the first ones
abbrev pub computed_first : WorldState → List Want → ℕ → List Line
computed_first w wants n = flat_map (computed (setting_of w) w.history) (take n wants)

-- those for one more
first_more : (w : WorldState) (wants : List Want) (n : ℕ) (d : Want) → n < length wants
    → computed_first w wants (n + 1) ≡ computed_first w wants n ++ computed (setting_of w) w.history (get_or wants n d)
first_more w wants n d less =
    rw (take_more wants n d less) (sym (flat_map_more (computed (setting_of w) w.history) [] (take n wants) (get_or wants n d)))

-- the line of one that is to be replied, behind those of the first ones
computed_next : (t : Setting) (h : History) (done : List Line) (want : Want) → All (IsWanted t.topology h) done → IsLetter t.topology h want → is_replied want.session want.seq h ≡ false
    → followed_all t h (done ++ computed t h want) ≡ followed t (followed_all t h done) (want_line want)
computed_next t h done want wanted sent waits =
    rw waits (by (gives t h (Settler want.settler) (acts.Take (record { entry = want.entry; letter = want.letter }))) refl)
  where
    by : (o : Option Entry) → gives t h (Settler want.settler) (acts.Take (record { entry = want.entry; letter = want.letter })) ≡ o
        → followed_all t h (done ++ only (is_some o) (want_line want)) ≡ followed t (followed_all t h done) (want_line want)
    by None none = unlisted_next t h done (want_line want)
        (ap (λ (answer : Option Entry). onto answer (followed_all t h done))
        (gives_on t h done want.settler (record { entry = want.entry; letter = want.letter }) want.session want.seq sent.gate sent.start sent.there wanted ∙ none))
    by (Some e) given = followed_behind t h done (want_line want ∷ [])

-- one more that is to be replied
pub computed_more : (wants : List Want) (n : ℕ) (d : Want) (old here new : WorldState) → n < length wants → AreWants old.topology old.history wants
    → is_replied (get_or wants n d).session (get_or wants n d).seq old.history ≡ false → Followed (computed_first old wants n) old here
    → new ≡ with_history (followed (setting_of here) here.history (want_line (get_or wants n d))) here → Followed (computed_first old wants (n + 1)) old new
computed_more wants n d old here new less are waits before next =
    let each = kept_letters old.topology old.history wants are in
    let sent : IsLetter old.topology old.history (get_or wants n d) =
    All-get_or (λ want. is_wanting old.history want ≡ true → IsLetter old.topology old.history want) wants n d less each (ap not waits) in
    let wanted : All (IsWanted old.topology old.history) (computed_first old wants n) =
    lines_wanted (setting_of old) old.history (take n wants) (All-take (λ want. is_wanting old.history want ≡ true → IsLetter old.topology old.history want) n wants each) in
    rw (next, before, first_more old wants n d less)
    (ap (λ (h : History). with_history h old) (sym (computed_next (setting_of old) old.history (computed_first old wants n) (get_or wants n d) wanted sent waits)))

-- one more that is replied
pub computed_skip : (wants : List Want) (n : ℕ) (d : Want) (old here : WorldState) → n < length wants
    → is_replied (get_or wants n d).session (get_or wants n d).seq old.history ≡ true → Followed (computed_first old wants n) old here
    → Followed (computed_first old wants (n + 1)) old here
computed_skip wants n d old here less replied before =
    rw (first_more old wants n d less, replied, append-nil (computed_first old wants n)) before

-- all of them
pub computed_all : (wants : List Want) (n : ℕ) (old new : WorldState) → length wants ≤ n → AreWants old.topology old.history wants
    → Followed (computed_first old wants n) old new → Followed (results (setting_of old) old.history) old new
computed_all wants n old new all are is = rw (results_are (setting_of old) old.history wants are, sym (take_all n wants all)) is

-- the first ones, where memory ran out
pub computed_in_part : (wants : List Want) (n : ℕ) (old here new : WorldState) → AreWants old.topology old.history wants
    → Followed (computed_first old wants n) old here → new ≡ here → FollowedInPart (results (setting_of old) old.history) old new
computed_in_part wants n old here new are is same = record {
  done = computed_first old wants n;
  rest = flat_map (computed (setting_of old) old.history) (drop n wants);
  split =
      results_are (setting_of old) old.history wants are
      ∙ ap (λ (all : List Want). flat_map (computed (setting_of old) old.history) all) (sym (take-append-drop n wants))
      ∙ flat_map-append (computed (setting_of old) old.history) (take n wants) (drop n wants);
  followed = same ∙ is;
}
