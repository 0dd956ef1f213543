-- The values of every settler are those of the serial map.
use Rattle.std.proofs.Common.{◌≡◌, ◌==◌, ℕ, suc, ◌+◌, ◌≤◌, ◌<◌, Bool, true, false, ◌⊎◌, inl, inr, Some, None, List, [], ◌∷◌, ◌++◌, length, refl, sym, ap, subst, ◌∙◌, add-one, arith}
use Rattle.std.specs.Prelude.{if◌then◌else◌, nat_lt}
use Rattle.std.proofs.lemmas.Grind.{common_steps}
use Rattle.ov_base.specs.Version.{number}
use Rattle.ov_functor.specs.declared.item.Item.{Item}
use Rattle.ov_functor.specs.declared.item.Valued.{Valued}
use Rattle.ov_functor.specs.Serial.{serial}
use Rattle.ov_functor.specs.Values.{just_below, evaluated}
use Rattle.ov_functor.specs.Windows.{Among}
use Rattle.ov_functor.specs.Unions.{backwards, IsSorted}
use Rattle.ov_functor.proofs.WindowValues.{Right, HasValue, Sound, Complete, just_below-is-serial, evaluated-right, evaluated-complete, evaluated-versions}
use Rattle.ov_gossip.specs.Marks.{low_of}
use Rattle.ov_topology.specs.Shape.{IsShape, gates}
use Rattle.ov_topology.specs.declared.actor.Actor.{Actor}
use Rattle.ov_topology.specs.declared.actor.Actor.TheVariants.{Settler}
use Rattle.ov_topology.specs.declared.mode.Mode.{Mode}
use Rattle.ov_topology.specs.declared.mode.Mode.TheVariants.{Quorum, One}
use Rattle.ov_event.specs.declared.entry.Entry.{Entry}
use Rattle.ov_event.specs.declared.kind.Kind.{Kind}
use Rattle.ov_event.specs.declared.kind.Kind.TheVariants.{Asked, Settled}
use Rattle.ov_event.specs.Letters.{is_settler}
use Rattle.ov_history.specs.Past.{History, at}
use Rattle.ov_history.specs.Draws.{last}
use Rattle.ov_laws.specs.Final.{IsClosed}
use Rattle.ov_history.specs.Marks.{mark, mark_by, visible}
use Rattle.ov_history.specs.May.{Setting, Lawful, MayAsk, MaySettle, upper}
use Rattle.ov_history.specs.Serial.{begun_at, serial_at}
use Rattle.ov_history.specs.Settlers.{Round, open_round, settled, upper_end, values_in, values_of, known_below, harvest}
use Rattle.ov_history.proofs.Counting.{least_less}
use Rattle.ov_laws.proofs.Watermarks.Finals.{visible_final}
use Rattle.ov_laws.proofs.History.Gathered.{greatest_grows}
use Rattle.ov_laws.proofs.Watermarks.Later.{begun_later, serial_later}
use Rattle.ov_laws.proofs.Watermarks.Orders.{replicated_under_visible}
use Rattle.ov_history.proofs.Past.{at_older}
use Rattle.ov_laws.proofs.History.Earlier.{at_newest}
use Rattle.ov_laws.specs.Replies.{IsPublished}
use Rattle.ov_functor.proofs.Among.{among_front, among_back, among_either}
use Rattle.ov_laws.proofs.Windows.Harvests.{harvest_sorted, harvest_is_window}
use Rattle.ov_laws.specs.Harvests.{IsWindow}
use Rattle.ov_functor.proofs.Unions.{backwards_comes, backwards_has, sorted_back}
use Rattle.ov_laws.proofs.Windows.Items.{window_back, window_fits, window_covers}
use Rattle.ov_laws.proofs.Windows.Rounds.{settler_is}

-- ---- values that stand

-- The values are those of the serial map below a number, all of them.
pub record Stand (h : History) (values : List Valued) (n : ℕ) : Type 0 where
  pub sound : Sound (begun_at h) values
  pub under : (value : Valued) → Among value values → value.version < n
  pub complete : Complete (begun_at h) values 0 n

-- values stand where no version below the number is drawn any more
stand_stays : (t : Setting) (h : History) (e : Entry) (values : List Valued) (n : ℕ) → Lawful t (e ∷ h) → IsClosed t.topology h n → Stand h values n → Stand (e ∷ h) values n
stand_stays t h e values n lawful closed stand = record {
  sound = λ value among.
      let less : value.version < n = stand.under value among in
      let right = stand.sound value among in
      let same : begun_at (e ∷ h) value.version ≡ begun_at h value.version = begun_later t h (e ∷ []) n closed lawful value.version less in
      let map_same : serial_at (e ∷ h) (suc value.version) ≡ serial_at h (suc value.version) = serial_later t h (e ∷ []) n (suc value.version) closed lawful (omega (arith, less)) in
      record {
        writes = record { transaction = right.writes.transaction; functor = right.writes.functor; begun_is = same ∙ right.writes.begun_is; functor_is = right.writes.functor_is };
        value_is = right.value_is ∙ ap (λ map. map value.key) (sym map_same);
      };
  under = stand.under;
  complete = λ version key low less writes.
      let same : begun_at (e ∷ h) version ≡ begun_at h version = begun_later t h (e ∷ []) n closed lawful version less in
      stand.complete version key low less (record { transaction = writes.transaction; functor = writes.functor; begun_is = sym same ∙ writes.begun_is; functor_is = writes.functor_is });
}

-- the visibility watermark of an actor does not fall
visible_grows : (t : Setting) (e : Entry) (h : History) (a : Actor) → visible t.topology a h ≤ visible t.topology a (e ∷ h)
visible_grows t e h a =
    least_less (λ g. mark low_of a g h) (λ g. mark low_of a g (e ∷ h)) (mark low_of a 0 h) (mark low_of a 0 (e ∷ h)) (gates t.topology)
    (greatest_grows (mark_by low_of a 0) (e ∷ []) h) (λ g. greatest_grows (mark_by low_of a g) (e ∷ []) h)

-- no version below a number that the visibility watermark reaches is drawn any more
pub visible_closed : (t : Setting) (h : History) (a : Actor) (n : ℕ) → Lawful t h → n ≤ visible t.topology a h → IsClosed t.topology h n
visible_closed t h a n lawful le g known =
    let under : visible t.topology a h ≤ number (last g h + 1) g = (visible_final t h a lawful).closed g known in
    omega (arith, le, under)

-- ---- a settler after its own entries

-- The open round begins where the settler stands, and ends at a watermark that it knew when it asked.
pub record RoundIs (t : Setting) (h : History) (s : ℕ) (round : Round) : Type 0 where
  pub from_is : round.from ≡ settled s h
  pub high : round.below ≤ visible t.topology (Settler s) h
  pub more : round.from < round.below
  pub number : ℕ
  pub asked : at h number ≡ Some (record { actor = Settler s; kind = Asked round.number round.mode round.from round.below })

-- The settler has settled to a published watermark that it knows, its values stand up to there, and so does its open round.
pub record SettlerIs (t : Setting) (h : History) (s : ℕ) : Type 0 where
  pub published : IsPublished h (settled s h)
  pub high : settled s h ≤ visible t.topology (Settler s) h
  pub stand : Stand h (values_of s h) (settled s h)
  pub round : (round : Round) → open_round s h ≡ Some round → RoundIs t h s round

-- a published watermark stays published
published_older : (e : Entry) (h : History) (n : ℕ) → IsPublished h n → IsPublished (e ∷ h) n
published_older e h n (inl nothing) = inl nothing
published_older e h n (inr old) =
    inr (record { settler = old.settler; round = old.round; mode = old.mode; from = old.from; number = old.number; asked = at_older h old.number _ e old.asked })

-- what holds of the values behind and of those in front holds of all
either_all : (P : Valued → Type 0) (new old : List Valued) → ((value : Valued) → Among value new → P value) → ((value : Valued) → Among value old → P value)
    → (value : Valued) → Among value (backwards new ++ old) → P value
either_all P new old of_new of_old value among = by (among_either value (backwards new) old among)
  where
    by : Among value (backwards new) ⊎ Among value old → P value
    by (inl front) = of_new value (backwards_comes value new front)
    by (inr back) = of_old value back

-- values that have each write up to a number, and values that have each from there on, have each together
complete_together : (h : History) (new old : List Valued) (from below : ℕ) → Complete (begun_at h) old 0 from → Complete (begun_at h) new from below → Complete (begun_at h) (backwards new ++ old) 0 below
complete_together h new old from below early late version key low less writes = by (nat_lt version from) refl
  where
    by : (b : Bool) → nat_lt version from ≡ b → HasValue (backwards new ++ old) version key
    by true is =
        let has = early version key low (grind (arith, common_steps)) writes in
        record { found = has.found; within = among_back has.found (backwards new) old has.within; version_is = has.version_is; key_is = has.key_is }
    by false is =
        let has = late version key (grind (arith, common_steps)) less writes in
        record { found = has.found; within = among_front has.found (backwards new) old (backwards_has has.found new has.within); version_is = has.version_is; key_is = has.key_is }

-- the values of a window, put before values that stand up to its lower end, stand up to its upper end
stand_grows : (h : History) (old : List Valued) (items : List Item) (n from below : ℕ) → Stand h old n → from ≡ n → from < below → IsSorted items → IsWindow h from below items
    → Stand h (backwards (evaluated (just_below from old) (backwards items)) ++ old) below
stand_grows h old items n from below stand same more sorted window =
    let plan = backwards items in
    let base = just_below from old in
    let new = evaluated base plan in
    let there : IsWindow h from below plan = window_back h from below items window in
    let covers = window_covers h from below plan there in
    let falls = sorted_back (suc below) items sorted (λ item among. let high : item.version < below = ((window item).0 among).high in omega (arith, high)) in
    let early : Complete (begun_at h) old 0 from = λ version key low less writes. stand.complete version key low (omega (arith, same, less)) writes in
    let base_is : (key : List ℕ) → base key ≡ serial (begun_at h) from key = just_below-is-serial (begun_at h) from old stand.sound early in
    let right = evaluated-right (begun_at h) base from below plan base_is falls (window_fits h from below plan there) covers in
    let under = evaluated-versions base plan (λ version. version < below) (λ item among. ((there item).0 among).high) in
    let was : (value : Valued) → Among value old → value.version < below = λ value among. let low : value.version < n = stand.under value among in omega (arith, low, same, more) in
    record {
      sound = either_all (λ value. Right (begun_at h) value) new old right stand.sound;
      under = either_all (λ value. value.version < below) new old under was;
      complete = complete_together h new old from below early (evaluated-complete (begun_at h) base plan from below covers);
    }

-- an entry that leaves the settler's round and values alone
other_kept : (t : Setting) (h : History) (e : Entry) (s : ℕ) → Lawful t (e ∷ h) → SettlerIs t h s → settled s (e ∷ h) ≡ settled s h → values_of s (e ∷ h) ≡ values_of s h
    → open_round s (e ∷ h) ≡ open_round s h → SettlerIs t (e ∷ h) s
other_kept t h e s lawful is same_settled same_values same_round = record {
  published = rw same_settled (published_older e h (settled s h) is.published);
  high = let had : settled s h ≤ visible t.topology (Settler s) h = is.high in let more = visible_grows t e h (Settler s) in omega (arith, had, more, same_settled);
  stand = rw (same_settled, same_values) (stand_stays t h e (values_of s h) (settled s h) lawful (visible_closed t h (Settler s) (settled s h) lawful.0 is.high) is.stand);
  round = λ round opens.
      let old = is.round round (sym same_round ∙ opens) in
      record {
        from_is = old.from_is ∙ sym same_settled;
        high = (let had : round.below ≤ visible t.topology (Settler s) h = old.high in let more = visible_grows t e h (Settler s) in omega (arith, had, more));
        more = old.more;
        number = old.number;
        asked = at_older h old.number _ e old.asked;
      };
}

-- an entry of the settler of this kind
abbrev own : ℕ → Kind → Entry
own s k = record { actor = Settler s; kind = k }

-- a round is asked for up to a watermark that is at most the visibility watermark
upper_bound : (t : Setting) → IsShape t.topology → (h : History) (s : ℕ) → Lawful t h → (mode : Mode) → upper t.topology s h mode ≤ visible t.topology (Settler s) h
upper_bound t shape h s lawful Quorum = omega arith
upper_bound t shape h s lawful One = replicated_under_visible t shape h lawful (Settler s)

-- a settler that asks
ask_kept : (t : Setting) → IsShape t.topology → (h : History) (s n : ℕ) (mode : Mode) (from below : ℕ) → Lawful t (own s (Asked n mode from below) ∷ h) → SettlerIs t h s
    → SettlerIs t (own s (Asked n mode from below) ∷ h) s
ask_kept t shape h s n mode from below lawful is =
    let e = own s (Asked n mode from below) in
    let may : MayAsk t.topology h s n mode from below = lawful.1.guard in
    let new : Round = record { number = n; mode = mode; from = from; below = below } in
    let grown : visible t.topology (Settler s) h ≤ visible t.topology (Settler s) (e ∷ h) = visible_grows t e h (Settler s) in
    let bound : upper t.topology s h mode ≤ visible t.topology (Settler s) h = upper_bound t shape h s lawful.0 mode in
    let had : settled s h ≤ visible t.topology (Settler s) h = is.high in
    let same_settled : settled s (e ∷ h) ≡ settled s h = grind (arith, common_steps) in
    let same_values : values_of s (e ∷ h) ≡ values_of s h = grind (arith, common_steps) in
    let round_is : open_round s (e ∷ h) ≡ Some new = grind (arith, common_steps) in
    let mine : RoundIs t (e ∷ h) s new = record {
      from_is = may.from_is ∙ sym same_settled;
      high = (let end : below ≡ upper t.topology s h mode = may.below_is in omega (arith, end, bound, grown));
      more = may.some;
      number = length h + 1;
      asked = at_newest h e;
    } in
    record {
      published = rw same_settled (published_older e h (settled s h) is.published);
      high = omega (arith, had, grown, same_settled);
      stand = rw (same_settled, same_values) (stand_stays t h e (values_of s h) (settled s h) lawful (visible_closed t h (Settler s) (settled s h) lawful.0 had) is.stand);
      round = λ round opens. let one : ◌≡◌ {A = Round} new round = cc in subst (λ (x : Round). RoundIs t (e ∷ h) s x) one mine;
    }

-- a settler that settles
settle_kept : (t : Setting) → IsShape t.topology → (h : History) (s : ℕ) (values : List Valued) → Lawful t (own s (Settled values) ∷ h) → SettlerIs t h s → SettlerIs t (own s (Settled values) ∷ h) s
settle_kept t shape h s values lawful is =
    let e = own s (Settled values) in
    let may : MaySettle t.topology h s values = lawful.1.guard in
    let round = may.current in
    let was = is.round round may.current_is in
    let grown : visible t.topology (Settler s) h ≤ visible t.topology (Settler s) (e ∷ h) = visible_grows t e h (Settler s) in
    let had : round.below ≤ visible t.topology (Settler s) h = was.high in
    let end : upper_end (open_round s h) (settled s h) ≡ round.below = rw may.current_is refl in
    let settled_is : settled s (e ∷ h) ≡ round.below = grind (arith, common_steps) in
    let values_are : values_of s (e ∷ h) ≡ values ++ values_of s h = grind (arith, common_steps) in
    let none : open_round s (e ∷ h) ≡ None = grind (arith, common_steps) in
    let all = stand_grows h (values_of s h) (harvest s round.number h) (settled s h) round.from round.below is.stand was.from_is was.more
    (harvest_sorted s round.number h) (harvest_is_window t h s round shape lawful.0 may.current_is may.enough) in
    let now : Stand h (values ++ values_of s h) round.below = subst (λ (list : List Valued). Stand h (list ++ values_of s h) round.below) (sym may.values_are) all in
    record {
      published = inr (rw settled_is (record { settler = s; round = round.number; mode = round.mode; from = round.from; number = was.number; asked = at_older h was.number _ e was.asked }));
      high = omega (arith, had, grown, settled_is);
      stand = rw (settled_is, values_are) (stand_stays t h e (values ++ values_of s h) round.below lawful (visible_closed t h (Settler s) round.below lawful.0 had) now);
      round = λ other opens. absurd (cc);
    }

-- an entry of the settler
own_kept : (t : Setting) → IsShape t.topology → (h : History) (k : Kind) (s : ℕ) → Lawful t (own s k ∷ h) → SettlerIs t h s → SettlerIs t (own s k ∷ h) s
own_kept t shape h (Asked n mode from below) s lawful is = ask_kept t shape h s n mode from below lawful is
own_kept t shape h (Settled values) s lawful is = settle_kept t shape h s values lawful is
own_kept t shape h k s lawful is = other_kept t h (own s k) s lawful is (grind (arith, common_steps)) (grind (arith, common_steps)) (grind (arith, common_steps))

-- an entry that may follow
settler_step : (t : Setting) → IsShape t.topology → (h : History) (e : Entry) (s : ℕ) → Lawful t (e ∷ h) → SettlerIs t h s → SettlerIs t (e ∷ h) s
settler_step t shape h e s lawful is = by (is_settler s e.actor) refl
  where
    by : (b : Bool) → is_settler s e.actor ≡ b → SettlerIs t (e ∷ h) s
    by true mine =
        let actor_is = settler_is s e.actor mine in
        let same : e ≡ own s e.kind = λ i. record { actor = actor_is i; kind = e.kind } in
        subst (λ (one : Entry). SettlerIs t (one ∷ h) s) (sym same) (own_kept t shape h e.kind s (subst (λ (one : Entry). Lawful t (one ∷ h)) same lawful) is)
    by false other = other_kept t h e s lawful is (grind (arith, common_steps)) (grind (arith, common_steps)) (grind (arith, common_steps))

-- each settler of a lawful history stands where it has settled
pub settler_stands : (t : Setting) → IsShape t.topology → (h : History) (s : ℕ) → Lawful t h → SettlerIs t h s
settler_stands t shape [] s lawful = record {
  published = inl refl;
  high = omega arith;
  stand = record { sound = λ value among. absurd among; under = λ value among. absurd among; complete = λ version key low less writes. absurd (omega (arith, less)) };
  round = λ round opens. absurd (cc);
}
settler_stands t shape (e ∷ h) s lawful = settler_step t shape h e s lawful (settler_stands t shape h s lawful.0)

-- ---- the laws

-- what a settler knows just below a number that it has settled is the serial map
pub known_is_serial : (t : Setting) → IsShape t.topology → (h : History) (s n : ℕ) (key : List ℕ) → Lawful t h → n ≤ settled s h → known_below s h n key ≡ serial_at h n key
known_is_serial t shape h s n key lawful le =
    let stand = (settler_stands t shape h s lawful).stand in
    just_below-is-serial (begun_at h) n (values_of s h) stand.sound (λ version other low less writes. stand.complete version other low (omega (arith, less, le)) writes) key

-- no version below where a settler has settled is drawn any more
pub settled_closed : (t : Setting) → IsShape t.topology → (h : History) (s : ℕ) → Lawful t h → IsClosed t.topology h (settled s h)
settled_closed t shape h s lawful = visible_closed t h (Settler s) (settled s h) lawful (settler_stands t shape h s lawful).high

-- the values of an entry are among the settler's
values_at : (h : History) (k s : ℕ) (values : List Valued) (x : Valued) → at h k ≡ Some (own s (Settled values)) → Among x values → Among x (values_of s h)
values_at [] k s values x there among = absurd (cc)
values_at (e ∷ h) k s values x there among = by (k == length h + 1) there (λ older. values_at h k s values x older among)
  where
    old : (b : Bool) → Among x (values_of s h) → Among x ((if b then values_in e.kind else []) ++ values_of s h)
    old true rest = among_back x (values_in e.kind) (values_of s h) rest
    old false rest = rest

    mine : (b : Bool) → b ≡ true → Among x ((if b then values else []) ++ values_of s h)
    mine true is = among_front x values (values_of s h) among
    mine false is = absurd (cc)

    by : (b : Bool) → (if b then Some e else at h k) ≡ Some (own s (Settled values)) → (at h k ≡ Some (own s (Settled values)) → Among x (values_of s h)) → Among x (values_of s (e ∷ h))
    by true same rest =
        let is : ◌≡◌ {A = Entry} e (own s (Settled values)) = cc in
        subst (λ (one : Entry). Among x (values_of s (one ∷ h))) (sym is) (mine (s == s) (grind (arith, common_steps)))
    by false same rest = old (is_settler s e.actor) (rest same)

-- each value of a `Settled` entry is that of its key just after its version
pub value_is_serial : (t : Setting) → IsShape t.topology → (h : History) (k s : ℕ) (values : List Valued) (x : Valued) → Lawful t h → at h k ≡ Some (own s (Settled values)) → Among x values
    → x.value ≡ serial_at h (x.version + 1) x.key
value_is_serial t shape h k s values x lawful there among = rw add-one (((settler_stands t shape h s lawful).stand.sound x (values_at h k s values x there among)).value_is)

-- two values of one version and key in `Settled` entries are equal
pub values_are_one : (t : Setting) → IsShape t.topology → (h : History) (k j s r : ℕ) (values others : List Valued) (x y : Valued) → Lawful t h
    → at h k ≡ Some (own s (Settled values)) → at h j ≡ Some (own r (Settled others)) → Among x values → Among y others → x.version ≡ y.version → x.key ≡ y.key → x.value ≡ y.value
values_are_one t shape h k j s r values others x y lawful there here among within version_is key_is =
    value_is_serial t shape h k s values x lawful there among
    ∙ (λ i. serial_at h (version_is i + 1) (key_is i))
    ∙ sym (value_is_serial t shape h j r others y lawful here within)
