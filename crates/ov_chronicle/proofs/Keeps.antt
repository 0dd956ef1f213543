-- Each step keeps the rule of the lock and of the history.
use Rattle.std.proofs.Common.{◌≡◌, ℕ, zero, suc, ◌+◌, ◌%◌, ◌^◌, ◌<◌, ◌≤◌, ◌≢◌, ◌⊎◌, eqb, Bool, true, false, ◌||◌, ne_eqb, cond, List, [], ◌∷◌, ◌++◌, length, get_or, set, sym, refl, ap, ◌∙◌, subst, inl, inr, ⊎_elim, arith, le_refl, length-append, length-set, get_or-set_other, get_or-set_same, eq-eqb}
use Rattle.std.specs.Prelude.{Some, slice_get}
use Rattle.std.specs.Prelude.{Option as Opt}
use mathlib.Core.Option.{Option, some, none, some-ne-none, some-injective}
use mathlib.Core.List.{IsPrefix}
use mathlib.Core.Logic.{dite}
use native.Mathlib.Decide.{ℕ_discrete}
use lib.ListN.{get_elem?}
use Rattle.std.proofs.lemmas.List.{append-nil}
use lib.Seq.{set-get_or}
use Rattle.atomic_table.specs.Table.{State, Me, step, rest, keeps, takes, gives, stepped, Allows, Splits, Joins}
use Rattle.atomic_table.proofs.Lists.{at_set, set_else, set_here, set_again, at_longer, one_turn}
use Rattle.ov_chronicle.specs.declared.rule.View.{View}
use Rattle.ov_chronicle.specs.Lists.{entries_by}
use Rattle.ov_chronicle.specs.declared.rule.Past.{Past}
use Rattle.ov_chronicle.specs.Rules.{founder, maker, made, has, living, gone, past_of, taker, told, IsPast, IsKeeper, drawn, turned, served, waiting, tickets, Sits, IsApart, NoneHas, IsKept, Sees, Turns, Draws, IsNext, Serves, IsWaiting, HasTurn, HasList, lawful_in, may_in}
use Rattle.ov_chronicle.proofs.Prefixes.{prefix_self, prefix_more, by_append, by_one, by_other, by_rest}
use Rattle.ov_chronicle.proofs.Tellings.{told_last, told_before, tells_on, seen_begins, are_told}
use Rattle.ov_chronicle.specs.Seats.{AreTold, IsByActors}

set_at : {A : Type 0} (l : List A) (i : ℕ) (a b : A) → get_elem? l i ≡ some b → get_elem? (set l i a) i ≡ some a
set_at [] i a b e = absurd (some-ne-none b (sym e))
set_at (x ∷ xs) zero a b e = refl
set_at (x ∷ xs) (suc i) a b e = set_at xs i a b e

set_swap : {A : Type 0} (l : List A) (i j : ℕ) (a b : A) → i ≢ j → set (set l i a) j b ≡ set (set l j b) i a
set_swap [] i j a b ne = refl
set_swap (x ∷ xs) zero zero a b ne = absurd (ne refl)
set_swap (x ∷ xs) zero (suc j) a b ne = refl
set_swap (x ∷ xs) (suc i) zero a b ne = refl
set_swap (x ∷ xs) (suc i) (suc j) a b ne = ap (λ l. x ∷ l) (set_swap xs i j a b (λ e. ne (ap suc e)))

at_end : {A : Type 0} (l : List A) (a b : A) (j : ℕ) → get_elem? (l ++ a ∷ []) j ≡ some b → (get_elem? l j ≡ some b) ⊎ ((j ≡ length l) × (a ≡ b))
at_end [] a b zero e = inr (refl, some-injective a b e)
at_end [] a b (suc j) e = absurd (some-ne-none b (sym e))
at_end (x ∷ xs) a b zero e = inl e
at_end (x ∷ xs) a b (suc j) e = ⊎_elim (λ old. inl old) (λ t. let z = t.0 in inr (omega arith, t.1)) (at_end xs a b j e)

module _ {E T : Type 0} where
  tickets_set : (views : List (View E T)) (id : ℕ) (v w : View E T) → get_elem? views id ≡ some v → tickets (set views id w) + waiting v ≡ tickets views + waiting w
  tickets_set [] id v w e = absurd (some-ne-none v (sym e))
  tickets_set (x ∷ xs) zero v w e = let h : waiting x ≡ waiting v = ap waiting (some-injective x v e) in let a : ℕ = tickets xs in omega arith
  tickets_set (x ∷ xs) (suc id) v w e = let h = tickets_set xs id v w e in omega arith

  tickets_few : (views : List (View E T)) → tickets views ≤ length views
  tickets_few [] = omega arith
  tickets_few (x ∷ xs) = let h = tickets_few xs in let k = one x.waits in omega arith
    where
      one : (b : Bool) → cond b 1 0 ≤ 1
      one true = omega arith
      one false = omega arith

  -- what holds of the changed seat and of the others holds of all
  seats_stay : (P : View E T → Type 0) (views : List (View E T)) (id : ℕ) (w : View E T) → P w → ((k : ℕ) (u : View E T) → k ≢ id → get_elem? views k ≡ some u → P u)
      → (k : ℕ) (u : View E T) → get_elem? (set views id w) k ≡ some u → P u
  seats_stay P views id w mine others k u e = ⊎_elim (λ (t : (k ≡ id) × (w ≡ u)). subst P t.1 mine) (λ (t : (k ≢ id) × (get_elem? views k ≡ some u)). others k u t.0 t.1) (at_set views id k w u e)

  -- two seats stay apart, where the changed one stays apart from each other
  pairs_stay : (views : List (View E T)) (id : ℕ) (w : View E T) → ((i j : ℕ) (v u : View E T) → i ≢ j → get_elem? views i ≡ some v → get_elem? views j ≡ some u → IsApart v u)
      → ((k : ℕ) (u : View E T) → k ≢ id → get_elem? views k ≡ some u → IsApart w u × IsApart u w)
      → (i j : ℕ) (v u : View E T) → i ≢ j → get_elem? (set views id w) i ≡ some v → get_elem? (set views id w) j ≡ some u → IsApart v u
  pairs_stay views id w old new i j v u ne at there =
      ⊎_elim
      (λ (t : (i ≡ id) × (w ≡ v)). ⊎_elim
      (λ (r : (j ≡ id) × (w ≡ u)). absurd (ne (t.0 ∙ sym r.0)))
      (λ (r : (j ≢ id) × (get_elem? views j ≡ some u)). subst (λ (z : View E T). IsApart z u) t.1 (new j u r.0 r.1).0)
      (at_set views id j w u there))
      (λ (t : (i ≢ id) × (get_elem? views i ≡ some v)). ⊎_elim
      (λ (r : (j ≡ id) × (w ≡ u)). subst (λ (z : View E T). IsApart v z) r.1 (new i v t.0 t.1).1)
      (λ (r : (j ≢ id) × (get_elem? views j ≡ some u)). old i j v u ne t.1 r.1)
      (at_set views id j w u there))
      (at_set views id i w v at)

  living_set : (views : List (View E T)) (id : ℕ) (v w : View E T) → get_elem? views id ≡ some v → living (set views id w) + cond v.live 1 0 ≡ living views + cond w.live 1 0
  living_set [] id v w e = absurd (some-ne-none v (sym e))
  living_set (x ∷ xs) zero v w e = let h : (let n : ℕ = cond x.live 1 0 in n) ≡ cond v.live 1 0 = ap (λ (z : View E T). cond z.live 1 0) (some-injective x v e) in let a : ℕ = living xs in omega arith
  living_set (x ∷ xs) (suc id) v w e = let h = living_set xs id v w e in omega arith

  living_snoc : (views : List (View E T)) (w : View E T) → living (views ++ w ∷ []) ≡ living views + cond w.live 1 0
  living_snoc [] w = omega arith
  living_snoc (x ∷ xs) w = let h = living_snoc xs w in omega arith

  tickets_snoc : (views : List (View E T)) (w : View E T) → tickets (views ++ w ∷ []) ≡ tickets views + waiting w
  tickets_snoc [] w = omega arith
  tickets_snoc (x ∷ xs) w = let h = tickets_snoc xs w in omega arith

  -- a seat that was taken in is on the list of those that were
  has_at : (ps : List (Past E T)) (k : ℕ) (p : Past E T) → slice_get ps k ≡ Some p → has ps p.actor ≡ true
  has_at [] k p e = absurd (cc e)
  has_at (x ∷ xs) zero p e = let is : x ≡ p = cc e in subst (λ (z : Past E T). has (x ∷ xs) z.actor ≡ true) is (ap (λ b. b || has xs x.actor) (eq-eqb x.actor x.actor refl))
  has_at (x ∷ xs) (suc k) p e = ap (λ b. eqb x.actor p.actor || b) (has_at xs k p e) ∙ or_true (eqb x.actor p.actor)
    where
      or_true : (b : Bool) → (b || true) ≡ true
      or_true true = refl
      or_true false = refl

  -- what holds of one and of each of some holds of them all
  one_more_past : (actor_of : E → ℕ) (setting : T) (log : List E) (turns : ℕ) (history : ℕ → List E) (x : Past E T) (xs : List (Past E T)) → IsPast actor_of setting log turns history x
      → ((k : ℕ) (p : Past E T) → slice_get xs k ≡ Some p → IsPast actor_of setting log turns history p)
      → (k : ℕ) (p : Past E T) → slice_get (x ∷ xs) k ≡ Some p → IsPast actor_of setting log turns history p
  one_more_past actor_of setting log turns history x xs new old zero p e = let is : x ≡ p = cc e in subst (IsPast actor_of setting log turns history) is new
  one_more_past actor_of setting log turns history x xs new old (suc k) p e = old k p e

  -- what holds of the seats that were taken in still holds, where the history grows by no entries of theirs
  pasts_stay : (actor_of : E → ℕ) (setting : T) (log log' : List E) (turns turns' : ℕ) (history history' : ℕ → List E) → turns ≤ turns' → ((t : ℕ) → t ≤ turns → history' t ≡ history t)
      → (p : Past E T) → entries_by actor_of p.actor log' ≡ entries_by actor_of p.actor log → IsPast actor_of setting log turns history p → IsPast actor_of setting log' turns' history' p
  pasts_stay actor_of setting log log' turns turns' history history' le same p none_new o = let below = o.1 in (o.0, omega arith, o.2 ∙ sym (same p.turn o.1), none_new ∙ o.3)

  -- the first seat keeps what it keeps, where a seat changes but not in that, and the history grows at most by entries of that seat's
  keepers : (actor_of : E → ℕ) (setting : T) (log log' : List E) (turns turns' : ℕ) (history history' : ℕ → List E) (views : List (View E T)) (id : ℕ) (v w : View E T) → get_elem? views id ≡ some v → v.live ≡ true
      → w.live ≡ v.live → w.first ≡ v.first → w.made ≡ v.made → w.alive ≡ v.alive → w.joined ≡ v.joined → w.actor ≡ v.actor
      → turns ≤ turns' → ((t : ℕ) → t ≤ turns → history' t ≡ history t)
      → ((a : ℕ) → v.actor ≢ a → entries_by actor_of a log' ≡ entries_by actor_of a log)
      → ((k : ℕ) (u : View E T) → get_elem? views k ≡ some u → u.first ≡ true → IsKeeper actor_of setting log turns history views u)
      → (k : ℕ) (u : View E T) → get_elem? (set views id w) k ≡ some u → u.first ≡ true → IsKeeper actor_of setting log' turns' history' (set views id w) u
  keepers actor_of setting log log' turns turns' history history' views id v w at live sl sf sm sa sj sc more_turns same_history others old k u e first = ⊎_elim
      (λ (t : (k ≡ id) × (w ≡ u)).
      let o = old id v at (sym sf ∙ (ap (λ (z : View E T). z.first) t.1 ∙ first)) in
      subst (λ (z : View E T). IsKeeper actor_of setting log' turns' history' (set views id w) z) t.1 record {
        made = sm ∙ (o.made ∙ sym (length-set views id w));
        alive = sa ∙ (o.alive ∙ same_living);
        below = seats_stay (λ (z : View E T). z.live ≡ true → (z.actor < w.made) × (has w.joined z.actor ≡ false)) views id w
            (λ _. let b = o.below id v at live in (subst (λ (z : ℕ × ℕ). z.0 < z.1) (λ i. (sym sc i, sym sm i)) b.0, (λ i. has (sj i) (sc i)) ∙ b.1))
            (λ j z _ e' l. let b = o.below j z e' l in (subst (λ (n : ℕ). z.actor < n) (sym sm) b.0, ap (λ l. has l z.actor) sj ∙ b.1));
        taken = λ a h. subst (λ (n : ℕ). a < n) (sym sm) (o.taken a (ap (λ l. has l a) (sym sj) ∙ h));
        fresh = λ a h. let b = (o.below id v at live).0 in let m = sm in others a (λ z. omega arith) ∙ o.fresh a (subst (λ (n : ℕ). n ≤ a) sm h);
        pasts = λ j p e'. past_stays v (o.below id v at live).1 j p (ap (λ l. slice_get l j) (sym sj) ∙ e') (o.pasts j p (ap (λ l. slice_get l j) (sym sj) ∙ e'));
      })
      (λ (t : (k ≢ id) × (get_elem? views k ≡ some u)).
      let o = old k u t.1 first in record {
        made = o.made ∙ sym (length-set views id w);
        alive = o.alive ∙ same_living;
        below = seats_stay (λ (z : View E T). z.live ≡ true → (z.actor < u.made) × (has u.joined z.actor ≡ false)) views id w
            (λ _. let b = o.below id v at live in (subst (λ (z : ℕ). z < u.made) (sym sc) b.0, ap (λ z. has u.joined z) sc ∙ b.1))
            (λ j z _ e' l. o.below j z e' l);
        taken = o.taken;
        fresh = λ a h. let b = (o.below id v at live).0 in others a (λ z. omega arith) ∙ o.fresh a h;
        pasts = λ j p e'. past_stays u (o.below id v at live).1 j p e' (o.pasts j p e');
      })
      (at_set views id k w u e)
    where
      same_living : living views ≡ living (set views id w)
      same_living = let h = living_set views id v w at in let l : (let n : ℕ = cond w.live 1 0 in n) ≡ cond v.live 1 0 = ap (λ b. cond b 1 0) sl in omega arith

      past_stays : (z : View E T) → has z.joined v.actor ≡ false → (j : ℕ) (p : Past E T) → slice_get z.joined j ≡ Some p → IsPast actor_of setting log turns history p → IsPast actor_of setting log' turns' history' p
      past_stays z isnt j p e' o = pasts_stay actor_of setting log log' turns turns' history history' more_turns same_history p
          (others p.actor (λ q. let h = has_at z.joined j p e' in let c = ap (λ y. has z.joined y) q in absurd (cc (h, isnt, c)))) o

  none_before : (views : List (View E T)) (id : ℕ) (v w : View E T) → get_elem? views id ≡ some v → v.has ≡ false → NoneHas (set views id w) → NoneHas views
  none_before views id v w at not nobody k u e = dite (ℕ_discrete k id)
      (λ same. subst (λ (z : View E T). z.has ≡ false) (some-injective v u (sym at ∙ subst (λ z. get_elem? views z ≡ some u) same e)) not)
      (λ ne. nobody k u (set_else views id k w ne ∙ e))

abbrev value_or : {P : Type 0} → P → List (ℕ × P) → P
value_or d [] = d
value_or d (z ∷ zs) = z.1

first_is : {P : Type 0} (x y : P) → let a : List (ℕ × P) = (0, x) ∷ [] in let b : List (ℕ × P) = (0, y) ∷ [] in a ≡ b → x ≡ y
first_is x y e = ap (value_or x) e

up : (n : ℕ) → (n % 2 ^ 64 + 1) % 2 ^ 64 ≡ (n + 1) % 2 ^ 64
up n = omega arith

module _ {E T P : Type 0} (items : P → List E) (room : P → ℕ) (actor_of : E → ℕ) (lawful : T → List E → Type 0) where
  abbrev V : Type 0
  V = View E T

  abbrev Rule : State P V → Type 0
  Rule s = IsKept items room actor_of lawful s.words s.homes s.views

  still : (words : List ℕ) (homes : List (Option P)) (views : List V) (i id : ℕ) (v : V) → IsKept items room actor_of lawful words homes views → get_elem? views id ≡ some v
      → IsKept items room actor_of lawful (set words i (get_or words i 0)) homes (set views id v)
  still words homes views i id v r at = subst (λ (z : List ℕ × List V). IsKept items room actor_of lawful z.0 homes z.1) (λ k. (sym (set-get_or words i 0) k, sym (set_again views id v at) k)) r

  -- a ticket is drawn
  pub draws : (slots id : ℕ) (me : Me P V) → me.0.live ≡ true → me.0.waits ≡ false → me.0.has ≡ false → Allows Rule slots id me 0 (λ n. (n + 1) % 2 ^ 64) (Draws (step slots 0 1 0 none) me)
  draws slots id me live idle not s r _ at _ =
      let v = me.0 in let w = drawn v r.head in let sits = r.each id v at in let wide = r.wide in let out = r.out in
      let more = tickets_set s.views id v w at in let zero_one : waiting v ≡ 0 = ap (λ b. cond b 1 0) idle in (
        w,
        keeps,
        tt,
        record {
          log = r.log;
          setting = r.setting;
          limit = r.limit;
          turns = r.turns;
          history = r.history;
          head = r.head + 1;
          now = r.now;
          wide = length-set s.words 0 _ ∙ wide;
          drawn = get_or-set_same s.words 0 _ 0 (omega arith) ∙ (ap (λ (z : ℕ). (z + 1) % 2 ^ 64) r.drawn ∙ up r.head);
          serving = get_or-set_other s.words 0 1 _ 0 (λ e. omega arith) ∙ r.serving;
          out = omega arith;
          few = subst (λ (z : ℕ). z ≤ 64) (sym (length-set s.views id w)) r.few;
          law = r.law;
          short = r.short;
          told = r.told;
          each = seats_stay (Sits actor_of r.setting r.limit r.log r.turns r.history (r.head + 1) r.now) s.views id w
              record { ours = sits.ours; turn = λ _. sits.turn not; ticket = λ _. (omega arith, omega arith); gone = λ dead. absurd (cc (live, dead)); has = λ h. absurd cc }
              (λ k u _ e. let old = r.each k u e in record { ours = old.ours; turn = old.turn; ticket = λ h. let t = old.ticket h in let below = t.1 in (t.0, omega arith); gone = old.gone; has = old.has });
          apart = pairs_stay s.views id w r.apart (λ k u ne e.
              let a = r.apart id k v u (λ z. ne (sym z)) at e in let b = r.apart k id u v ne e at in let old = r.each k u e in (
                record { actors = a.actors; firsts = a.firsts; tickets = λ _ h z. let t = old.ticket h in let below = t.1 in omega arith; turns = a.turns },
                record { actors = b.actors; firsts = b.firsts; tickets = λ h _ z. let t = old.ticket h in let below = t.1 in omega arith; turns = b.turns },
              ));
          keeper = keepers actor_of r.setting r.log r.log r.turns r.turns r.history r.history s.views id v w at live refl refl refl refl refl refl (le_refl r.turns) (λ t _. refl) (λ a _. refl) r.keeper;
          home = λ nobody. r.home (none_before s.views id v w at not nobody);
        },
        (r.head, r.drawn, refl),
      )

  -- the turn is come at once where the word is the seat's ticket
  now_is : (words : List ℕ) (homes : List (Option P)) (views : List V) (id : ℕ) (v : V) (r : IsKept items room actor_of lawful words homes views) → get_elem? views id ≡ some v → v.waits ≡ true
      → get_or words 1 0 ≡ v.ticket % 2 ^ 64 → r.now ≡ v.ticket
  now_is words homes views id v r at waits hit =
      let t = (r.each id v at).ticket waits in let low = t.0 in let high = t.1 in let out = r.out in let few = r.few in let some_few = tickets_few views in
      one_turn r.now v.ticket (2 ^ 64) low (omega arith) (sym r.serving ∙ hit)

  -- no other seat has the turn of this ticket
  nobody_has : (words : List ℕ) (homes : List (Option P)) (views : List V) (id : ℕ) (v : V) (r : IsKept items room actor_of lawful words homes views) → get_elem? views id ≡ some v → v.waits ≡ true → r.now ≡ v.ticket
      → (k : ℕ) (u : V) → k ≢ id → get_elem? views k ≡ some u → u.has ≡ false
  nobody_has words homes views id v r at waits is k u ne e = go u.has refl
    where
      go : (b : Bool) → u.has ≡ b → b ≡ false
      go false h = refl
      go true h = let t = (r.each k u e).has h in absurd ((r.apart id k v u (λ z. ne (sym z)) at e).tickets waits t.0 (sym is ∙ sym t.1))

  -- the word of the seat whose turn it is
  pub looks : (slots id : ℕ) (me : Me P V) → me.0.live ≡ true → me.0.waits ≡ true → me.0.has ≡ false → me.1 ≡ [] → Allows Rule slots id me 1 (λ n. n) (Turns items room actor_of lawful (step slots 1 0 0 none) me)
  looks slots id me live waits not empty s r room_for at _ = dite (ℕ_discrete (get_or s.words 1 0) (me.0.ticket % 2 ^ 64))
      (λ hit.
      let v = me.0 in let is = now_is s.words s.homes s.views id v r at waits hit in
      let others = nobody_has s.words s.homes s.views id v r at waits is in
      let nobody : NoneHas s.views = λ k u e. dite (ℕ_discrete k id)
      (λ same. subst (λ (z : V). z.has ≡ false) (some-injective v u (sym at ∙ subst (λ z. get_elem? s.views z ≡ some u) same e)) not)
      (λ ne. others k u ne e) in
      let home = r.home nobody in let page : P = home.0 in
      let sits = r.each id v at in let ours = sits.ours live in
      let w : V = turned v (items page) (r.turns + 1) in let log : items page ≡ r.log = home.2 in
      let more = tickets_set s.views id v w at in let same : waiting w ≡ waiting v = ap (λ b. cond b 1 0) (sym waits) in let out = r.out in (
        w,
        takes 0 page,
        home.1,
        subst (λ ws. IsKept items room actor_of lawful ws (set s.homes 0 none) (set s.views id w)) (sym (set-get_or s.words 1 0)) record {
          log = r.log;
          setting = r.setting;
          limit = r.limit;
          turns = r.turns;
          history = r.history;
          head = r.head;
          now = r.now;
          wide = r.wide;
          drawn = r.drawn;
          serving = r.serving;
          out = omega arith;
          few = subst (λ (z : ℕ). z ≤ 64) (sym (length-set s.views id w)) r.few;
          law = r.law;
          short = r.short;
          told = r.told;
          each = seats_stay (Sits actor_of r.setting r.limit r.log r.turns r.history r.head r.now) s.views id w
              record {
                ours = λ _. (ours.0, ours.1, ap (entries_by actor_of v.actor) (sym log));
                turn = λ h. absurd cc;
                ticket = λ _. sits.ticket waits;
                gone = λ dead. absurd (cc (live, dead));
                has = λ _. (refl, sym is, log, refl);
              }
              (λ k u ne e. r.each k u e);
          apart = pairs_stay s.views id w r.apart (λ k u ne e.
              let a = r.apart id k v u (λ z. ne (sym z)) at e in let b = r.apart k id u v ne e at in let low = ((r.each k u e).turn (others k u ne e)).0 in (
                record { actors = a.actors; firsts = a.firsts; tickets = λ _ h. a.tickets waits h; turns = λ l. absurd (omega arith) },
                record { actors = b.actors; firsts = b.firsts; tickets = λ h _. b.tickets h waits; turns = λ l. absurd (omega arith) },
              ));
          keeper = keepers actor_of r.setting r.log r.log r.turns r.turns r.history r.history s.views id v w at live refl refl refl refl refl refl (le_refl r.turns) (λ t _. refl) (λ a _. refl) r.keeper;
          home = λ nobody. let h = nobody id w (set_at s.views id w v at) in absurd cc;
        },
        (
          (λ miss. absurd (miss hit)),
          (λ _. (
            page,
            r.turns + 1,
            ap (λ l. (w, (0, page) ∷ l)) empty,
            (
              subst (λ (z : ℕ). z ≤ room page) (sym ours.1) home.3,
              (let l = r.short in let m = ours.1 in let n = ap length log in omega arith),
              (let t = (sits.turn not).0 in omega arith),
              subst (λ l. IsPrefix v.seen l) (sym log) (seen_begins r.log r.turns r.history r.told v.seen v.turn (sits.turn not).0 (sits.turn not).1),
              subst (λ l. lawful v.setting l) (sym log) (subst (λ x. lawful x r.log) (sym ours.0) r.law),
              ap (entries_by actor_of v.actor) log ∙ ours.2,
            ),
          )),
        ),
      ))
      (λ miss. (me.0, keeps, tt, still s.words s.homes s.views 1 id me.0 r at, ((λ _. refl), (λ hit. absurd (miss hit)))))

  next_word : (words : List ℕ) (now : ℕ) → length words ≡ 2 → get_or words 1 0 ≡ now % 2 ^ 64 → get_or (set words 1 ((get_or words 1 0 + 1) % 2 ^ 64)) 1 0 ≡ (now + 1) % 2 ^ 64
  next_word words now wide is = get_or-set_same words 1 _ 0 (omega arith) ∙ (ap (λ (z : ℕ). (z + 1) % 2 ^ 64) is ∙ up now)

  module _ (may_follow : T → List E → E → Type 0) (goes_on : (s : T) (h : List E) (e : E) → lawful s h → may_follow s h e → lawful s (h ++ e ∷ [])) where
    -- the turn is given up, with the list in the slot for the history
    pub serves : (slots id : ℕ) (me : Me P V) (page : P) → 0 < slots → me.0.live ≡ true → me.0.has ≡ true → me.1 ≡ (0, page) ∷ [] → me.0.limit ≤ room page → length (items page) ≤ me.0.limit → IsNext actor_of may_follow me.0 (items page)
        → Allows Rule slots id me 1 (λ n. (n + 1) % 2 ^ 64) (Serves items (step slots 1 1 0 none) me)
    serves slots id me page some_slot live has carried roomy short next s r long at _ =
        let v = me.0 in let sits = r.each id v at in let turn = sits.has has in let waits = turn.0 in let ours = sits.ours live in
        let is : r.now ≡ v.ticket = sym turn.1 in
        let others = nobody_has s.words s.homes s.views id v r at waits is in
        let w : V = served v (items page) in
        let more = tickets_set s.views id v w at in let one : waiting v ≡ 1 = ap (λ b. cond b 1 0) waits in let out = r.out in
        let log = turn.2 in
        let longer : (xs : List E) → IsPrefix xs r.log → IsPrefix xs (items page) = λ xs p. ⊎_elim
        (λ (e : items page ≡ v.seen). subst (λ l. IsPrefix xs l) (sym (e ∙ log)) p)
        (λ (t : (e : E) × (items page ≡ v.seen ++ e ∷ []) × may_follow v.setting v.seen e × (actor_of e ≡ v.actor)). subst (λ l. IsPrefix xs l) (sym (t.1 ∙ ap (λ l. l ++ t.0 ∷ []) log)) (prefix_more xs r.log (t.0 ∷ []) p))
        next in
        let law : lawful r.setting (items page) = ⊎_elim
        (λ (e : items page ≡ v.seen). subst (λ l. lawful r.setting l) (sym (e ∙ log)) r.law)
        (λ (t : (e : E) × (items page ≡ v.seen ++ e ∷ []) × may_follow v.setting v.seen e × (actor_of e ≡ v.actor)).
        subst (λ l. lawful r.setting l) (sym t.1) (goes_on r.setting v.seen t.0 (subst (λ l. lawful r.setting l) (sym log) r.law) (subst (λ x. may_follow x v.seen t.0) ours.0 t.2)))
        next in
        let elsewhere : (a : ℕ) → v.actor ≢ a → entries_by actor_of a (items page) ≡ entries_by actor_of a r.log = λ a differs. ⊎_elim
        (λ (e' : items page ≡ v.seen). ap (entries_by actor_of a) (e' ∙ log))
        (λ (t : (e : E) × (items page ≡ v.seen ++ e ∷ []) × may_follow v.setting v.seen e × (actor_of e ≡ v.actor)).
        ap (entries_by actor_of a) (t.1 ∙ ap (λ l. l ++ t.0 ∷ []) log) ∙ (by_append actor_of a r.log (t.0 ∷ []) ∙ (ap (λ l. entries_by actor_of a r.log ++ l) (by_other actor_of a t.0 (λ z. differs (sym t.3 ∙ z))) ∙ append-nil _)))
        next in (
          w,
          gives,
          tt,
          record {
            log = items page;
            setting = r.setting;
            limit = r.limit;
            turns = r.turns + 1;
            history = told r.history (r.turns + 1) (items page);
            head = r.head;
            now = r.now + 1;
            wide = length-set s.words 1 _ ∙ r.wide;
            drawn = get_or-set_other s.words 1 0 _ 0 (λ e. omega arith) ∙ r.drawn;
            serving = next_word s.words r.now r.wide r.serving;
            out = omega arith;
            few = subst (λ (z : ℕ). z ≤ 64) (sym (length-set s.views id w)) r.few;
            law = law;
            short = subst (λ (z : ℕ). length (items page) ≤ z) ours.1 short;
            told = tells_on r.log r.turns r.history (items page) r.told (longer r.log (prefix_self r.log));
            each = seats_stay (Sits actor_of r.setting r.limit (items page) (r.turns + 1) (told r.history (r.turns + 1) (items page)) r.head (r.now + 1)) s.views id w
                record {
                  ours = λ _. (ours.0, ours.1, refl);
                  turn = λ _. (let t = turn.3 in omega arith, sym (told_last r.history (r.turns + 1) (items page) v.turn turn.3));
                  ticket = λ h. absurd cc;
                  gone = λ dead. absurd (cc (live, dead));
                  has = λ h. absurd cc;
                }
                (λ k u ne e. let old = r.each k u e in let isnt = others k u ne e in record {
                  ours = λ l. let o = old.ours l in (o.0, o.1, elsewhere u.actor ((r.apart id k v u (λ q. ne (sym q)) at e).actors live l) ∙ o.2);
                  turn = λ _. let t = old.turn isnt in let low = t.0 in (omega arith, t.1 ∙ sym (told_before r.history r.turns (items page) u.turn t.0));
                  ticket = λ h. let t = old.ticket h in let low = t.0 in let high = t.1 in let differs = (r.apart k id u v ne e at).tickets h waits in (omega arith, high);
                  gone = old.gone;
                  has = λ h. absurd (cc (h, isnt));
                });
            apart = pairs_stay s.views id w r.apart (λ k u ne e.
                let a = r.apart id k v u (λ z. ne (sym z)) at e in let b = r.apart k id u v ne e at in (
                  record { actors = a.actors; firsts = a.firsts; tickets = λ h. absurd cc; turns = a.turns },
                  record { actors = b.actors; firsts = b.firsts; tickets = λ _ h. absurd cc; turns = b.turns },
                ));
            keeper = keepers actor_of r.setting r.log (items page) r.turns (r.turns + 1) r.history (told r.history (r.turns + 1) (items page)) s.views id v w at live refl refl refl refl refl refl (omega arith)
                (λ t le. told_before r.history r.turns (items page) t le) elsewhere r.keeper;
            home = λ _. (page, ap (λ (c : List (ℕ × P)). get_elem? (Rattle.atomic_table.specs.Table.put_back s.homes c) 0) carried ∙ set_here s.homes 0 (some page) (omega arith), refl, subst (λ (z : ℕ). z ≤ room page) ours.1 roomy);
          },
          (λ page' carried'. let same : page ≡ page' = first_is page page' (sym carried ∙ carried') in
              (λ k. (served v (items (same k)), Rattle.atomic_table.specs.Table.rest (carried k)))),
        )

  -- the table at the start
  pub opens : (words : List ℕ) (page : P) (setting : T) (limit actors : ℕ) → words ≡ 0 ∷ 0 ∷ [] → items page ≡ [] → limit ≤ room page → lawful setting []
      → IsKept items room actor_of lawful words (some page ∷ []) (founder setting limit actors ∷ [])
  opens words page setting limit actors is empty roomy law = record {
    log = [];
    setting = setting;
    limit = limit;
    turns = 0;
    history = λ t. [];
    head = 0;
    now = 0;
    wide = ap length is;
    drawn = ap (λ l. get_or l 0 0) is;
    serving = ap (λ l. get_or l 1 0) is;
    out = refl;
    few = omega arith;
    law = law;
    short = omega arith;
    told = record { start = refl; last = refl; grows = λ i j _ _. ([], refl) };
    each = only;
    apart = λ i j v u ne at there. absurd (ne (sole i v at ∙ sym (sole j u there)));
    keeper = λ k u e first. subst (λ (z : V). IsKeeper actor_of setting [] 0 (λ t. []) (founder setting limit actors ∷ []) z) (alone k u e) record {
      made = refl;
      alive = refl;
      below = λ j z e' l. subst (λ (y : V). (y.actor < 1) × (has {E = E} {T = T} [] y.actor ≡ false)) (alone j z e') (omega arith, refl);
      taken = λ a h. absurd cc;
      fresh = λ a h. refl;
      pasts = λ j p e'. absurd (cc e');
    };
    home = λ _. (page, refl, empty, roomy);
  }
    where
      alone : (id : ℕ) (v : V) → get_elem? (founder setting limit actors ∷ []) id ≡ some v → founder setting limit actors ≡ v
      alone zero v e = some-injective (founder setting limit actors) v e
      alone (suc id) v e = absurd (some-ne-none v (sym e))

      only : (id : ℕ) (v : V) → get_elem? (founder setting limit actors ∷ []) id ≡ some v → Sits actor_of setting limit [] 0 (λ t. []) 0 0 v
      only id v e = subst (Sits actor_of setting limit [] 0 (λ t. []) 0 0) (alone id v e)
          record { ours = λ _. (refl, refl, refl); turn = λ _. (omega arith, refl); ticket = λ h. absurd cc; gone = λ h. absurd cc; has = λ h. absurd cc }

      sole : (id : ℕ) (v : V) → get_elem? (founder setting limit actors ∷ []) id ≡ some v → id ≡ 0
      sole zero v e = refl
      sole (suc id) v e = absurd (some-ne-none v (sym e))

  -- a look of a seat that waits
  pub looks_waiting : (slots id word : ℕ) (v : V) (me : Me P V) → v.live ≡ true → IsWaiting v word me → Allows Rule slots id me 1 (λ n. n) (Turns items room actor_of lawful (step slots 1 0 0 none) me)
  looks_waiting slots id word v me live (t, _, is) = looks slots id me (ap (λ m. m.0.live) is ∙ live) (ap (λ m. m.0.waits) is) (ap (λ m. m.0.has) is) (ap (λ m. m.1) is)

  -- the look shows that the turn is come
  pub turn_comes : (slots word found : ℕ) (v : V) (me me' : Me P V) → IsWaiting v word me → found ≡ word → Turns items room actor_of lawful (step slots 1 0 0 none) me found me' → HasTurn items room actor_of lawful v me'
  turn_comes slots word found v me me' (t, drew, is) hit tells =
      let P' : Me P V → Type 0 = λ m. (page : P) × (turn : ℕ) × (me' ≡ (turned m.0 (items page) turn, (0, page) ∷ [])) × Sees items room actor_of lawful m.0 page turn in
      let got : P' (drawn v t, []) = subst P' is (tells.1 (hit ∙ (drew ∙ ap (λ m. m.0.ticket % 2 ^ 64) (sym is)))) in
      (t, got.0, got.1, got.2, got.3)

pub out_is : {P : Type 0} (c : List (ℕ × P)) (page : P) → let l : List (ℕ × P) = (0, page) ∷ [] in c ≡ l → c ≡ (0, page) ∷ rest c
out_is c page e = e ∙ ap (λ l. (0, page) ∷ l) (sym (ap rest e))

pub one_out : {P : Type 0} (c : List (ℕ × P)) (page list : P) → let l : List (ℕ × P) = (0, page) ∷ [] in c ≡ l → let m : List (ℕ × P) = (0, list) ∷ [] in (0, list) ∷ rest c ≡ m
one_out c page list e = ap (λ l. (0, list) ∷ l) (ap rest e)

module _ {E T P : Type 0} (items : P → List E) (room : P → ℕ) (actor_of : E → ℕ) (lawful : T → List E → Type 0) where
  -- the list is taken out of the slot
  pub takes_list : (v : View E T) (me me' : Me P (View E T)) (list new : P) → HasTurn items room actor_of lawful v me → me.1 ≡ (0, list) ∷ rest me.1 → me' ≡ (me.0, (0, new) ∷ rest me.1)
      → HasList items room actor_of lawful v list me'
  takes_list v me me' list new (t, page, turn, is, sees) got put =
      let same : page ≡ list = first_is page list (sym (ap (λ m. m.1) is) ∙ (got ∙ one_out me.1 page list (ap (λ m. m.1) is))) in
      let back : me' ≡ (turned (drawn v t) (items page) turn, (0, new) ∷ []) = put ∙ (λ k. (ap (λ m. m.0) is k, one_out me.1 page new (ap (λ m. m.1) is) k)) in
      subst (λ p. HasList items room actor_of lawful v p me') same (t, turn, new, back, sees)

  -- an entry that might follow what the seat had seen may follow the list
  pub adds : (may_follow : T → List E → E → Type 0)
      → ((s : T) (h more : List E) (e : E) → may_follow s h e → lawful s (h ++ more) → entries_by actor_of (actor_of e) more ≡ [] → may_follow s (h ++ more) e)
      → (v : View E T) (me : Me P (View E T)) (list next : P) (e : E) → HasList items room actor_of lawful v list me → may_follow v.setting v.seen e → actor_of e ≡ v.actor
      → items next ≡ items list ++ e ∷ [] → room next ≡ room list → length (items list) < v.limit
      → (me.0.limit ≤ room next) × (length (items next) ≤ me.0.limit) × IsNext actor_of may_follow me.0 (items next)
  adds may_follow stays v me list next e (t, turn, out, is, (roomy, short, later, pre, law, own)) may by longer same below =
      let P' : Me P (View E T) → Type 0 = λ m. (m.0.limit ≤ room next) × (length (items next) ≤ m.0.limit) × IsNext actor_of may_follow m.0 (items next) in
      let more = pre.0 in let whole : v.seen ++ more ≡ items list = pre.1 in
      let no_own : entries_by actor_of (actor_of e) more ≡ [] = subst (λ a. entries_by actor_of a more ≡ []) (sym by) (by_rest actor_of v.actor v.seen more (subst (λ l. entries_by actor_of v.actor l ≡ entries_by actor_of v.actor v.seen) (sym whole) own)) in
      let may' : may_follow v.setting (items list) e = subst (λ l. may_follow v.setting l e) whole (stays v.setting v.seen more e may (subst (λ l. lawful v.setting l) (sym whole) law) no_own) in
      let n = ap length longer in let m = length-append (items list) (e ∷ []) in
      let got : P' (turned (drawn v t) (items list) turn, (0, out) ∷ []) = (omega arith, omega arith, inr (e, longer, may', by)) in
      subst P' (sym is) got

  -- the list with the entry is lawful
  pub adds_lawfully : (may_follow : T → List E → E → Type 0) → ((s : T) (h : List E) (e : E) → lawful s h → may_follow s h e → lawful s (h ++ e ∷ []))
      → ((s : T) (h more : List E) (e : E) → may_follow s h e → lawful s (h ++ more) → entries_by actor_of (actor_of e) more ≡ [] → may_follow s (h ++ more) e)
      → (v : View E T) (me : Me P (View E T)) (list : P) (e : E) → HasList items room actor_of lawful v list me → may_follow v.setting v.seen e → actor_of e ≡ v.actor → lawful v.setting (items list ++ e ∷ [])
  adds_lawfully may_follow goes_on stays v me list e (t, turn, out, is, (roomy, short, later, pre, law, own)) may by =
      let no_own : entries_by actor_of (actor_of e) pre.0 ≡ [] = subst (λ a. entries_by actor_of a pre.0 ≡ []) (sym by) (by_rest actor_of v.actor v.seen pre.0 (subst (λ l. entries_by actor_of v.actor l ≡ entries_by actor_of v.actor v.seen) (sym pre.1) own)) in
      goes_on v.setting (items list) e law (subst (λ l. may_follow v.setting l e) pre.1 (stays v.setting v.seen pre.0 e may (subst (λ l. lawful v.setting l) (sym pre.1) law) no_own))

  -- the entries of the actor are one more
  pub one_more : (v : View E T) (me : Me P (View E T)) (list next : P) (e : E) → HasList items room actor_of lawful v list me → actor_of e ≡ v.actor → items next ≡ items list ++ e ∷ []
      → entries_by actor_of v.actor (items next) ≡ entries_by actor_of v.actor v.seen ++ e ∷ []
  one_more v me list next e (t, turn, out, is, (roomy, short, later, pre, law, own)) by longer =
      ap (entries_by actor_of v.actor) longer ∙ (by_append actor_of v.actor (items list) (e ∷ []) ∙ (λ k. own k ++ by_one actor_of v.actor e by k))

-- the laws of a saga, of a setting that is there
module _ {E T : Type 0} (actor_of : E → ℕ) (lawful : T → List E → Type 0) (may_follow : T → List E → E → Type 0) where
  pub goes_on_in : ((s : T) (h : List E) (e : E) → lawful s h → may_follow s h e → lawful s (h ++ e ∷ [])) → (s : Opt T) (h : List E) (e : E) → lawful_in lawful s h → may_in may_follow s h e → lawful_in lawful s (h ++ e ∷ [])
  goes_on_in law o h e l m s is = law s h e (l s is) (m s is)

  pub stays_in : ((s : T) (h more : List E) (e : E) → may_follow s h e → lawful s (h ++ more) → entries_by actor_of (actor_of e) more ≡ [] → may_follow s (h ++ more) e)
      → (s : Opt T) (h more : List E) (e : E) → may_in may_follow s h e → lawful_in lawful s (h ++ more) → entries_by actor_of (actor_of e) more ≡ [] → may_in may_follow s (h ++ more) e
  stays_in law o h more e m l nothing s is = law s h more e (m s is) (l s is) nothing

  pub may_some : (s : T) (o : Opt T) (h : List E) (e : E) → o ≡ Some s → may_follow s h e → may_in may_follow o h e
  may_some s o h e has may s' is = subst (λ x. may_follow x h e) (cc (has, is)) may

module _ {E T P : Type 0} (items : P → List E) (room : P → ℕ) (actor_of : E → ℕ) (lawful : T → List E → Type 0) where
  -- the first seat makes another
  pub makes : (id : ℕ) (v : View E T) → v.first ≡ true → v.live ≡ true → v.has ≡ false → v.made < 64
      → Splits (λ (s : State P (View E T)). IsKept items room actor_of lawful s.words s.homes s.views) id v (maker v) (made v)
  makes id v first live not few s r at =
      let w : View E T = maker v in let new : View E T = made v in let vs : List (View E T) = set s.views id w in
      let sits = r.each id v at in let ours = sits.ours live in let keeper = r.keeper id v at first in
      let long = length-set s.views id w in let count = keeper.made in
      let t1 = tickets_set s.views id v w at in let t2 = tickets_snoc vs new in let out = r.out in
      let l1 = living_set s.views id v w at in let l2 = living_snoc vs new in let alive = keeper.alive in
      let Holds : View E T → Type 0 = Sits actor_of r.setting r.limit r.log r.turns r.history r.head r.now in
      let here : Holds w = record { ours = sits.ours; turn = sits.turn; ticket = sits.ticket; gone = sits.gone; has = sits.has } in
      let there : Holds new = record { ours = λ _. (ours.0, ours.1, keeper.fresh v.made (le_refl v.made)); turn = λ _. (omega arith, sym r.told.start); ticket = λ h. absurd cc; gone = λ h. absurd cc; has = λ h. absurd cc } in
      let all : (k : ℕ) (u : View E T) → get_elem? vs k ≡ some u → Holds u = seats_stay Holds s.views id w here (λ k u _ e. r.each k u e) in
      let below : (k : ℕ) (u : View E T) → get_elem? vs k ≡ some u → u.live ≡ true → (u.actor < v.made) × (has v.joined u.actor ≡ false) =
      seats_stay (λ (z : View E T). z.live ≡ true → (z.actor < v.made) × (has v.joined z.actor ≡ false)) s.views id w (λ l. keeper.below id v at l) (λ k u _ e l. keeper.below k u e l) in
      let pairs = pairs_stay s.views id w r.apart (λ k u ne e.
      let a = r.apart id k v u (λ z. ne (sym z)) at e in let b = r.apart k id u v ne e at in (
        record { actors = a.actors; firsts = a.firsts; tickets = a.tickets; turns = a.turns },
        record { actors = b.actors; firsts = b.firsts; tickets = b.tickets; turns = b.turns },
      )) in
      let before_new : (k : ℕ) (u : View E T) → get_elem? vs k ≡ some u → IsApart u new = λ k u e. record {
        actors = λ l _ z. let b = (below k u e l).0 in omega arith;
        firsts = λ _. refl;
        tickets = λ _ h. absurd cc;
        turns = λ z. z;
      } in
      let after_new : (k : ℕ) (u : View E T) → get_elem? vs k ≡ some u → IsApart new u = λ k u e. record {
        actors = λ _ l z. let b = (below k u e l).0 in omega arith;
        firsts = λ h. absurd cc;
        tickets = λ h. absurd cc;
        turns = λ _. refl;
      } in
      let unused : has v.joined v.made ≡ false = no_such v.made (λ h. let b = keeper.taken v.made h in omega arith) in record {
        log = r.log;
        setting = r.setting;
        limit = r.limit;
        turns = r.turns;
        history = r.history;
        head = r.head;
        now = r.now;
        wide = r.wide;
        drawn = r.drawn;
        serving = r.serving;
        out = omega arith;
        few = (let n = length-append vs (new ∷ []) in omega arith);
        law = r.law;
        short = r.short;
        told = r.told;
        each = λ k u e. ⊎_elim (λ old. all k u old) (λ (t : (k ≡ length vs) × (new ≡ u)). subst Holds t.1 there) (at_end vs new u k e);
        apart = λ i j x y ne ex ey. ⊎_elim
            (λ ox. ⊎_elim (λ oy. pairs i j x y ne ox oy) (λ (t : (j ≡ length vs) × (new ≡ y)). subst (λ z. IsApart x z) t.1 (before_new i x ox)) (at_end vs new y j ey))
            (λ (t : (i ≡ length vs) × (new ≡ x)). ⊎_elim (λ oy. subst (λ z. IsApart z y) t.1 (after_new j y oy)) (λ (q : (j ≡ length vs) × (new ≡ y)). absurd (ne (t.0 ∙ sym q.0))) (at_end vs new y j ey))
            (at_end vs new x i ex);
        keeper = λ k u e f. ⊎_elim
            (λ old. ⊎_elim
            (λ (t : (k ≡ id) × (w ≡ u)). subst (λ (z : View E T). IsKeeper actor_of r.setting r.log r.turns r.history (vs ++ new ∷ []) z) t.1 record {
              made = (let n = length-append vs (new ∷ []) in omega arith);
              alive = omega arith;
              below = λ j z ez l. ⊎_elim (λ o. let b = below j z o l in let c = b.0 in (omega arith, b.1)) (λ (q : (j ≡ length vs) × (new ≡ z)). subst (λ (y : View E T). (y.actor < v.made + 1) × (has v.joined y.actor ≡ false)) q.1 (omega arith, unused)) (at_end vs new z j ez);
              taken = λ a h. let b = keeper.taken a h in omega arith;
              fresh = λ a h. keeper.fresh a (omega arith);
              pasts = keeper.pasts;
            })
            (λ (t : (k ≢ id) × (get_elem? s.views k ≡ some u)). let g = (r.apart id k v u (λ z. t.0 (sym z)) at t.1).firsts first in absurd (cc (f, g)))
            (at_set s.views id k w u old))
            (λ (t : (k ≡ length vs) × (new ≡ u)). let g = ap (λ (z : View E T). z.first) t.1 in absurd (cc (f, g)))
            (at_end vs new u k e);
        home = λ nobody. r.home (λ k u e. dite (ℕ_discrete k id)
            (λ same. subst (λ (z : View E T). z.has ≡ false) (some-injective v u (sym at ∙ subst (λ z. get_elem? s.views z ≡ some u) same e)) not)
            (λ ne. nobody k u (at_longer vs (new ∷ []) k u (set_else s.views id k w ne ∙ e))));
      }
    where
      no_such : (a : ℕ) → (has v.joined a ≡ true → ⊥) → has v.joined a ≡ false
      no_such a isnt = go (has v.joined a) refl
        where
          go : (b : Bool) → has v.joined a ≡ b → b ≡ false
          go true h = absurd (isnt h)
          go false h = refl

module _ {E T P : Type 0} (items : P → List E) (room : P → ℕ) (actor_of : E → ℕ) (lawful : T → List E → Type 0) where
  two_stay : (Q : View E T → Type 0) (views : List (View E T)) (id other : ℕ) (b g : View E T) → Q b → Q g → ((k : ℕ) (u : View E T) → k ≢ id → k ≢ other → get_elem? views k ≡ some u → Q u)
      → (k : ℕ) (u : View E T) → get_elem? (set (set views id b) other g) k ≡ some u → Q u
  two_stay Q views id other b g qb qg old k u e = ⊎_elim (λ (t : (k ≡ other) × (g ≡ u)). subst Q t.1 qg)
      (λ (t : (k ≢ other) × (get_elem? (set views id b) k ≡ some u)). ⊎_elim (λ (q : (k ≡ id) × (b ≡ u)). subst Q q.1 qb) (λ (q : (k ≢ id) × (get_elem? views k ≡ some u)). old k u q.0 t.0 q.1) (at_set views id k b u t.1))
      (at_set (set views id b) other k g u e)

  gone_apart : (n : T) (u : View E T) → IsApart {E = E} (gone n) u × IsApart u (gone n)
  gone_apart n u = (
    record { actors = λ h. absurd cc; firsts = λ h. absurd cc; tickets = λ h. absurd cc; turns = λ _. refl },
    record { actors = λ _ h. absurd cc; firsts = λ _. refl; tickets = λ _ h. absurd cc; turns = λ z. z },
  )

  had : (x : Past E T) (xs : List (Past E T)) (a : ℕ) → has (x ∷ xs) a ≡ true → (x.actor ≡ a) ⊎ (has xs a ≡ true)
  had x xs a h = dite (ℕ_discrete x.actor a) (λ e. inl e) (λ ne. inr (subst (λ b. (b || has xs a) ≡ true) (ne_eqb x.actor a ne) h))

  had_not : (x : Past E T) (xs : List (Past E T)) (a : ℕ) → x.actor ≢ a → has xs a ≡ false → has (x ∷ xs) a ≡ false
  had_not x xs a ne h = subst (λ b. (b || has xs a) ≡ false) (sym (ne_eqb x.actor a ne)) h

  -- the first seat takes another in
  pub takes_in : (n : T) (id : ℕ) (v : View E T) (other : ℕ) (w : View E T) → v.first ≡ true → v.live ≡ true → v.has ≡ false → w.live ≡ true → w.waits ≡ false → w.has ≡ false
      → Joins (λ (s : State P (View E T)). IsKept items room actor_of lawful s.words s.homes s.views) id v other w (taker v w) (gone n)
  takes_in n id v other w first live not live' idle' not' s r at apart at' =
      let b : View E T = taker v w in let g : View E T = gone n in let vs : List (View E T) = set s.views id b in
      let there : get_elem? s.views other ≡ some w = sym (set_else s.views id other b apart) ∙ at' in
      let sits = r.each id v at in let sits' = r.each other w there in let ours = sits.ours live in let ours' = sits'.ours live' in
      let keeper = r.keeper id v at first in
      let vw = r.apart id other v w (λ z. apart (sym z)) at there in
      let t1 = tickets_set s.views id v b at in let t2 = tickets_set vs other w g at' in let zero : waiting w ≡ 0 = ap (λ x. cond x 1 0) idle' in let out = r.out in
      let l1 = living_set s.views id v b at in let l2 = living_set vs other w g at' in let alive = keeper.alive in
      let one : (let c : ℕ = cond w.live 1 0 in c) ≡ 1 = ap (λ x. cond x 1 0) live' in let vl : (let c : ℕ = cond v.live 1 0 in c) ≡ cond b.live 1 0 = refl in
      let Holds : View E T → Type 0 = Sits actor_of r.setting r.limit r.log r.turns r.history r.head r.now in
      let here : Holds b = record {
        ours = sits.ours;
        turn = sits.turn;
        ticket = sits.ticket;
        gone = sits.gone;
        has = λ h. absurd (cc (h, not));
      } in
      let dead : Holds g = record { ours = λ h. absurd cc; turn = λ _. (omega arith, sym r.told.start); ticket = λ h. absurd cc; gone = λ _. (refl, refl); has = λ h. absurd cc } in
      let first_apart : (k : ℕ) (u : View E T) → k ≢ id → k ≢ other → get_elem? s.views k ≡ some u → IsApart b u × IsApart u b = λ k u ne ne' e.
      let a = r.apart id k v u (λ z. ne (sym z)) at e in let c = r.apart k id u v ne e at in (
        record { actors = a.actors; firsts = a.firsts; tickets = a.tickets; turns = a.turns },
        record { actors = c.actors; firsts = c.firsts; tickets = c.tickets; turns = c.turns },
      ) in
      let b_apart : (k : ℕ) (u : View E T) → k ≢ id → get_elem? (set s.views other g) k ≡ some u → IsApart b u × IsApart u b = λ k u ne e. ⊎_elim
      (λ (t : (k ≡ other) × (g ≡ u)). let q = gone_apart n b in subst (λ (z : View E T). IsApart b z × IsApart z b) t.1 (q.1, q.0))
      (λ (t : (k ≢ other) × (get_elem? s.views k ≡ some u)). first_apart k u ne t.0 t.1) (at_set s.views other k g u e) in
      let pairs = pairs_stay (set s.views other g) id b (pairs_stay s.views other g r.apart (λ k u _ _. gone_apart n u)) b_apart in
      let same_lists : set (set s.views other g) id b ≡ set vs other g = set_swap s.views other id g b apart in record {
        log = r.log;
        setting = r.setting;
        limit = r.limit;
        turns = r.turns;
        history = r.history;
        head = r.head;
        now = r.now;
        wide = r.wide;
        drawn = r.drawn;
        serving = r.serving;
        out = omega arith;
        few = subst (λ (z : ℕ). z ≤ 64) (sym (length-set vs other g ∙ length-set s.views id b)) r.few;
        law = r.law;
        short = r.short;
        told = r.told;
        each = seats_stay Holds vs other g dead (λ k u _ e. seats_stay Holds s.views id b here (λ j z _ ez. r.each j z ez) k u e);
        apart = λ i j x y ne ex ey. pairs i j x y ne (subst (λ l. get_elem? l i ≡ some x) (sym same_lists) ex) (subst (λ l. get_elem? l j ≡ some y) (sym same_lists) ey);
        keeper = two_stay (λ (z : View E T). z.first ≡ true → IsKeeper actor_of r.setting r.log r.turns r.history (set vs other g) z) s.views id other b g
            (λ _. record {
              made = keeper.made ∙ sym (length-set vs other g ∙ length-set s.views id b);
              alive = omega arith;
              below = two_stay (λ (z : View E T). z.live ≡ true → (z.actor < v.made) × (has (past_of w ∷ v.joined) z.actor ≡ false)) s.views id other b g
                  (λ _. let q = keeper.below id v at live in (q.0, had_not (past_of w) v.joined v.actor (λ z. vw.actors live live' (sym z)) q.1))
                  (λ h. absurd cc)
                  (λ k u ne ne' e l. let q = keeper.below k u e l in (q.0, had_not (past_of w) v.joined u.actor ((r.apart other k w u (λ z. ne' (sym z)) there e).actors live' l) q.1));
              taken = λ a h. ⊎_elim (λ (e : w.actor ≡ a). subst (λ z. z < v.made) e (keeper.below other w there live').0) (λ q. keeper.taken a q) (had (past_of w) v.joined a h);
              fresh = keeper.fresh;
              pasts = λ k p e. one_more_past actor_of r.setting r.log r.turns r.history (past_of w) v.joined (ours'.0, (sits'.turn not').0, (sits'.turn not').1, ours'.2) keeper.pasts k p e;
            })
            (λ h. absurd cc)
            (λ k u ne ne' e f. let q = (r.apart id k v u (λ z. ne (sym z)) at e).firsts first in absurd (cc (f, q)));
        home = λ nobody. r.home (λ k u e. dite (ℕ_discrete k id)
            (λ same. subst (λ (z : View E T). z.has ≡ false) (some-injective v u (sym at ∙ subst (λ z. get_elem? s.views z ≡ some u) same e)) not)
            (λ ne. dite (ℕ_discrete k other)
            (λ same. subst (λ (z : View E T). z.has ≡ false) (some-injective w u (sym there ∙ subst (λ z. get_elem? s.views z ≡ some u) same e)) not')
            (λ ne'. nobody k u (set_else vs other k g ne' ∙ (set_else s.views id k b ne ∙ e)))));
      }

  living_two : (views : List (View E T)) (i k : ℕ) (v u : View E T) → k ≢ i → get_elem? views i ≡ some v → get_elem? views k ≡ some u → v.live ≡ true → u.live ≡ true → 2 ≤ living views
  living_two views i k v u ne at there lv lu =
      let dead : View E T = gone v.setting in
      let a = living_set views i v dead at in let b = living_set (set views i dead) k u dead (set_else views i k dead ne ∙ there) in
      let x : (let c : ℕ = cond v.live 1 0 in c) ≡ 1 = ap (λ y. cond y 1 0) lv in let y : (let c : ℕ = cond u.live 1 0 in c) ≡ 1 = ap (λ y. cond y 1 0) lu in omega arith

  -- where the first seat is the only one left, the slot has the history, of which it and those that it took in have seen what they should
  pub closes : (words : List ℕ) (homes : List (Option P)) (views : List (View E T)) (id : ℕ) (v : View E T) → IsKept items room actor_of lawful words homes views → get_elem? views id ≡ some v
      → v.first ≡ true → v.live ≡ true → v.has ≡ false → v.alive ≡ 1
      → (page : P) × (get_elem? homes 0 ≡ some (some page)) × (length (items page) ≤ v.limit) × IsByActors actor_of v.made (items page) × AreTold actor_of lawful (items page) (past_of v ∷ v.joined)
  closes words homes views id v r at first live not alone =
      let keeper = r.keeper id v at first in let sits = r.each id v at in let ours = sits.ours live in
      let nobody : NoneHas views = λ k u e. dite (ℕ_discrete k id)
      (λ same. subst (λ (z : View E T). z.has ≡ false) (some-injective v u (sym at ∙ subst (λ z. get_elem? views z ≡ some u) same e)) not)
      (λ ne. ((r.each k u e).gone (off u.live (λ l. let two = living_two views id k v u ne at e live l in let n = keeper.alive in omega arith))).1) in
      let home = r.home nobody in let log : items home.0 ≡ r.log = home.2 in
      let pasts : (k : ℕ) (p : Past E T) → slice_get (past_of v ∷ v.joined) k ≡ Some p → IsPast actor_of r.setting r.log r.turns r.history p =
      one_more_past actor_of r.setting r.log r.turns r.history (past_of v) v.joined (ours.0, (sits.turn not).0, (sits.turn not).1, ours.2) keeper.pasts in (
        home.0,
        home.1,
        (let l = r.short in let m = ours.1 in let n = ap length log in omega arith),
        subst (IsByActors actor_of v.made) (sym log) keeper.fresh,
        subst (λ l. AreTold actor_of lawful l (past_of v ∷ v.joined)) (sym log) (are_told actor_of lawful r.setting r.log r.turns r.history (past_of v ∷ v.joined) r.law r.told pasts),
      )
    where
      off : (b : Bool) → (b ≡ true → ⊥) → b ≡ false
      off true isnt = absurd (isnt refl)
      off false isnt = refl
