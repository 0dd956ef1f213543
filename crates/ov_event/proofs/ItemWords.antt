-- An item that is read is written so, and what is written is read again.
use Rattle.std.proofs.Common.{◌≡◌, ℕ, ℤ, Bool, true, ◌&&◌, IsTrue, ◌↔◌, List, [], ◌∷◌, ◌++◌, map, length, Option, Some, None, Result, Ok, refl, sym, ap, subst, ◌∙◌, codes, append_assoc, inl, inr}
use Rattle.std.specs.List.{flat_map, AllByRecursion}
use Rattle.std.specs.Str.{bytes_eq}
use Rattle.std.proofs.lemmas.Bool.{cases_Bool, eqb-true, and_parts}
use Rattle.std.proofs.lemmas.List.Elements.{recursion_from_All}
use Rattle.std.proofs.lemmas.List.{append-nil, nil_from_length}
use Rattle.std.proofs.lemmas.Option.{cond_some}
use Rattle.ov_base.specs.Amount.{IsAmount, amount_text, amount_of}
use Rattle.ov_base.specs.Groups.{groups_of, groups_text}
use Rattle.ov_base.specs.Key.{key_of, key_eq}
use Rattle.ov_base.specs.Lemmas.{key_eq-exact}
use Rattle.ov_base.specs.Split.{joined, all_of}
use Rattle.ov_base.specs.Version.{version_text, version_of}
use Rattle.ov_base.specs.Word.{Reads}
use Rattle.ov_base.proofs.Amounts.{amount_again, amount_takes}
use Rattle.ov_base.proofs.GroupTexts.{IsGrouped, groups_again, groups_takes, groups_behind}
use Rattle.ov_base.proofs.GroupedWords.{amount_grouped, key_grouped, version_grouped}
use Rattle.ov_base.proofs.Joins.{HasFirst, joined_behind}
use Rattle.ov_base.proofs.Keys.{key_again, key_takes, key_eq-self}
use Rattle.ov_base.proofs.Lists.{all_appended}
use Rattle.ov_base.proofs.Readers.{bind_some, chosen, either, word_is, reads_by_laws}
use Rattle.ov_base.proofs.Traverse.{all_of_again, all_of_takes, all_of_texts}
use Rattle.ov_base.proofs.Versions.{version_again, version_takes}
use Rattle.ov_functor.specs.Form.{is_functor, formed}
use Rattle.ov_functor.specs.Placeholder.{Placeholder}
use Rattle.ov_functor.specs.declared.effect.Effect.{Effect}
use Rattle.ov_functor.specs.declared.effect.Effect.TheVariants.{Put, Del, Add, Least, Greatest, Out, In}
use Rattle.ov_functor.specs.declared.functor.FunctorError.{FunctorError}
use Rattle.ov_functor.specs.declared.item.Item.{Item}
use Rattle.ov_functor.specs.declared.part.Move.{Move}
use Rattle.ov_event.specs.ItemWords.{effect_words, move_words, item_words, move_text, fields_text, items_text, IsEffect, IsMove, HasFields, IsItem, amount_effect, amount_effect_of, effect_of, move_between, move_of, moves_of, item_with, functor_item_of, item_of, is_blank, items_behind, items_of}

-- ---- effects

effect_again : (effect : Effect) (more : List (List ℕ)) → IsEffect effect → effect_of (effect_words effect ++ more) ≡ Some (effect, more)
effect_again (Put amount) more h = rw (amount_again amount h) refl
effect_again Del more h = refl
effect_again (Add amount) more h = rw (amount_again amount h) refl
effect_again (Least amount) more h = rw (amount_again amount h) refl
effect_again (Greatest amount) more h = rw (amount_again amount h) refl
effect_again (Out amount) more h = rw (amount_again amount h) refl
effect_again (In amount) more h = rw (amount_again amount h) refl

amount_effect_takes : (word : List ℕ) (amount : ℤ) (effect : Effect) → IsAmount amount → amount_effect word amount ≡ Some effect
    → IsEffect effect × (word ∷ amount_text amount ∷ [] ≡ effect_words effect)
amount_effect_takes word amount effect h e =
    let goal = λ (x : Effect). IsEffect x × (word ∷ amount_text amount ∷ [] ≡ effect_words x) in
    either (bytes_eq word (codes "put")) (Some (Put amount)) _ effect e
    (λ same is. let q : ◌≡◌ {A = Effect} (Put amount) effect = cc in subst goal q (h, rw (word_is word (codes "put") same) refl))
    λ e2. either (bytes_eq word (codes "add")) (Some (Add amount)) _ effect e2
    (λ same is. let q : ◌≡◌ {A = Effect} (Add amount) effect = cc in subst goal q (h, rw (word_is word (codes "add") same) refl))
    λ e3. either (bytes_eq word (codes "least")) (Some (Least amount)) _ effect e3
    (λ same is. let q : ◌≡◌ {A = Effect} (Least amount) effect = cc in subst goal q (h, rw (word_is word (codes "least") same) refl))
    λ e4. either (bytes_eq word (codes "greatest")) (Some (Greatest amount)) _ effect e4
    (λ same is. let q : ◌≡◌ {A = Effect} (Greatest amount) effect = cc in subst goal q (h, rw (word_is word (codes "greatest") same) refl))
    λ e5. either (bytes_eq word (codes "out")) (Some (Out amount)) _ effect e5
    (λ same is. let q : ◌≡◌ {A = Effect} (Out amount) effect = cc in subst goal q (h, rw (word_is word (codes "out") same) refl))
    λ e6. let c = cond_some (bytes_eq word (codes "in")) (In amount) effect e6 in
    subst goal c.1 (h, rw (word_is word (codes "in") c.0) refl)

-- an effect that is read, and what stands behind it
abbrev EffectRead : List (List ℕ) → Effect × List (List ℕ) → Type 0
EffectRead words read = IsEffect read.0 × (words ≡ effect_words read.0 ++ read.1)

amount_effect_of_takes : (word : List ℕ) (words : List (List ℕ)) (read : Effect × List (List ℕ)) → amount_effect_of word words ≡ Some read → EffectRead (word ∷ words) read
amount_effect_of_takes word [] read e = absurd cc
amount_effect_of_takes word (amount ∷ more) read e =
    bind_some (amount_of amount) _ read e λ a here rest.
    bind_some (amount_effect word a) _ read rest λ effect there last.
    let q : ◌≡◌ {A = Effect × List (List ℕ)} (effect, more) read = cc in
    let some = amount_takes amount a here in
    let t = amount_effect_takes word a effect some.0 there in
    subst (EffectRead (word ∷ amount ∷ more)) q (t.0, ap (λ (x : List ℕ). word ∷ x ∷ more) some.1 ∙ ap (λ (x : List (List ℕ)). x ++ more) t.1)

effect_takes : (words : List (List ℕ)) (read : Effect × List (List ℕ)) → effect_of words ≡ Some read → EffectRead words read
effect_takes [] read e = absurd cc
effect_takes (word ∷ more) read e =
    either (bytes_eq word (codes "del")) (Some (Del, more)) _ read e
    (λ same is. let q : ◌≡◌ {A = Effect × List (List ℕ)} (Del, more) read = cc in subst (EffectRead (word ∷ more)) q (tt, ap (λ (x : List ℕ). x ∷ more) (word_is word (codes "del") same)))
    λ e2. amount_effect_of_takes word more read e2

-- ---- moves

moves_again : (moves : List Move) → AllByRecursion IsMove moves → moves_of (flat_map move_words moves) ≡ Some moves
unfolding moves_of
moves_again [] h = refl
moves_again (move ∷ moves) h = rw (key_again move.from h.0.0, key_again move.to h.0.1, amount_again move.amount h.0.2, moves_again moves h.1) refl

move_takes : (word from to amount : List ℕ) (move : Move) → move_of word from to amount ≡ Some move → IsMove move × (word ∷ from ∷ to ∷ amount ∷ [] ≡ move_words move)
move_takes word from to amount move e =
    let c = chosen (bytes_eq word (codes "if")) (move_between from to amount) move e in
    bind_some (key_of from) _ move c.1 λ f read rest.
    bind_some (key_of to) _ move rest λ t read2 rest2.
    bind_some (amount_of amount) _ move rest2 λ a read3 last.
    let made : Move = record { from = f; to = t; amount = a } in
    let q : made ≡ move = cc in
    let giver = key_takes from f read in
    let getter = key_takes to t read2 in
    let some = amount_takes amount a read3 in
    subst (λ (m : Move). IsMove m × (word ∷ from ∷ to ∷ amount ∷ [] ≡ move_words m)) q
    ((giver.0, getter.0, some.0), rw (word_is word (codes "if") c.0, giver.1, getter.1, some.1) refl)

pub moves_takes : (words : List (List ℕ)) (moves : List Move) → moves_of words ≡ Some moves → AllByRecursion IsMove moves × (words ≡ flat_map move_words moves)
unfolding moves_of
moves_takes [] moves e =
    let q : ◌≡◌ {A = List Move} [] moves = cc in
    subst (λ (m : List Move). AllByRecursion IsMove m × ([] ≡ flat_map move_words m)) q (tt, refl)
moves_takes (word ∷ []) moves e = absurd cc
moves_takes (word ∷ from ∷ []) moves e = absurd cc
moves_takes (word ∷ from ∷ to ∷ []) moves e = absurd cc
moves_takes (word ∷ from ∷ to ∷ amount ∷ more) moves e =
    bind_some (move_of word from to amount) _ moves e λ move here rest.
    bind_some (moves_of more) _ moves rest λ others there last.
    let q : ◌≡◌ {A = List Move} (move ∷ others) moves = cc in
    let one = move_takes word from to amount move here in
    let rest_of = moves_takes more others there in
    subst (λ (m : List Move). AllByRecursion IsMove m × (word ∷ from ∷ to ∷ amount ∷ more ≡ flat_map move_words m)) q
    ((one.0, rest_of.0), ap (λ (t : List (List ℕ)). t ++ more) one.1 ∙ ap (λ (t : List (List ℕ)). move_words move ++ t) rest_of.1)

-- ---- items

formed_again : (functor : Placeholder) → is_functor functor ≡ true → formed functor ≡ Ok functor
formed_again functor h = rw h refl

-- the words of an item in form are read as that item
pub item_again : (item : Item) → IsItem item → item_of (item_words item) ≡ Some item
unfolding item_of
item_again item h =
    let same : ◌≡◌ {A = Placeholder} (record { key = item.key; effect = item.functor.effect; moves = item.functor.moves }) item.functor =
    ap (λ (k : List ℕ). record { key = k; effect = item.functor.effect; moves = item.functor.moves }) (sym h.own) in
    rw (
      version_again item.version h.version,
      key_again item.key h.key,
      effect_again item.functor.effect (flat_map move_words item.functor.moves) h.effect,
      moves_again item.functor.moves h.moves,
    ) (ap (λ (f : Result Placeholder FunctorError). item_with item.version item.key f) (ap formed same ∙ formed_again item.functor h.form))

formed_takes : (version : ℕ) (key : List ℕ) (functor : Placeholder) (item : Item) → item_with version key (formed functor) ≡ Some item
    → (is_functor functor ≡ true) × ((record { version = version; key = key; functor = functor }) ≡ item)
formed_takes version key functor item e =
    elim (cases_Bool (is_functor functor)) [
      | inl form ↦ let q : ◌≡◌ {A = Option Item} (Some (record { version = version; key = key; functor = functor })) (Some item) = rw form at e in (form, cc)
      | inr off ↦ let q : ◌≡◌ {A = Option Item} None (Some item) = rw off at e in absurd cc
    ]

functor_item_takes : (version key : List ℕ) (words : List (List ℕ)) (item : Item) → functor_item_of version key words ≡ Some item
    → IsItem item × (version ∷ key ∷ words ≡ item_words item)
functor_item_takes version key words item e =
    bind_some (version_of version) _ item e λ v read rest.
    bind_some (key_of key) _ item rest λ k read2 rest2.
    bind_some (effect_of words) _ item rest2 λ effect read3 rest3.
    bind_some (moves_of effect.1) _ item rest3 λ moves read4 last.
    let functor : Placeholder = record { key = k; effect = effect.0; moves = moves } in
    let f = formed_takes v k functor item last in
    let one = version_takes version v read in
    let two = key_takes key k read2 in
    let three = effect_takes words effect read3 in
    let four = moves_takes effect.1 moves read4 in
    subst (λ (x : Item). IsItem x × (version ∷ key ∷ words ≡ item_words x)) f.1 (
      record { version = one.0; key = two.0; effect = three.0; moves = four.0; own = refl; form = f.0 },
      rw (one.1, two.1) (ap (λ (t : List (List ℕ)). version_text v ∷ k ∷ t) (three.1 ∙ ap (λ (t : List (List ℕ)). effect_words effect.0 ++ t) four.1)),
    )

-- an item that is read is in form, and its words are those that were read
pub item_takes : (words : List (List ℕ)) (item : Item) → item_of words ≡ Some item → IsItem item × (words ≡ item_words item)
unfolding item_of
item_takes [] item e = absurd cc
item_takes (version ∷ []) item e = absurd cc
item_takes (version ∷ key ∷ words) item e = functor_item_takes version key words item e

-- ---- the words of items in the groups of a line

effect_grouped : (effect : Effect) → IsEffect effect → AllByRecursion IsGrouped (effect_words effect)
effect_grouped (Put amount) h = (record { space = refl; line = refl; apart = refl }, (amount_grouped amount h, tt))
effect_grouped Del h = (record { space = refl; line = refl; apart = refl }, tt)
effect_grouped (Add amount) h = (record { space = refl; line = refl; apart = refl }, (amount_grouped amount h, tt))
effect_grouped (Least amount) h = (record { space = refl; line = refl; apart = refl }, (amount_grouped amount h, tt))
effect_grouped (Greatest amount) h = (record { space = refl; line = refl; apart = refl }, (amount_grouped amount h, tt))
effect_grouped (Out amount) h = (record { space = refl; line = refl; apart = refl }, (amount_grouped amount h, tt))
effect_grouped (In amount) h = (record { space = refl; line = refl; apart = refl }, (amount_grouped amount h, tt))

moves_grouped : (moves : List Move) → AllByRecursion IsMove moves → AllByRecursion IsGrouped (flat_map move_words moves)
moves_grouped [] h = tt
moves_grouped (move ∷ moves) h = (
  record { space = refl; line = refl; apart = refl },
  (key_grouped move.from h.0.0, (key_grouped move.to h.0.1, (amount_grouped move.amount h.0.2, moves_grouped moves h.1))),
)

-- each word of an item can stand in a group of a line
pub item_grouped : (item : Item) → IsItem item → AllByRecursion IsGrouped (item_words item)
item_grouped item h = (
  version_grouped item.version h.version,
  (
    key_grouped item.key h.key,
    all_appended IsGrouped (effect_words item.functor.effect) (flat_map move_words item.functor.moves) (effect_grouped item.functor.effect h.effect) (moves_grouped item.functor.moves h.moves),
  ),
)

-- so can those of items
pub items_grouped : (items : List Item) → AllByRecursion IsItem items → AllByRecursion (AllByRecursion IsGrouped) (map item_words items)
items_grouped items h = all_of_texts (AllByRecursion IsGrouped) IsItem item_words item_grouped items h

-- an item has words
pub item_some : (item : Item) → HasFirst (item_words item)
item_some item = (version_text item.version, item.key ∷ (effect_words item.functor.effect ++ flat_map move_words item.functor.moves), refl)

-- ---- the text of items

-- words, and moves behind them
moves_joined : (words : List (List ℕ)) → HasFirst words → (moves : List Move) → joined 32 words ++ flat_map move_text moves ≡ joined 32 (words ++ flat_map move_words moves)
moves_joined words some [] = append-nil (joined 32 words) ∙ ap (joined 32) (sym (append-nil words))
moves_joined words some (move ∷ moves) =
    let longer : HasFirst (words ++ move_words move) = (some.0, some.1 ++ move_words move, ap (λ (t : List (List ℕ)). t ++ move_words move) some.2) in
    let next : joined 32 (words ++ move_words move) ≡ joined 32 words ++ move_text move =
    rw some.2 (joined_behind 32 some.0 some.1 (codes "if") (move.from ∷ move.to ∷ amount_text move.amount ∷ [])) in
    sym (append_assoc (joined 32 words) (move_text move) (flat_map move_text moves))
    ∙ ap (λ (t : List ℕ). t ++ flat_map move_text moves) (sym next)
    ∙ moves_joined (words ++ move_words move) longer moves
    ∙ ap (joined 32) (append_assoc words (move_words move) (flat_map move_words moves))

fields_joined : (version : ℕ) (key : List ℕ) (effect : Effect) → fields_text version key effect ≡ joined 32 (version_text version ∷ key ∷ effect_words effect)
fields_joined version key (Put amount) = refl
fields_joined version key Del = refl
fields_joined version key (Add amount) = refl
fields_joined version key (Least amount) = refl
fields_joined version key (Greatest amount) = refl
fields_joined version key (Out amount) = refl
fields_joined version key (In amount) = refl

-- the fields of an item, and its moves behind them, are the text of its words
pub item_joined : (item : Item) → fields_text item.version item.key item.functor.effect ++ flat_map move_text item.functor.moves ≡ joined 32 (item_words item)
item_joined item =
    ap (λ (t : List ℕ). t ++ flat_map move_text item.functor.moves) (fields_joined item.version item.key item.functor.effect)
    ∙ moves_joined (version_text item.version ∷ item.key ∷ effect_words item.functor.effect) (version_text item.version, item.key ∷ effect_words item.functor.effect, refl) item.functor.moves

-- the text of items is that of their groups behind an empty word
items_joined : (items : List Item) → groups_text (([] ∷ []) ∷ map item_words items) ≡ items_text items
items_joined items = groups_behind item_words item_some ([] ∷ []) ([], [], refl) items

-- the text of items in form is read as those items
pub items_again : (items : List Item) → AllByRecursion IsItem items → items_of (items_text items) ≡ Some items
items_again items h =
    ap items_of (sym (items_joined items))
    ∙ ap items_behind (groups_again ([] ∷ []) (map item_words items) ([], [], refl) ((record { space = refl; line = refl; apart = refl }, tt), items_grouped items h))
    ∙ all_of_again item_of IsItem item_words item_again items h

blank_is : (words : List (List ℕ)) → is_blank words ≡ true → words ≡ [] ∷ []
blank_is [] e = absurd cc
blank_is (word ∷ []) e = ap (λ (w : List ℕ). w ∷ []) (nil_from_length word (eqb-true (length word) 0 e))
blank_is (word ∷ more ∷ words) e = absurd cc

behind_takes : (groups : List (List (List ℕ))) (items : List Item) → items_behind groups ≡ Some items → AllByRecursion IsItem items × (groups ≡ ([] ∷ []) ∷ map item_words items)
behind_takes [] items e = absurd cc
behind_takes (first ∷ groups) items e =
    let c = chosen (is_blank first) (all_of item_of groups) items e in
    let all = all_of_takes item_of IsItem item_words item_takes groups items c.1 in
    (all.0, rw (blank_is first c.0, all.1) refl)

-- items that are read are in form, and their bytes are their text
pub items_takes : (text : List ℕ) (items : List Item) → items_of text ≡ Some items → AllByRecursion IsItem items × (text ≡ items_text items)
items_takes text items e =
    let t = behind_takes (groups_of text) items e in
    (t.0, sym (groups_takes text) ∙ ap groups_text t.1 ∙ items_joined items)

-- what is read are the items that the bytes spell, and nothing where they spell none
pub items_reads : (text : List ℕ) → Reads items_text (AllByRecursion IsItem) text (items_of text)
items_reads text = reads_by_laws items_of items_text (AllByRecursion IsItem) items_again items_takes text

-- ---- the items that have a text

both : (a b : Bool) → a ≡ true → b ≡ true → (a && b) ≡ true
both a b h k = rw (h, k) refl

-- an item whose fields are in form has a text exactly where its functor is one of its key, and on the form
pub form_is : (item : Item) (b : Bool) → HasFields item → b ≡ (key_eq item.functor.key item.key && is_functor item.functor) → IsTrue b ↔ IsItem item
form_is item b h e = (
  λ holds.
      let own = and_parts (key_eq item.functor.key item.key) (is_functor item.functor) (sym e ∙ holds) in
      record {
        version = h.0;
        key = h.1;
        effect = h.2;
        moves = recursion_from_All IsMove item.functor.moves h.3;
        own = key_eq-exact item.functor.key item.key own.0;
        form = own.1;
      },
  λ i.
      let own = subst (λ (key : List ℕ). key_eq item.functor.key key ≡ true) i.own (key_eq-self item.functor.key) in
      e ∙ both (key_eq item.functor.key item.key) (is_functor item.functor) own i.form,
)
