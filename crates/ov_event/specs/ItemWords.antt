-- Items as words: which items have a text, their words, and how a text is read. In a text each item stands behind ` ; `.
use Rattle.std.specs.Prelude.{◌≡◌, ◌==◌, ℕ, ℤ, Bool, true, false, length, List, [], ◌∷◌, ◌++◌, codes, Option, Some, None, Result, if◌then◌else◌}
use Rattle.std.specs.List.{All, flat_map, AllByRecursion}
use Rattle.std.specs.Result.{result_ok}
use Rattle.std.specs.Str.{bytes_eq}
use Rattle.ov_base.specs.Word.{◌>>=◌}
use Rattle.ov_base.specs.Groups.{groups_of}
use Rattle.ov_base.specs.Split.{joined, all_of}
use Rattle.ov_base.specs.Key.{IsKey, key_of}
use Rattle.ov_base.specs.Amount.{IsAmount, amount_text, amount_of}
use Rattle.ov_base.specs.Version.{IsVersion, version_text, version_of}
use Rattle.ov_functor.specs.Form.{is_functor, formed}
use Rattle.ov_functor.specs.Placeholder.{Placeholder}
use Rattle.ov_functor.specs.declared.effect.Effect.{Effect}
use Rattle.ov_functor.specs.declared.effect.Effect.TheVariants.{Put, Del, Add, Least, Greatest, Out, In}
use Rattle.ov_functor.specs.declared.functor.FunctorError.{FunctorError}
use Rattle.ov_functor.specs.declared.item.Item.{Item}
use Rattle.ov_functor.specs.declared.part.Move.{Move}

-- ---- the words of an item

-- the words of an effect
abbrev pub effect_words : Effect → List (List ℕ)
effect_words (Put amount) = codes "put" ∷ amount_text amount ∷ []
effect_words Del = codes "del" ∷ []
effect_words (Add amount) = codes "add" ∷ amount_text amount ∷ []
effect_words (Least amount) = codes "least" ∷ amount_text amount ∷ []
effect_words (Greatest amount) = codes "greatest" ∷ amount_text amount ∷ []
effect_words (Out amount) = codes "out" ∷ amount_text amount ∷ []
effect_words (In amount) = codes "in" ∷ amount_text amount ∷ []

-- the words of a move that has to hold
abbrev pub move_words : Move → List (List ℕ)
move_words move = codes "if" ∷ move.from ∷ move.to ∷ amount_text move.amount ∷ []

-- the words of an item: its version, its key, its effect, and its moves
abbrev pub item_words : Item → List (List ℕ)
item_words item = version_text item.version ∷ item.key ∷ effect_words item.functor.effect ++ flat_map move_words item.functor.moves

-- the text of an effect
abbrev pub effect_text : Effect → List ℕ
effect_text effect = joined 32 (effect_words effect)

-- a move behind a space
abbrev pub move_text : Move → List ℕ
move_text move = 32 ∷ joined 32 (move_words move)

-- the text of a version, a key and an effect
abbrev pub fields_text : ℕ → List ℕ → Effect → List ℕ
fields_text version key effect = version_text version ++ (32 ∷ key ++ 32 ∷ effect_text effect)

-- an item behind ` ; `
abbrev pub item_text : Item → List ℕ
item_text item = codes " ; " ++ joined 32 (item_words item)

-- the text of items, each behind ` ; `
abbrev pub items_text : List Item → List ℕ
items_text items = flat_map item_text items

-- ---- the items that have a text

-- the effect is in form
abbrev pub IsEffect : Effect → Type 0
IsEffect (Put amount) = IsAmount amount
IsEffect Del = Unit {0}
IsEffect (Add amount) = IsAmount amount
IsEffect (Least amount) = IsAmount amount
IsEffect (Greatest amount) = IsAmount amount
IsEffect (Out amount) = IsAmount amount
IsEffect (In amount) = IsAmount amount

-- the move is in form
abbrev pub IsMove : Move → Type 0
IsMove move = IsKey move.from × IsKey move.to × IsAmount move.amount

-- the fields of the item are in form
abbrev pub HasFields : Item → Type 0
HasFields item = IsVersion item.version × IsKey item.key × IsEffect item.functor.effect × All IsMove item.functor.moves

-- The item is in form: its words are, and it has a functor of its own key.
pub record IsItem (item : Item) : Type 0 where
  pub version : IsVersion item.version
  pub key : IsKey item.key
  pub effect : IsEffect item.functor.effect
  pub moves : AllByRecursion IsMove item.functor.moves
  pub own : item.functor.key ≡ item.key
  pub form : is_functor item.functor ≡ true

-- ---- reading items

-- the effect of this word with an amount
abbrev pub amount_effect : List ℕ → ℤ → Option Effect
amount_effect word amount =
    if bytes_eq word (codes "put") then Some (Put amount)
    else (if bytes_eq word (codes "add") then Some (Add amount)
    else (if bytes_eq word (codes "least") then Some (Least amount)
    else (if bytes_eq word (codes "greatest") then Some (Greatest amount)
    else (if bytes_eq word (codes "out") then Some (Out amount)
    else (if bytes_eq word (codes "in") then Some (In amount) else None)))))

-- reading the effect of this word and of the amount behind it, and what stands behind that
abbrev pub amount_effect_of : List ℕ → List (List ℕ) → Option (Effect × List (List ℕ))
amount_effect_of word [] = None
amount_effect_of word (amount ∷ more) = do
  a ← amount_of amount
  effect ← amount_effect word a
  Some (effect, more)

-- reading an effect, and what stands behind it
abbrev pub effect_of : List (List ℕ) → Option (Effect × List (List ℕ))
effect_of [] = None
effect_of (word ∷ more) = if bytes_eq word (codes "del") then Some (Del, more) else amount_effect_of word more

-- reading the two keys and the amount of a move
abbrev pub move_between : List ℕ → List ℕ → List ℕ → Option Move
move_between from to amount = do
  giver ← key_of from
  getter ← key_of to
  a ← amount_of amount
  Some (record { from = giver; to = getter; amount = a })

-- reading `if KEY KEY AMOUNT`
abbrev pub move_of : List ℕ → List ℕ → List ℕ → List ℕ → Option Move
move_of word from to amount = if bytes_eq word (codes "if") then move_between from to amount else None

-- reading moves, of four words each
unfoldable pub moves_of : List (List ℕ) → Option (List Move)
moves_of [] = Some []
moves_of (word ∷ []) = None
moves_of (word ∷ from ∷ []) = None
moves_of (word ∷ from ∷ to ∷ []) = None
moves_of (word ∷ from ∷ to ∷ amount ∷ more) = do
  move ← move_of word from to amount
  moves ← moves_of more
  Some (move ∷ moves)

-- the item of a functor, where there is one
abbrev pub item_by : ℕ → List ℕ → Option Placeholder → Option Item
item_by version key functor = functor >>= λ f. Some (record { version = version; key = key; functor = f })

-- the item of a functor that is on the form
abbrev pub item_with : ℕ → List ℕ → Result Placeholder FunctorError → Option Item
item_with version key functor = item_by version key (result_ok functor)

-- reading a version, a key, and behind them an effect and moves that make a functor of the key
abbrev pub functor_item_of : List ℕ → List ℕ → List (List ℕ) → Option Item
functor_item_of version key words = do
  v ← version_of version
  k ← key_of key
  effect ← effect_of words
  moves ← moves_of effect.1
  item_with v k (formed (record { key = k; effect = effect.0; moves = moves }))

-- reading the words of an item
unfoldable pub item_of : List (List ℕ) → Option Item
item_of [] = None
item_of (version ∷ []) = None
item_of (version ∷ key ∷ words) = functor_item_of version key words

-- whether this is the one empty word in front of the first `;`
abbrev pub is_blank : List (List ℕ) → Bool
is_blank [] = false
is_blank (word ∷ []) = length word == 0
is_blank (word ∷ more ∷ words) = false

-- reading items behind the empty word in front of the first `;`
abbrev pub items_behind : List (List (List ℕ)) → Option (List Item)
items_behind [] = None
items_behind (first ∷ groups) = if is_blank first then all_of item_of groups else None

-- reading the text of items
abbrev pub items_of : List ℕ → Option (List Item)
items_of text = items_behind (groups_of text)
