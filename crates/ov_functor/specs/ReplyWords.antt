-- Replies as words: which replies have a text, their words, and how a text is read.
use Rattle.std.specs.Prelude.{ℕ, ◌≤◌, nat_le, List, [], ◌∷◌, ◌++◌, map, length, codes, Option, Some, None, if◌then◌else◌}
use Rattle.std.specs.List.{AllByRecursion}
use Rattle.std.specs.Str.{bytes_eq}
use Rattle.ov_base.specs.Word.{◌>>=◌}
use Rattle.ov_base.specs.Groups.{words_of}
use Rattle.ov_base.specs.Split.{cut_at, all_of}
use Rattle.ov_base.specs.Key.{IsKey, key_of}
use Rattle.ov_base.specs.Value.{IsValue, value_text, value_of}
use Rattle.ov_base.specs.Version.{IsVersion, version_text, version_of}
use Rattle.ov_functor.specs.declared.item.Shown.{Shown}
use Rattle.ov_functor.specs.declared.reply.Reply.{Reply}
use Rattle.ov_functor.specs.declared.reply.Reply.TheVariants.{Done, Aborted, Snap}

-- ---- the words of a reply

-- `KEY=VALUE`
abbrev pub shown_word : Shown → List ℕ
shown_word shown = shown.key ++ 61 ∷ value_text shown.value

-- the words of a reply: its first word, its version or watermark, and a word for each key that it shows
abbrev pub reply_words : Reply → List (List ℕ)
reply_words (Done version gets) = codes "done" ∷ version_text version ∷ map shown_word gets
reply_words (Aborted version gets) = codes "aborted" ∷ version_text version ∷ map shown_word gets
reply_words (Snap watermark shown) = codes "snap" ∷ version_text watermark ∷ map shown_word shown

-- ---- the replies that have a text

-- the most keys that a reply shows
abbrev pub most_shown : ℕ
most_shown = 8

-- a shown key is in form
abbrev pub IsShown : Shown → Type 0
IsShown shown = IsKey shown.key × IsValue shown.value

-- A version or watermark in its range, and at most 8 shown keys, each in form.
pub record IsShowing (mark : ℕ) (list : List Shown) : Type 0 where
  pub held : IsVersion mark
  pub few : length list ≤ most_shown
  pub each : AllByRecursion IsShown list

-- the reply is in form
abbrev pub IsReply : Reply → Type 0
IsReply (Done version gets) = IsShowing version gets
IsReply (Aborted version gets) = IsShowing version gets
IsReply (Snap watermark shown) = IsShowing watermark shown

-- ---- reading a reply

-- reading `KEY=VALUE`
abbrev pub shown_of : List ℕ → Option Shown
shown_of word = do
  sides ← cut_at 61 word
  key ← key_of sides.0
  value ← value_of sides.1
  Some (record { key = key; value = value })

-- the list, where it is short enough
abbrev pub few_shown : List Shown → Option (List Shown)
few_shown list = if nat_le (length list) most_shown then Some list else None

-- the reply of this first word
abbrev pub reply_named : List ℕ → ℕ → List Shown → Option Reply
reply_named word mark shown =
    if bytes_eq word (codes "done") then Some (Done mark shown)
    else (if bytes_eq word (codes "aborted") then Some (Aborted mark shown)
    else (if bytes_eq word (codes "snap") then Some (Snap mark shown) else None))

-- reading a first word, a version or watermark, and shown keys
abbrev pub showing_of : List ℕ → List ℕ → List (List ℕ) → Option Reply
showing_of word mark shown = do
  m ← version_of mark
  list ← all_of shown_of shown
  few ← few_shown list
  reply_named word m few

-- reading the words of a reply
unfoldable pub reply_of : List (List ℕ) → Option Reply
reply_of [] = None
reply_of (word ∷ []) = None
reply_of (word ∷ mark ∷ shown) = showing_of word mark shown

-- reading the text of a reply: its words stand between spaces
abbrev pub reply_from : List ℕ → Option Reply
reply_from text = reply_of (words_of text)
