-- A reply that is read is written so, and what is written is read again.
use Rattle.std.proofs.Common.{◌≡◌, ℕ, true, leb, List, [], ◌∷◌, ◌++◌, map, length, Some, refl, sym, ap, subst, ◌∙◌, codes}
use Rattle.std.specs.List.{flat_map, AllByRecursion}
use Rattle.std.specs.Str.{bytes_eq}
use Rattle.std.proofs.lemmas.Bool.{le-leb, leb-true}
use Rattle.std.proofs.lemmas.Option.{cond_some}
use Rattle.ov_base.specs.Groups.{words_of}
use Rattle.ov_base.specs.Key.{key_of}
use Rattle.ov_base.specs.Split.{cut_at, joined, lacks, all_of}
use Rattle.ov_base.specs.Value.{value_text, value_of}
use Rattle.ov_base.specs.Version.{version_text, version_of}
use Rattle.ov_base.specs.Word.{Reads}
use Rattle.ov_base.proofs.GroupTexts.{IsGrouped, words_again, words_joined}
use Rattle.ov_base.proofs.GroupedWords.{read_grouped, value_grouped, version_grouped}
use Rattle.ov_base.proofs.Joins.{HasFirst, joined_flat}
use Rattle.ov_base.proofs.Keys.{key_again, key_takes, key_lacks}
use Rattle.ov_base.proofs.Lists.{all_weaker}
use Rattle.ov_base.proofs.Readers.{bind_some, either, word_is, reads_by_laws}
use Rattle.ov_base.proofs.Splits.{cut_again, cut_takes, lacks_appended}
use Rattle.ov_base.proofs.Traverse.{all_of_again, all_of_takes, all_of_texts}
use Rattle.ov_base.proofs.Values.{value_again, value_takes}
use Rattle.ov_base.proofs.Versions.{version_again, version_takes}
use Rattle.ov_functor.specs.declared.item.Shown.{Shown}
use Rattle.ov_functor.specs.declared.reply.Reply.{Reply}
use Rattle.ov_functor.specs.declared.reply.Reply.TheVariants.{Done, Aborted, Snap}
use Rattle.ov_functor.specs.Reply.{shown_text, showns_text, reply_text}
use Rattle.ov_functor.specs.ReplyWords.{shown_word, reply_words, most_shown, IsShown, IsShowing, IsReply, shown_of, few_shown, reply_named, showing_of, reply_of, reply_from}

-- ---- a shown key

shown_again : (shown : Shown) → IsShown shown → shown_of (shown_word shown) ≡ Some shown
shown_again shown h =
    rw (cut_again 61 shown.key (value_text shown.value) (key_lacks 61 shown.key refl h.0), key_again shown.key h.0, value_again shown.value h.1) refl

shown_takes : (word : List ℕ) (shown : Shown) → shown_of word ≡ Some shown → IsShown shown × (word ≡ shown_word shown)
shown_takes word shown e =
    bind_some (cut_at 61 word) _ shown e λ sides cut rest.
    bind_some (key_of sides.0) _ shown rest λ key read rest2.
    bind_some (value_of sides.1) _ shown rest2 λ value read2 last.
    let k = key_takes sides.0 key read in
    let v = value_takes sides.1 value read2 in
    let made : Shown = record { key = key; value = value } in
    let q : made ≡ shown = cc in
    subst (λ (s : Shown). IsShown s × (word ≡ shown_word s)) q ((k.0, v.0), cut_takes 61 word sides.0 sides.1 cut ∙ rw (k.1, v.1) refl)

-- ---- the words of a reply

showing_again : (word : List ℕ) (mark : ℕ) (list : List Shown) (reply : Reply) → IsShowing mark list → reply_named word mark list ≡ Some reply
    → showing_of word (version_text mark) (map shown_word list) ≡ Some reply
showing_again word mark list reply h e =
    rw (version_again mark h.held, all_of_again shown_of IsShown shown_word shown_again list h.each, le-leb (length list) most_shown h.few) e

-- the words of a reply in form are read as that reply
pub reply_again : (reply : Reply) → IsReply reply → reply_of (reply_words reply) ≡ Some reply
unfolding reply_of
reply_again (Done version gets) h = showing_again (codes "done") version gets (Done version gets) h refl
reply_again (Aborted version gets) h = showing_again (codes "aborted") version gets (Aborted version gets) h refl
reply_again (Snap watermark shown) h = showing_again (codes "snap") watermark shown (Snap watermark shown) h refl

-- the reply is in form, and these are its words
abbrev IsSpelled : List (List ℕ) → Reply → Type 0
IsSpelled words reply = IsReply reply × (words ≡ reply_words reply)

named_takes : (word : List ℕ) (mark : ℕ) (list : List Shown) (reply : Reply) → IsShowing mark list → reply_named word mark list ≡ Some reply
    → IsSpelled (word ∷ version_text mark ∷ map shown_word list) reply
named_takes word mark list reply h e =
    let goal = IsSpelled (word ∷ version_text mark ∷ map shown_word list) in
    either (bytes_eq word (codes "done")) (Some (Done mark list)) _ reply e
    (λ same is. let q : ◌≡◌ {A = Reply} (Done mark list) reply = cc in subst goal q (h, rw (word_is word (codes "done") same) refl))
    λ e2. either (bytes_eq word (codes "aborted")) (Some (Aborted mark list)) _ reply e2
    (λ same is. let q : ◌≡◌ {A = Reply} (Aborted mark list) reply = cc in subst goal q (h, rw (word_is word (codes "aborted") same) refl))
    λ e3. let c = cond_some (bytes_eq word (codes "snap")) (Snap mark list) reply e3 in
    subst goal c.1 (h, rw (word_is word (codes "snap") c.0) refl)

showing_takes : (word mark : List ℕ) (shown : List (List ℕ)) (reply : Reply) → showing_of word mark shown ≡ Some reply → IsSpelled (word ∷ mark ∷ shown) reply
showing_takes word mark shown reply e =
    bind_some (version_of mark) _ reply e λ m read rest.
    bind_some (all_of shown_of shown) _ reply rest λ list each rest2.
    bind_some (few_shown list) _ reply rest2 λ few short last.
    let q = cond_some (leb (length list) most_shown) list few short in
    let v = version_takes mark m read in
    let a = all_of_takes shown_of IsShown shown_word shown_takes shown list each in
    let named : reply_named word m list ≡ Some reply = subst (λ (l : List Shown). reply_named word m l ≡ Some reply) (sym q.1) last in
    rw (v.1, a.1) (named_takes word m list reply (record { held = v.0; few = leb-true (length list) most_shown q.0; each = a.0 }) named)

-- a reply that is read is in form, and its words are those that were read
pub reply_takes : (words : List (List ℕ)) (reply : Reply) → reply_of words ≡ Some reply → IsReply reply × (words ≡ reply_words reply)
unfolding reply_of
reply_takes [] reply e = absurd cc
reply_takes (word ∷ []) reply e = absurd cc
reply_takes (word ∷ mark ∷ shown) reply e = showing_takes word mark shown reply e

-- ---- the text of a reply

showns_flat : (list : List Shown) → flat_map (λ word. 32 ∷ word) (map shown_word list) ≡ showns_text list
showns_flat [] = refl
showns_flat (shown ∷ list) = ap (λ (t : List ℕ). shown_text shown ++ t) (showns_flat list)

showing_joined : (word : List ℕ) (mark : ℕ) (list : List Shown) → joined 32 (word ∷ version_text mark ∷ map shown_word list) ≡ word ++ 32 ∷ (version_text mark ++ showns_text list)
showing_joined word mark list =
    let behind : joined 32 (version_text mark ∷ map shown_word list) ≡ version_text mark ++ showns_text list =
    sym (joined_flat 32 (version_text mark) (map shown_word list)) ∙ ap (λ (t : List ℕ). version_text mark ++ t) (showns_flat list) in
    ap (λ (t : List ℕ). word ++ 32 ∷ t) behind

-- the words of a reply, with a space between them, are its text
pub reply_joined : (reply : Reply) → joined 32 (reply_words reply) ≡ reply_text reply
reply_joined (Done version gets) = showing_joined (codes "done") version gets
reply_joined (Aborted version gets) = showing_joined (codes "aborted") version gets
reply_joined (Snap watermark shown) = showing_joined (codes "snap") watermark shown

shown_lacks : (b : ℕ) (shown : Shown) → lacks b shown.key ≡ true → lacks b (61 ∷ value_text shown.value) ≡ true → lacks b (shown_word shown) ≡ true
shown_lacks b shown key value = lacks_appended b shown.key (61 ∷ value_text shown.value) key value

shown_grouped : (shown : Shown) → IsShown shown → IsGrouped (shown_word shown)
shown_grouped shown h =
    let value = value_grouped shown.value h.1 in
    read_grouped shown_of (shown_word shown) shown (shown_again shown h) refl
    (shown_lacks 32 shown (key_lacks 32 shown.key refl h.0) value.space)
    (shown_lacks 10 shown (key_lacks 10 shown.key refl h.0) value.line)

showing_grouped : (word : List ℕ) (mark : ℕ) (list : List Shown) → IsGrouped word → IsShowing mark list → AllByRecursion IsGrouped (word ∷ version_text mark ∷ map shown_word list)
showing_grouped word mark list first h = (first, (version_grouped mark h.held, all_of_texts IsGrouped IsShown shown_word shown_grouped list h.each))

-- each word of a reply can stand in a group of a line
pub reply_grouped : (reply : Reply) → IsReply reply → AllByRecursion IsGrouped (reply_words reply)
reply_grouped (Done version gets) h = showing_grouped (codes "done") version gets (record { space = refl; line = refl; apart = refl }) h
reply_grouped (Aborted version gets) h = showing_grouped (codes "aborted") version gets (record { space = refl; line = refl; apart = refl }) h
reply_grouped (Snap watermark shown) h = showing_grouped (codes "snap") watermark shown (record { space = refl; line = refl; apart = refl }) h

-- a reply has words
pub reply_some : (reply : Reply) → HasFirst (reply_words reply)
reply_some (Done version gets) = (codes "done", version_text version ∷ map shown_word gets, refl)
reply_some (Aborted version gets) = (codes "aborted", version_text version ∷ map shown_word gets, refl)
reply_some (Snap watermark shown) = (codes "snap", version_text watermark ∷ map shown_word shown, refl)

-- the text of a reply in form is read as that reply
pub reply_from_again : (reply : Reply) → IsReply reply → reply_from (reply_text reply) ≡ Some reply
reply_from_again reply h =
    ap reply_from (sym (reply_joined reply))
    ∙ ap reply_of (words_again (reply_words reply) (reply_some reply) (all_weaker IsGrouped (λ word. lacks 32 word ≡ true) (λ word grouped. grouped.space) (reply_words reply) (reply_grouped reply h)))
    ∙ reply_again reply h

-- a reply that is read is in form, and its bytes are its text
pub reply_from_takes : (text : List ℕ) (reply : Reply) → reply_from text ≡ Some reply → IsReply reply × (text ≡ reply_text reply)
reply_from_takes text reply e =
    let t = reply_takes (words_of text) reply e in
    (t.0, sym (words_joined text) ∙ ap (joined 32) t.1 ∙ reply_joined reply)

-- what is read is the reply that the bytes spell, and nothing where they spell none
pub reply_reads : (text : List ℕ) → Reads reply_text IsReply text (reply_from text)
reply_reads text = reads_by_laws reply_from reply_text IsReply reply_from_again reply_from_takes text
