-- The words of replies.
use Rattle.std.specs.Prelude.{ℕ, List, ◌∷◌, ◌++◌, codes}
use Rattle.std.specs.List.{flat_map}
use Rattle.ov_base.specs.Value.{value_text}
use Rattle.ov_base.specs.Version.{version_text}
use Rattle.ov_functor.specs.declared.item.Shown.{Shown}
use Rattle.ov_functor.specs.declared.reply.Reply.{Reply}
use Rattle.ov_functor.specs.declared.reply.Reply.TheVariants.{Done, Aborted, Snap}

-- ` KEY=VALUE`
abbrev pub shown_text : Shown → List ℕ
shown_text shown = 32 ∷ shown.key ++ 61 ∷ value_text shown.value

-- the shown keys, in their order
abbrev pub showns_text : List Shown → List ℕ
showns_text list = flat_map shown_text list

-- a word, a version or watermark, and the shown keys
abbrev pub reply_by : List ℕ → ℕ → List Shown → List ℕ
reply_by word mark list = word ++ (version_text mark ++ showns_text list)

-- the one spelling of a reply
abbrev pub reply_text : Reply → List ℕ
reply_text (Done version gets) = reply_by (codes "done ") version gets
reply_text (Aborted version gets) = reply_by (codes "aborted ") version gets
reply_text (Snap watermark shown) = reply_by (codes "snap ") watermark shown
