-- Lines and their entries: each line of the kinds of a short journal is read as its entry, and is the text of that entry.
use Rattle.std.proofs.Common.{◌≡◌, ℕ, pos, [], ◌∷◌, Some, None, codes, refl, arith}
use Rattle.std.specs.Fmt.{decimal}
use Rattle.std.proofs.lemmas.Fmt.{decimal_digit}
use Rattle.ov_base.specs.Amount.{amount_of}
use Rattle.ov_base.specs.Key.{key_eq}
use Rattle.ov_base.specs.Number.{number_of}
use Rattle.ov_base.specs.Value.{value_of}
use Rattle.ov_base.specs.Version.{version_of}
use Rattle.ov_base.specs.declared.value.Value.TheVariants.{Number}
use Rattle.ov_event.specs.ItemWords.{item_of, moves_of}
use Rattle.ov_event.specs.declared.entry.Entry.{Entry}
use Rattle.ov_event.specs.declared.kind.Kind.{Kind}
use Rattle.ov_event.specs.declared.kind.Kind.TheVariants as kinds
use Rattle.ov_event.specs.declared.start.Start.TheVariants.{Draw, Look}
use Rattle.ov_functor.specs.ReplyWords.{reply_of}
use Rattle.ov_functor.specs.Words.{part_of}
use Rattle.ov_functor.specs.declared.effect.Effect.TheVariants as effects
use Rattle.ov_functor.specs.declared.item.Item.{Item}
use Rattle.ov_functor.specs.declared.part.Part.TheVariants as parts
use Rattle.ov_functor.specs.declared.reply.Reply.TheVariants.{Done}
use Rattle.ov_gossip.specs.declared.marks.Marks.{Marks}
use Rattle.ov_topology.specs.Actor.{actor_of, gate_of, settler_of, node_at}
use Rattle.ov_topology.specs.Place.{letter_of}
use Rattle.ov_topology.specs.declared.actor.Actor.{Actor}
use Rattle.ov_topology.specs.declared.actor.Actor.TheVariants.{Gate, Node, Settler}
use Rattle.ov_topology.specs.declared.mode.Mode.TheVariants.{Quorum}
use Rattle.ov_topology.specs.declared.place.Place.{Place}
use Rattle.ov_journal.specs.Line.{entry_text}
use Rattle.ov_journal.specs.Read.{entry_of, entry_of_groups, marks_of, valued_of, began_of, stored_of, acked_of, published_of, heard_of, asked_of, answered_of, taken_of, settled_of, resulted_of, replied_of, told_of, stopped_of}

abbrev at : ℕ → ℕ → Place
at entry letter = record { entry = entry; letter = letter }

abbrev by : Actor → Kind → Entry
by actor kind = record { actor = actor; kind = kind }

abbrev marks : Marks
marks = record { low = 131072; full = 131072; done = 65536 }

abbrev put_x : Item
put_x = record { version = 65536; key = codes "x"; functor = record { key = codes "x"; effect = effects.Put (pos 5); moves = [] } }

-- ---- decimals of one digit

zero : decimal 0 ≡ codes "0"
zero = decimal_digit 0 (omega arith)

one : decimal 1 ≡ codes "1"
one = decimal_digit 1 (omega arith)

two : decimal 2 ≡ codes "2"
two = decimal_digit 2 (omega arith)

four : decimal 4 ≡ codes "4"
four = decimal_digit 4 (omega arith)

five : decimal 5 ≡ codes "5"
five = decimal_digit 5 (omega arith)

six : decimal 6 ≡ codes "6"
six = decimal_digit 6 (omega arith)

seven : decimal 7 ≡ codes "7"
seven = decimal_digit 7 (omega arith)

eight : decimal 8 ≡ codes "8"
eight = decimal_digit 8 (omega arith)

nine : decimal 9 ≡ codes "9"
nine = decimal_digit 9 (omega arith)

ruleset digits = (zero, one, two, four, five, six, seven, eight, nine)

-- ---- the entry of each line

began : entry_of (codes "g0 began 0 1 do 1.0 put x 5") ≡ Some (by (Gate 0) (kinds.Began 0 1 (Draw 65536 (parts.Put (codes "x") (pos 5) ∷ []))))
unfolding entry_of_groups marks_of valued_of began_of stored_of acked_of published_of heard_of asked_of answered_of taken_of settled_of resulted_of replied_of told_of stopped_of actor_of gate_of settler_of node_at letter_of number_of version_of value_of amount_of part_of item_of moves_of reply_of key_eq
began = simp digits

looked : entry_of (codes "g0 began 0 2 snap 1.0 x y") ≡ Some (by (Gate 0) (kinds.Began 0 2 (Look 65536 (codes "x" ∷ codes "y" ∷ []))))
unfolding entry_of_groups marks_of valued_of began_of stored_of acked_of published_of heard_of asked_of answered_of taken_of settled_of resulted_of replied_of told_of stopped_of actor_of gate_of settler_of node_at letter_of number_of version_of value_of amount_of part_of item_of moves_of reply_of key_eq
looked = simp digits

stored : entry_of (codes "n0.0 stored 1 1 1.0 ; 1.0 x put 5") ≡ Some (by (Node 0 0) (kinds.Stored (at 1 1) 65536 (put_x ∷ [])))
unfolding entry_of_groups marks_of valued_of began_of stored_of acked_of published_of heard_of asked_of answered_of taken_of settled_of resulted_of replied_of told_of stopped_of actor_of gate_of settler_of node_at letter_of number_of version_of value_of amount_of part_of item_of moves_of reply_of key_eq
stored = simp digits

acked : entry_of (codes "g0 acked 2 1 1.0 n0.0") ≡ Some (by (Gate 0) (kinds.Acked (at 2 1) 65536 0 0))
unfolding entry_of_groups marks_of valued_of began_of stored_of acked_of published_of heard_of asked_of answered_of taken_of settled_of resulted_of replied_of told_of stopped_of actor_of gate_of settler_of node_at letter_of number_of version_of value_of amount_of part_of item_of moves_of reply_of key_eq
acked = simp digits

published : entry_of (codes "g0 published 2 ; 2.0 2.0 1.0") ≡ Some (by (Gate 0) (kinds.Published 2 (marks ∷ [])))
unfolding entry_of_groups marks_of valued_of began_of stored_of acked_of published_of heard_of asked_of answered_of taken_of settled_of resulted_of replied_of told_of stopped_of actor_of gate_of settler_of node_at letter_of number_of version_of value_of amount_of part_of item_of moves_of reply_of key_eq
published = simp digits

heard : entry_of (codes "e0 heard 4 1 ; 2.0 2.0 1.0") ≡ Some (by (Settler 0) (kinds.Heard (at 4 1) (marks ∷ [])))
unfolding entry_of_groups marks_of valued_of began_of stored_of acked_of published_of heard_of asked_of answered_of taken_of settled_of resulted_of replied_of told_of stopped_of actor_of gate_of settler_of node_at letter_of number_of version_of value_of amount_of part_of item_of moves_of reply_of key_eq
heard = simp digits

asked : entry_of (codes "e0 asked 1 quorum 0.0 2.0") ≡ Some (by (Settler 0) (kinds.Asked 1 Quorum 0 131072))
unfolding entry_of_groups marks_of valued_of began_of stored_of acked_of published_of heard_of asked_of answered_of taken_of settled_of resulted_of replied_of told_of stopped_of actor_of gate_of settler_of node_at letter_of number_of version_of value_of amount_of part_of item_of moves_of reply_of key_eq
asked = simp digits

answered : entry_of (codes "n0.0 answered 8 1 e0 1 ; 1.0 x put 5") ≡ Some (by (Node 0 0) (kinds.Answered (at 8 1) 0 1 (put_x ∷ [])))
unfolding entry_of_groups marks_of valued_of began_of stored_of acked_of published_of heard_of asked_of answered_of taken_of settled_of resulted_of replied_of told_of stopped_of actor_of gate_of settler_of node_at letter_of number_of version_of value_of amount_of part_of item_of moves_of reply_of key_eq
answered = simp digits

taken : entry_of (codes "e0 taken 9 1 1 n0.0 ; 1.0 x put 5") ≡ Some (by (Settler 0) (kinds.Taken (at 9 1) 1 0 0 (put_x ∷ [])))
unfolding entry_of_groups marks_of valued_of began_of stored_of acked_of published_of heard_of asked_of answered_of taken_of settled_of resulted_of replied_of told_of stopped_of actor_of gate_of settler_of node_at letter_of number_of version_of value_of amount_of part_of item_of moves_of reply_of key_eq
taken = simp digits

settled : entry_of (codes "e0 settled ; 1.0 x 5") ≡ Some (by (Settler 0) (kinds.Settled (record { version = 65536; key = codes "x"; value = Number (pos 5) } ∷ [])))
unfolding entry_of_groups marks_of valued_of began_of stored_of acked_of published_of heard_of asked_of answered_of taken_of settled_of resulted_of replied_of told_of stopped_of actor_of gate_of settler_of node_at letter_of number_of version_of value_of amount_of part_of item_of moves_of reply_of key_eq
settled = simp digits

resulted : entry_of (codes "e0 resulted 7 1 0 2 g0 done 2.0 x=5") ≡ Some (by (Settler 0) (kinds.Resulted (at 7 1) 0 2 0 (Done 131072 (record { key = codes "x"; value = Number (pos 5) } ∷ []))))
unfolding entry_of_groups marks_of valued_of began_of stored_of acked_of published_of heard_of asked_of answered_of taken_of settled_of resulted_of replied_of told_of stopped_of actor_of gate_of settler_of node_at letter_of number_of version_of value_of amount_of part_of item_of moves_of reply_of key_eq
resulted = simp digits

replied : entry_of (codes "g0 replied 6 1 0 1 done 1.0") ≡ Some (by (Gate 0) (kinds.Replied (at 6 1) 0 1 (Done 65536 [])))
unfolding entry_of_groups marks_of valued_of began_of stored_of acked_of published_of heard_of asked_of answered_of taken_of settled_of resulted_of replied_of told_of stopped_of actor_of gate_of settler_of node_at letter_of number_of version_of value_of amount_of part_of item_of moves_of reply_of key_eq
replied = simp digits

told : entry_of (codes "g1 told 5 1 0 1") ≡ Some (by (Gate 1) (kinds.Told (at 5 1) 0 1))
unfolding entry_of_groups marks_of valued_of began_of stored_of acked_of published_of heard_of asked_of answered_of taken_of settled_of resulted_of replied_of told_of stopped_of actor_of gate_of settler_of node_at letter_of number_of version_of value_of amount_of part_of item_of moves_of reply_of key_eq
told = simp digits

stopped : entry_of (codes "n2.1 stopped") ≡ Some (by (Node 2 1) kinds.Stopped)
unfolding entry_of_groups marks_of valued_of began_of stored_of acked_of published_of heard_of asked_of answered_of taken_of settled_of resulted_of replied_of told_of stopped_of actor_of gate_of settler_of node_at letter_of number_of version_of value_of amount_of part_of item_of moves_of reply_of key_eq
stopped = refl

-- ---- the line of each entry

began_line : entry_text (by (Gate 0) (kinds.Began 0 1 (Draw 65536 (parts.Put (codes "x") (pos 5) ∷ [])))) ≡ codes "g0 began 0 1 do 1.0 put x 5"
began_line = simp digits

looked_line : entry_text (by (Gate 0) (kinds.Began 0 2 (Look 65536 (codes "x" ∷ codes "y" ∷ [])))) ≡ codes "g0 began 0 2 snap 1.0 x y"
looked_line = simp digits

stored_line : entry_text (by (Node 0 0) (kinds.Stored (at 1 1) 65536 (put_x ∷ []))) ≡ codes "n0.0 stored 1 1 1.0 ; 1.0 x put 5"
stored_line = simp digits

acked_line : entry_text (by (Gate 0) (kinds.Acked (at 2 1) 65536 0 0)) ≡ codes "g0 acked 2 1 1.0 n0.0"
acked_line = simp digits

published_line : entry_text (by (Gate 0) (kinds.Published 2 (marks ∷ []))) ≡ codes "g0 published 2 ; 2.0 2.0 1.0"
published_line = simp digits

heard_line : entry_text (by (Settler 0) (kinds.Heard (at 4 1) (marks ∷ []))) ≡ codes "e0 heard 4 1 ; 2.0 2.0 1.0"
heard_line = simp digits

asked_line : entry_text (by (Settler 0) (kinds.Asked 1 Quorum 0 131072)) ≡ codes "e0 asked 1 quorum 0.0 2.0"
asked_line = simp digits

answered_line : entry_text (by (Node 0 0) (kinds.Answered (at 8 1) 0 1 (put_x ∷ []))) ≡ codes "n0.0 answered 8 1 e0 1 ; 1.0 x put 5"
answered_line = simp digits

taken_line : entry_text (by (Settler 0) (kinds.Taken (at 9 1) 1 0 0 (put_x ∷ []))) ≡ codes "e0 taken 9 1 1 n0.0 ; 1.0 x put 5"
taken_line = simp digits

settled_line : entry_text (by (Settler 0) (kinds.Settled (record { version = 65536; key = codes "x"; value = Number (pos 5) } ∷ []))) ≡ codes "e0 settled ; 1.0 x 5"
settled_line = simp digits

resulted_line : entry_text (by (Settler 0) (kinds.Resulted (at 7 1) 0 2 0 (Done 131072 (record { key = codes "x"; value = Number (pos 5) } ∷ [])))) ≡ codes "e0 resulted 7 1 0 2 g0 done 2.0 x=5"
resulted_line = simp digits

replied_line : entry_text (by (Gate 0) (kinds.Replied (at 6 1) 0 1 (Done 65536 []))) ≡ codes "g0 replied 6 1 0 1 done 1.0"
replied_line = simp digits

told_line : entry_text (by (Gate 1) (kinds.Told (at 5 1) 0 1)) ≡ codes "g1 told 5 1 0 1"
told_line = simp digits

stopped_line : entry_text (by (Node 2 1) kinds.Stopped) ≡ codes "n2.1 stopped"
stopped_line = simp digits

-- ---- lines off the grammar

-- a word more, a gap, a place from 0, another sort of actor, an empty line
none_more : entry_of (codes "g0 told 5 1 0 1 1") ≡ None
unfolding entry_of_groups marks_of valued_of began_of stored_of acked_of published_of heard_of asked_of answered_of taken_of settled_of resulted_of replied_of told_of stopped_of actor_of gate_of settler_of node_at letter_of number_of version_of value_of amount_of part_of item_of moves_of reply_of key_eq
none_more = refl

none_gap : entry_of (codes "g0 told  5 1 0 1") ≡ None
unfolding entry_of_groups marks_of valued_of began_of stored_of acked_of published_of heard_of asked_of answered_of taken_of settled_of resulted_of replied_of told_of stopped_of actor_of gate_of settler_of node_at letter_of number_of version_of value_of amount_of part_of item_of moves_of reply_of key_eq
none_gap = refl

none_place : entry_of (codes "g0 told 0 1 0 1") ≡ None
unfolding entry_of_groups marks_of valued_of began_of stored_of acked_of published_of heard_of asked_of answered_of taken_of settled_of resulted_of replied_of told_of stopped_of actor_of gate_of settler_of node_at letter_of number_of version_of value_of amount_of part_of item_of moves_of reply_of key_eq
none_place = simp digits

none_actor : entry_of (codes "e0 told 5 1 0 1") ≡ None
unfolding entry_of_groups marks_of valued_of began_of stored_of acked_of published_of heard_of asked_of answered_of taken_of settled_of resulted_of replied_of told_of stopped_of actor_of gate_of settler_of node_at letter_of number_of version_of value_of amount_of part_of item_of moves_of reply_of key_eq
none_actor = refl

none_blank : entry_of [] ≡ None
unfolding entry_of_groups marks_of valued_of began_of stored_of acked_of published_of heard_of asked_of answered_of taken_of settled_of resulted_of replied_of told_of stopped_of actor_of gate_of settler_of node_at letter_of number_of version_of value_of amount_of part_of item_of moves_of reply_of key_eq
none_blank = refl
