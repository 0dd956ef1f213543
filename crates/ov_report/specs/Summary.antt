-- The summary of a story: how many commands its script has, how many replies of each kind were given, and the sum of what its last command got.
use Rattle.std.specs.Prelude.{ℕ, ℤ, pos, ◌+ℤ◌, ◌-◌, Bool, true, false, List, [], ◌∷◌, ◌++◌, codes, length, reverse, slice_get, Option, Some, None}
use Rattle.std.specs.Fmt.{decimal}
use Rattle.ov_base.specs.Amount.{amount_text}
use Rattle.ov_base.specs.Value.{or_zero}
use Rattle.ov_base.specs.Word.{◌>>=◌}
use Rattle.ov_functor.specs.declared.item.Shown.{Shown}
use Rattle.ov_functor.specs.declared.reply.Reply.{Reply}
use Rattle.ov_functor.specs.declared.reply.Reply.TheVariants.{Done, Aborted, Snap}
use Rattle.ov_script.specs.Script.{Content}
use Rattle.ov_script.specs.Sessions.{order_of}
use Rattle.ov_script.specs.declared.order.CommandAt.{CommandAt}
use Rattle.ov_event.specs.declared.entry.Entry.{Entry}
use Rattle.ov_event.specs.declared.kind.Kind.{Kind}
use Rattle.ov_event.specs.declared.kind.Kind.TheVariants.{Replied}
use Rattle.ov_history.specs.Past.{History, tally}
use Rattle.ov_report.specs.Report.{reply_to}
use Rattle.ov_report.specs.declared.summary.Summary.{Summary}

-- ---- replies of a kind

-- whether a transaction was done
abbrev pub is_done : Reply → Bool
is_done (Done version gets) = true
is_done other = false

-- whether a transaction was aborted
abbrev pub is_aborted : Reply → Bool
is_aborted (Aborted version gets) = true
is_aborted other = false

-- whether it is a snapshot
abbrev pub is_snapshot : Reply → Bool
is_snapshot (Snap watermark shown) = true
is_snapshot other = false

-- whether an entry of this kind gives a reply that passes
abbrev pub gives_reply : (Reply → Bool) → Kind → Bool
gives_reply test (Replied place session seq reply) = test reply
gives_reply test other = false

-- how many of the entries give a reply that passes
abbrev pub replies_given : (Reply → Bool) → List Entry → ℕ
replies_given test entries = tally (λ e. gives_reply test e.kind) entries

-- ---- the sum

-- the sum of the shown values, absent as 0
abbrev pub sum_of : List Shown → ℤ
sum_of [] = pos 0
sum_of (shown ∷ list) = or_zero shown.value +ℤ sum_of list

-- the gets of a reply; a snapshot has none
abbrev pub gets_of : Reply → List Shown
gets_of (Done version gets) = gets
gets_of (Aborted version gets) = gets
gets_of (Snap watermark shown) = []

-- the sum of the gets of a reply, and 0 where there is none
abbrev pub sum_in : Option Reply → ℤ
sum_in None = pos 0
sum_in (Some reply) = sum_of (gets_of reply)

-- the last of the commands, where there is one
abbrev pub last_command : List CommandAt → Option CommandAt
last_command order = slice_get order (length order - 1)

-- the reply to the last of the commands, where there is one and it has a reply
abbrev pub last_reply : List CommandAt → History → Option Reply
last_reply order h = last_command order >>= λ at. reply_to at.session at.seq h

-- ---- summaries

-- the summary of a script with these entries, the oldest first
abbrev pub script_summary : Content → List Entry → Summary
script_summary script entries = record {
  commands = length (order_of script.lines);
  done = replies_given is_done entries;
  aborted = replies_given is_aborted entries;
  snapshots = replies_given is_snapshot entries;
  sum = sum_in (last_reply (order_of script.lines) (reverse entries));
}

-- the summary of a story, whose entries are the oldest first; without a script it is zeros
abbrev pub summary_of : Option Content → List Entry → Summary
summary_of None entries = record { commands = 0; done = 0; aborted = 0; snapshots = 0; sum = pos 0 }
summary_of (Some script) entries = script_summary script entries

-- ---- text

-- a word, a space, the spelling of a number, and a line feed
abbrev pub number_line : List ℕ → List ℕ → List ℕ
number_line word number = word ++ 32 ∷ number ++ 10 ∷ []

-- the five lines of a summary
abbrev pub summary_text : Summary → List ℕ
summary_text s =
    number_line (codes "commands") (decimal s.commands)
    ++ number_line (codes "done") (decimal s.done)
    ++ number_line (codes "aborted") (decimal s.aborted)
    ++ number_line (codes "snapshots") (decimal s.snapshots)
    ++ number_line (codes "sum") (amount_text s.sum)
