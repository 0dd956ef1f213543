-- What the replies are that are kept by their commands.
use Rattle.std.specs.Prelude.{◌≡◌, ◌==◌, ◌&&◌, ℕ, Bool}
use Rattle.std.specs.Option.{option_map}
use Rattle.indexmap.specs.IndexMap.{get}
use Rattle.ov_script.specs.declared.order.CommandAt.{CommandAt}
use Rattle.ov_history.specs.Past.{History}
use Rattle.ov_report.specs.Report.{reply_to}
use Rattle.ov_report.specs.declared.replies.Replies.{Replies}

-- whether two commands are one
abbrev pub same_command : CommandAt → CommandAt → Bool
same_command one other = (one.session == other.session) && (one.seq == other.seq)

-- these are the replies of the history
abbrev pub AreReplies : History → Replies → Type 0
AreReplies h replies = (s c : ℕ) → option_map (λ r. r.now) (get same_command replies.known (record { session = s; seq = c })) ≡ reply_to s c h
