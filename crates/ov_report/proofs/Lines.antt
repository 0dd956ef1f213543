-- What is seen of the lines of a report.
use Rattle.std.proofs.Common.{◌≡◌, ℕ, ◌+◌, ◌<◌, List, [], ◌∷◌, ◌++◌, length, get_or, map, take, Option, Some, None, is_some, Bor, refl, sym}
use Rattle.std.specs.List.{flat_map, list_all}
use Rattle.std.specs.Option.{option_map}
use Rattle.std.proofs.lemmas.List.{map-append, map_more}
use Rattle.std.proofs.lemmas.List.Folds.{flat_map-map}
use Rattle.ov_functor.specs.declared.reply.Reply.{Reply}
use Rattle.ov_session.specs.declared.roster.Roster.{Roster}
use Rattle.ov_script.specs.declared.order.CommandAt.{CommandAt}
use Rattle.ov_history.specs.Past.{History}
use Rattle.ov_report.specs.Report.{is_answered, line_of, line_text, lines_text}
use Rattle.ov_report.specs.Seen.{line_seen, lines_seen}
use Rattle.ov_report.specs.declared.report.ReportLine.{ReportLine}

-- the text of a line in the code
abbrev pub seen_text : ReportLine → List ℕ
seen_text line = line_text (line_seen line)

-- the text of lines is that of each in turn
pub seen_texts : (lines : List ReportLine) → lines_text (lines_seen lines) ≡ flat_map seen_text lines
seen_texts lines = flat_map-map line_text line_seen lines

-- every line has a reply where every line that is seen is answered
pub all_seen : (lines : List ReportLine) → list_all (λ line. is_some line.reply) lines ≡ list_all is_answered (lines_seen lines)
all_seen [] = refl
all_seen (line ∷ lines) = rw (sym (reply_seen line.reply), all_seen lines) refl
  where
    reply_seen : (reply : Option (Bor Reply)) → is_some (option_map (λ r. r.now) reply) ≡ is_some reply
    reply_seen None = refl
    reply_seen (Some reply) = refl

-- the lines of commands, with that of one command more
pub one_more : (roster : Roster) (h : History) (order : List CommandAt) (i : ℕ) (d : CommandAt) (lines : List ReportLine) (line : ReportLine) → i < length order
    → lines_seen lines ≡ map (line_of roster h) (take i order) → line_seen line ≡ line_of roster h (get_or order i d)
    → lines_seen (lines ++ line ∷ []) ≡ map (line_of roster h) (take (i + 1) order)
one_more roster h order i d lines line less before is = rw (map-append line_seen lines (line ∷ []), before, is) (sym (map_more (line_of roster h) order i d less))
