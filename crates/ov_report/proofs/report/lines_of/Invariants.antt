use Rattle.std.proofs.Common.{◌≡◌, map, reverse, take}
use Rattle.ov_script.specs.Sessions.{roster_of}
use Rattle.ov_report.specs.Report.{line_of}
use Rattle.ov_report.specs.Seen.{lines_seen}
use Rattle.ov_report.proofs.report.lines_of.Given as goal

abbrev pub invariant-loop-at : goal.invariant-loop-at
invariant-loop-at l = lines_seen l.lines.items ≡ map (line_of (roster_of l.script.lines) (reverse l.entries)) (take l.at-index l.at-items)
