-- What contracts see of a report in the code.
use Rattle.std.specs.Prelude.{List, map}
use Rattle.std.specs.Option.{option_map}
use Rattle.ov_report.specs.Report.{Line}
use Rattle.ov_report.specs.declared.report.ReportLine.{ReportLine}

-- the line that is seen
abbrev pub line_seen : ReportLine → Line
line_seen line = record { session = line.session.now; seq = line.seq; reply = option_map (λ r. r.now) line.reply }

-- the lines that are seen
abbrev pub lines_seen : List ReportLine → List Line
lines_seen lines = map line_seen lines
