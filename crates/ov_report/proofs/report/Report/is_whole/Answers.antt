use Rattle.std.proofs.Common.{is_some, ap, ◌∙◌, rules, tests}
use Rattle.std.specs.List.{list_all}
use Rattle.std.proofs.lemmas.Iterator.{YieldsList-from_slice}
use Rattle.std.proofs.lemmas.Iterator.Search.{all_from_yields_List}
use Rattle.ov_report.specs.Report.{is_answered}
use Rattle.ov_report.specs.declared.report.ReportLine.{ReportLine}
use Rattle.ov_report.proofs.Lines.{all_seen}
use Rattle.ov_report.proofs.report.Report.is_whole.Goals as goal

pub returns : goal.returns
returns c =
    all_from_yields_List (λ (line : ReportLine). is_some line.reply) _ _ c.all.result c.all.ensures.ran (YieldsList-from_slice c.self.inside.lines.items cc) (λ x b q k. search (rules, tests))
    ∙ all_seen c.self.inside.lines.items
    ∙ ap (list_all is_answered) c.self.view_is
