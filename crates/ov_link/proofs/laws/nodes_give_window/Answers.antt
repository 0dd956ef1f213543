use Rattle.ov_link.proofs.Windows.{harvest_is_window, union_is_window}
use Rattle.ov_link.proofs.laws.nodes_give_window.Goals as goal

pub returns-clause-items : goal.returns-clause-items
returns-clause-items c = λ t h told g run nodes asked same marks whole union_is. harvest_is_window t h told g run.0 run.1 nodes asked same marks whole union_is

pub returns-clause-union : goal.returns-clause-union
returns-clause-union c = λ t h told g run nodes asked same marks whole union_is.
    union_is_window h g.round.from g.round.below g.items (harvest_is_window t h told g run.0 run.1 nodes asked same marks whole union_is)
