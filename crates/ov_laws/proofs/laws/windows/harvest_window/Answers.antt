use Rattle.ov_laws.proofs.Windows.Harvests.{harvest_is_window, window_stays}
use Rattle.ov_laws.proofs.laws.windows.harvest_window.Goals as goal

pub returns-clause-window : goal.returns-clause-window
returns-clause-window c = λ t h s round run gathered. harvest_is_window t h s round run.0 run.1 gathered.open_is gathered.enough

pub returns-clause-stays : goal.returns-clause-stays
returns-clause-stays c = λ t h s round opened more lawful. window_stays t h more s round lawful opened
