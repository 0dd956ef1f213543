use Rattle.ov_history.specs.Settlers.{harvest}
use Rattle.ov_laws.proofs.Windows.Harvests.{harvest_sorted, harvest_is_window}
use Rattle.ov_functor.proofs.Unions.{place_once, sorted_same}
use Rattle.ov_laws.proofs.laws.windows.harvest_list.Goals as goal

pub returns-clause-sorted : goal.returns-clause-sorted
returns-clause-sorted c = harvest_sorted

pub returns-clause-once : goal.returns-clause-once
returns-clause-once c = λ s n h i j x y. place_once (harvest s n h) i j x y (harvest_sorted s n h)

pub returns-clause-window : goal.returns-clause-window
returns-clause-window c = λ t h s round run gathered. harvest_is_window t h s round run.0 run.1 gathered.open_is gathered.enough

pub returns-clause-only : goal.returns-clause-only
returns-clause-only c = λ t h s round run gathered items sorted has.
    let window = harvest_is_window t h s round run.0 run.1 gathered.open_is gathered.enough in
    sorted_same items (harvest s round.number h) sorted (harvest_sorted s round.number h)
    (λ item among. (window item).1 ((has item).0 among)) (λ item among. (has item).1 ((window item).0 among))
