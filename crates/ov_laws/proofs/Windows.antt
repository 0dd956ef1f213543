-- Windows: what nodes hold, what rounds gather, and that it is the window, as a list.
pub mod Added
pub mod Writers
pub mod Holdings
pub mod Rounds
pub mod Meets
pub mod Harvests
pub mod Items
