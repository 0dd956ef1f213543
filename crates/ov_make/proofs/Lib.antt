pub mod Tables
pub mod Counting
pub mod Fitting
pub mod Growing
pub mod Whole
pub mod Adding
pub mod Rosters
