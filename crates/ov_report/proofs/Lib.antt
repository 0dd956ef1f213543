pub mod Counts
pub mod Kept
pub mod Lines
pub mod Puts
pub mod Shown
pub mod Sums
