pub mod Books
pub mod Counts
pub mod Passing
pub mod Windows
pub mod Turns
pub mod Standing
pub mod Partitions
