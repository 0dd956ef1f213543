pub mod Delivered
pub mod Acts
pub mod Actors
pub mod World
pub mod Holds
pub mod Judging
