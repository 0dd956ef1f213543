pub mod Promises
pub mod Numbered
pub mod Standing
pub mod Sessions
pub mod Acting
pub mod ActingGates
pub mod ActingSettlers
mod Judging
