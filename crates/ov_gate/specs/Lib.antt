pub mod Tracked
pub mod Tracker
pub mod Gate
pub mod Calls
