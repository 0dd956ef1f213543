pub mod Runs
pub mod Entries
pub mod Draws
pub mod Holders
pub mod Final
pub mod Harvests
pub mod Values
pub mod Replies
