pub mod Known
pub mod Kept
pub mod Steps
pub mod Seen
pub mod Codes
pub mod Paths
pub mod Values
pub mod Closing
