pub mod Prefixes
pub mod Tellings
pub mod Keeps
pub mod Starts
pub mod Closings
