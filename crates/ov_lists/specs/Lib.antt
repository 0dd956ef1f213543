pub mod Entries
pub mod Places
pub mod Parts
pub mod Thin
