-- Times and versions.
pub mod Bounds
pub mod Begun
pub mod Once
