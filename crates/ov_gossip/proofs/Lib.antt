pub mod Vectors
pub mod Leasts
pub mod Greater
