pub mod Made
pub mod Progress
pub mod Kinds
