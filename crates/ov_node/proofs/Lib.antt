pub mod Holding
pub mod Letters
