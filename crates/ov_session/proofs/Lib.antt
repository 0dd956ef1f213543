pub mod Names
pub mod Standings
