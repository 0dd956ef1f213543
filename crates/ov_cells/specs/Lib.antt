pub mod Codes
pub mod Rules
pub mod Seats
pub mod Paths
