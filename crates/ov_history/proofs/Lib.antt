pub mod Past
pub mod Counting
pub mod Stays
pub mod Given
pub mod Giving
pub mod Cores
pub mod Sessions
