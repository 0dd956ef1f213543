pub mod Settler
pub mod Calls
