pub mod Writes
pub mod SerialOrder
