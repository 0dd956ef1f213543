pub mod Facts
pub mod Once
pub mod Order
pub mod Stable
