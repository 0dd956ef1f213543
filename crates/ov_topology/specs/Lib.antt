pub mod Shape
pub mod Actor
pub mod Numbers
pub mod Place
pub mod Mode
pub mod Fault
pub mod Read
