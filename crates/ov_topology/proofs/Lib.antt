pub mod Tables
pub mod Ranges
pub mod Actors
pub mod Places
pub mod Modes
pub mod Numbers
