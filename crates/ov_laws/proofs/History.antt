-- Histories of every kind: their earlier parts, what is gathered over them, and their letters.
pub mod Earlier
pub mod Gathered
pub mod Sent
