pub mod Name
pub mod Events
pub mod Standing
pub mod Lemmas
