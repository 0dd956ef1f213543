pub mod Calls
pub mod Gathering
pub mod Histories
pub mod Lemmas
pub mod Links
pub mod Nodes
pub mod Progress
