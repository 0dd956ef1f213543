-- Values and replies.
pub mod Begins
pub mod Settled
pub mod Shown
