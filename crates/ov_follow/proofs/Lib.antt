pub mod Wholes
pub mod Lawful
pub mod AllKinds
pub mod Replies
pub mod Rounds
pub mod Following
