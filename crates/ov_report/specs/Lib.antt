pub mod Report
pub mod Replies
pub mod Seen
pub mod Summary
