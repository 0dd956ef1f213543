pub mod Line
pub mod Read
pub mod Journal
pub mod Text
pub mod Fault
pub mod Audit
