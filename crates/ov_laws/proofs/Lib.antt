pub mod History
pub mod Watermarks
pub mod Times
pub mod Windows
pub mod Values
pub mod Sessions
pub mod Sound
