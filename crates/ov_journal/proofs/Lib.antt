mod Reading
mod LineLists
mod LineTakes
mod LineAgain
mod Pieces
pub mod LineCuts
pub mod Journals
mod LinesBehind
mod Writing
mod Examples
pub mod Lawful
pub mod Judging
