pub mod Touched
pub mod Numbered
pub mod ItemWords
pub mod ItemLoops
