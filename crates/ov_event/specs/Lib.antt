pub mod Makers
pub mod Letters
pub mod ItemWords
pub mod Lemmas
