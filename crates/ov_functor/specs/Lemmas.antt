-- Lemmas that the code cites for the laws of its types. Each is proved, and nothing here has to be believed. They stand in several files
-- since a source file cannot cite what is said of its own types.
pub mod Parts
pub mod Functors
pub mod Items
