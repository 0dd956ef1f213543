pub mod Drafts
pub mod Evaluation
pub mod Harvest
pub mod Plan
