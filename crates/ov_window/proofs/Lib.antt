pub mod Marks
pub mod Gathering
pub mod Repeats
pub mod Drafting
pub mod Evaluating
pub mod PlanValues
