pub mod PlanNodes
pub mod TwoMarks
pub mod TwoPasses
