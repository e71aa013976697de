pub mod Answers
pub mod LeafPlans
