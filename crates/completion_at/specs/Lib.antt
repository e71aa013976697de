pub mod Names
pub mod ActivityPlans
