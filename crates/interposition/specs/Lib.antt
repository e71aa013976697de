pub mod PlanResults
pub mod Due
pub mod Holdings
pub mod Strangers
pub mod Recoveries
pub mod ModelSteps
