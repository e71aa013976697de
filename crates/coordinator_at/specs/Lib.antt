pub mod Holdings
pub mod TransactionPlans
pub mod Recoveries
pub mod Registrations
