pub mod Examples
pub mod SettledOutcomes
