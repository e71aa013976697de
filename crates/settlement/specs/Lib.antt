pub mod Holdings
pub mod Ways
