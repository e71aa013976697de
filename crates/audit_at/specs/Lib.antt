pub mod Superiors
pub mod Outcomes
pub mod Verdicts
pub mod Examples
pub mod Audits
