pub mod AtomicCommit
pub mod Bonds
pub mod Examples
pub mod Foundations
pub mod Statuses
