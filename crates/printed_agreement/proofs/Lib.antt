pub mod Texts
mod Answers
mod Places
mod Takings
mod Entries
mod Endings
mod Deliveries
pub mod Soundness
pub mod Chunks
pub mod Reports
