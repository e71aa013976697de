pub mod Fated
pub mod WalksByFates
pub mod Statuses
pub mod CallsComing
