pub mod Events
pub mod Fates
pub mod Firsts
pub mod Holdings
pub mod LeftRecords
pub mod Moves
pub mod Runs
pub mod Walks
