pub mod PaddedLists
pub mod Loops
pub mod Marks
pub mod ReplayableSchedules
pub mod MadeRuns
mod ReadLines
mod EventCounts
