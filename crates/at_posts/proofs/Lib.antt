pub mod Counters
pub mod EqualAnswers
