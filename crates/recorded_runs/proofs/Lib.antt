pub mod LedCoordinators
pub mod RecordedEnds
pub mod VoteOrder
pub mod Runs
