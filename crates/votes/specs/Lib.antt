pub mod DurableVotes
pub mod SeatStates
pub mod NamedParticipants
pub mod ToldOutcomes
pub mod VotesAndOutcomes
