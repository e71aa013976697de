pub mod ShortEnvelopes
pub mod SmallEnvelopes
