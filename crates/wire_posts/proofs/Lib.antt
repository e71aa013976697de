pub mod Arrivals
pub mod Bodies
pub mod Bools
pub mod Ends
pub mod MarkedParameters
pub mod Uniqueness
pub mod SpellableParts
pub mod SpellableEnvelopes
