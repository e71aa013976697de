pub mod Envelopes
pub mod Faults
pub mod Returns
pub mod Examples
