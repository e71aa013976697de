pub mod Values
pub mod BuiltElements
pub mod Children
pub mod EnvelopeParts
pub mod Envelopes
pub mod Faults
pub mod Examples
