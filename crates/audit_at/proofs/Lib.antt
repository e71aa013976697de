pub mod Ways
pub mod Pushes
pub mod Names
pub mod Agreements
pub mod Decodings
pub mod Adds
