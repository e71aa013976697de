pub mod Format
pub mod Pairs
pub mod StandingBodies
pub mod Frames
pub mod Scans
pub mod Loads
pub mod Compactions
