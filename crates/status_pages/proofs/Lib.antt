pub mod Floats
pub mod Pushes
pub mod Values
