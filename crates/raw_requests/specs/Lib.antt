pub mod Draws
pub mod Connections
