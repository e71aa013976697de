pub mod BookArrivals
pub mod Worlds
