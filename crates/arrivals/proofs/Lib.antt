pub mod ArrivalReturns
pub mod Soundness
pub mod WorldArrivals
pub mod Paths
pub mod Bases
