pub mod Shape
pub mod Seats
pub mod Links
pub mod Leaves
pub mod Registers
pub mod LinkRegistrations
pub mod DurablePrepares
