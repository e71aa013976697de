pub mod Bases
pub mod Deliverables
