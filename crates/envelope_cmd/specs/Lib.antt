pub mod Cells
pub mod Checks
pub mod Lines
pub mod Names
pub mod Output
pub mod Refusals
pub mod RequestMeanings
