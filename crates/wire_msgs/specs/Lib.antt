pub mod Arrivals
pub mod Bodies
pub mod Examples
pub mod Forms
pub mod Parts
pub mod Refusals
pub mod Targets
pub mod WholeMessages
