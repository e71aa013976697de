pub mod Recoveries
pub mod RisingIds
pub mod ModelSteps
pub mod DueItems
pub mod DueWalks
pub mod Losses
pub mod Holdings
mod UnknownItems
