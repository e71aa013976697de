pub mod DeliverableNets
pub mod Deliveries
pub mod ByteNets
pub mod Letters
pub mod GrowingServers
