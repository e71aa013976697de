pub mod Addresses
pub mod Paths
pub mod Forms
