pub mod TrimLaws
pub mod Lists
pub mod Lookups
pub mod Colons
pub mod Faults
