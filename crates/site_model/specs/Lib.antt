pub mod Attachments
pub mod Calls
pub mod Counts
pub mod Site
pub mod Source
pub mod SureSites
pub mod Told
