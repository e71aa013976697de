pub mod Endpoints
pub mod Forms
pub mod Provenance
