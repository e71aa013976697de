mod Fieldless
pub mod KnownBytes
pub mod Past
