pub mod Reads
pub mod AskedEvents
pub mod ReadsStart
