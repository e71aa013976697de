pub mod Bytes
pub mod Versions
pub mod RecordReaders
