pub mod Addresses
pub mod JournalItems
pub mod JournalOutcomes
pub mod JournalsAgree
pub mod Tops
