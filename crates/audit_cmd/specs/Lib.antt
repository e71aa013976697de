pub mod JournalLines
pub mod JournalReports
pub mod Readings
pub mod Audits
