pub mod JournalRecords
