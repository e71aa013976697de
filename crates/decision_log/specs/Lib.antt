pub mod Tokens
pub mod KeptRecords
pub mod KeptState
pub mod Places
pub mod AppendedRecords
pub mod OutConditions
pub mod Folds
pub mod ShrunkJournals
