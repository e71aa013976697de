pub mod JournalTexts
pub mod FilesRead
pub mod LinesRead
pub mod Printed
