pub mod EntryRows
pub mod NamedFates
pub mod OneReading
pub mod PartsOfCalls
