pub mod TextBytes
pub mod Chars
pub mod IdText
pub mod MessageId
pub mod Names
pub mod Numbers
pub mod WellFormed
