pub mod Mails
pub mod Calls
pub mod Closed
pub mod Hosts
pub mod Stands
pub mod Goings
pub mod NoMessages
pub mod ShortLetters
