pub mod Answered
pub mod Directed
pub mod ItemMessages
pub mod Steps
pub mod TransactionMessages
pub mod TransactionMoves
