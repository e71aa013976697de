-- The reader's own steps, for clauses of private functions; the proofs tie them to the grammar.
pub mod Reading
pub mod Machine
pub mod Whole
pub mod Shallow
pub mod Found
pub mod Open
pub mod Views
pub mod Joining
pub mod Keys
pub mod Places
pub mod Digits
