-- What public clauses speak of: the grammar, the limits and the refusals, in reading order.
pub mod Characters
pub mod Tokens
pub mod Namespaces
pub mod Spells
pub mod Limits
pub mod Refusals
pub mod Samples
pub mod Examples
-- What serves clauses of private functions alone: the reader's own steps. Proofs tie it to the grammar, so no reader needs it.
pub mod Code
