pub mod Places
pub mod Printings
pub mod Sessions
pub mod StartLines
pub mod Since
mod Texts
pub mod AttachedNames
