pub mod MessageIds
pub mod Numbers
pub mod TextSplits
pub mod Inverses
