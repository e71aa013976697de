pub mod OneMeaning
pub mod NamedTargets
pub mod ReadHeads
pub mod CarriedPosts
pub mod Ticks
