mod SpacePlaces
mod Extensions
mod FoldLaws
mod Ends
mod AdjacentTexts
pub mod Declarations
pub mod DistinctPrefixes
mod Utf8
mod Contents
