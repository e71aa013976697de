pub mod ParameterNames
pub mod Lookups
pub mod Marks
pub mod HeaderRoundtrip
pub mod EndpointRoundtrip
pub mod EndpointParts
pub mod UnderstoodBlocks
pub mod Lengths
pub mod RepeatedHeaders
mod Utf8
