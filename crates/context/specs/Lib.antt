pub mod Examples
pub mod Order
pub mod Parameters
pub mod Bodies
pub mod BodyTrees
