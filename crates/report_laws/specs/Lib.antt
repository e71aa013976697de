pub mod AlikeNets
pub mod Laws
