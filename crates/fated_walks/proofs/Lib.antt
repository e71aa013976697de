pub mod ComingCalls
pub mod FatedOuts
pub mod FatedWalks
