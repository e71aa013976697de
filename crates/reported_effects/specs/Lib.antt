pub mod EffectLines
pub mod Examples
