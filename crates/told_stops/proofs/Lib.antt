pub mod AskTells
pub mod CutTells
pub mod StruckTells
