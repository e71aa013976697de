pub mod AnsweredTurns
pub mod CallEffects
pub mod Fares
pub mod NodeEvents
