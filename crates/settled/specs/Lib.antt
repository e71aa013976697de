pub mod OwedMessages
pub mod CalmSteps
pub mod DurablePrepares
pub mod EndedRegistrations
pub mod SettlingInvariants
pub mod OwedLaws
