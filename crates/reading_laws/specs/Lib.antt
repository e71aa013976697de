pub mod TurnsAreRead
pub mod RequestsAreRead
pub mod StartsAreRead
pub mod ReadingsAsk
pub mod GoneTurns
pub mod GoneRequests
