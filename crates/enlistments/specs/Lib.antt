pub mod Registrations
pub mod KnownCoordinators
pub mod Leads
pub mod Moves
pub mod Senses
pub mod NoticeOrigins
