mod Places
mod Rising
mod Filed
mod Kept
mod Retained
pub mod Found
