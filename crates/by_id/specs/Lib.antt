pub mod Lists
pub mod Places
pub mod Fates
pub mod Unmoved
pub mod Plans
pub mod Wholes
