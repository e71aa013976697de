pub mod Folders
pub mod Pairs
pub mod Shown
pub mod Bases
pub mod HeldFiles
