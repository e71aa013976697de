pub mod Words
pub mod Json
pub mod Overview
pub mod Views
