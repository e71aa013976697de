pub mod JournalsOfRuns
pub mod Tops
