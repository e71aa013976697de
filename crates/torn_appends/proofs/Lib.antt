pub mod DiskRuns
pub mod GateWrites
pub mod ShortFiles
pub mod TornAppends
