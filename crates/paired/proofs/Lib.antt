pub mod Homes
pub mod OneSeat
pub mod Partners
