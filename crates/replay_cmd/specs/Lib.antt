pub mod Deliveries
pub mod Laws
pub mod Lines
pub mod MadeCourses
pub mod ReportOf
pub mod ScheduleLines
