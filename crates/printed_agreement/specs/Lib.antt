pub mod RegisterAnswers
pub mod PlainPosts
pub mod PrintedAgreement
pub mod ReportLines
pub mod Examples
