mod EnvelopeReports
mod Uniqueness
