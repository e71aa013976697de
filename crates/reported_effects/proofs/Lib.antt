pub mod PrintedTexts
pub mod PrintedLines
