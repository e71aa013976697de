mod NumbersAndTexts
mod ReadSeats
mod RecordRoundtrip
mod SpelledParts
mod SpelledRecords
mod Uniqueness
mod WrittenSeats
mod Sizes
