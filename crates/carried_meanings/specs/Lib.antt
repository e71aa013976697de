pub mod CarriedMeanings
