mod ReadEntries
mod ReadFiles
mod OneStanding
mod OnePage
mod ReadPages
