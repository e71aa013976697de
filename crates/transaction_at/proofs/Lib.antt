mod Drafts
mod FiledPlaces
mod SeatHolders
mod Resends
mod Rooms
mod SeatCounts
mod SeatNumbers
mod Waits
