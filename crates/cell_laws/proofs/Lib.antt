mod Fitting
mod Leaves
mod Activities
mod Advances
mod Seats
mod Completions
mod Links
