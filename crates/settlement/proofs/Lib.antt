mod Events
mod Rounds
mod SettledWorlds
mod EventCounts
mod EventGrowth
