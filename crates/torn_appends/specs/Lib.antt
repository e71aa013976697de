pub mod TornAppends
