pub mod ToldStops
