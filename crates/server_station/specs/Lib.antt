pub mod Stations
pub mod Tries
pub mod Handling
pub mod Closings
