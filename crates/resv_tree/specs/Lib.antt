pub mod Entries
pub mod OwnHours
pub mod Sums
pub mod Shape
pub mod Parts
pub mod Filling
