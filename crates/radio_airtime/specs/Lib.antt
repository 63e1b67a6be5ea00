pub mod DataRate
pub mod TimeOnAir
pub mod WholeNumbers
pub mod Bounds
