pub mod Gatherings
pub mod Hearing
pub mod Indexed
pub use Rattle.radio_airtime.specs.DataRate
