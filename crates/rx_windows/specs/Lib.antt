pub mod Window
pub mod Rank
pub mod Windows
pub mod Laws
pub use Rattle.radio_airtime.specs.DataRate
