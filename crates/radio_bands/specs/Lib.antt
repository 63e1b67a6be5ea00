pub mod Band
pub use Rattle.radio_airtime.specs.DataRate
pub use Rattle.radio_airtime.specs.TimeOnAir
pub use Rattle.radio_airtime.specs.Bounds
