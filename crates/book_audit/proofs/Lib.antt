pub mod HeldLemmas
pub mod GatewaySums
pub mod AmountLemmas
pub mod LostLemmas
pub mod MarkLemmas
