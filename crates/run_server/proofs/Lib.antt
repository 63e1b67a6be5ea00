pub mod NumberLemmas
pub mod FrameLemmas
pub mod BookingLemmas
pub mod TurnLemmas
pub mod DoneLemmas
pub mod ClosingLemmas
