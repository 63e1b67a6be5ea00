pub mod Numbered
pub mod Rising
pub mod Settled
pub mod HandledLemmas
pub mod TriedLemmas
pub mod ClosingLemmas
pub mod Crossing
