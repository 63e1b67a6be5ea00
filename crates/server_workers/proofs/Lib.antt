pub mod FilingLemmas
pub mod CrewLemmas
pub mod WorkLemmas
pub mod TurnLemmas
pub mod ServedLemmas
pub mod Crossing
pub mod AloneLemmas
