pub mod Lengths
pub mod TableFacts
pub mod WordFacts
pub mod RoundFacts
pub mod ScheduleFacts
pub mod MacFacts
pub mod Pieces
pub mod StandardFacts
