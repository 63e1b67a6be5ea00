pub mod Agreement
pub mod KnownNames
pub mod Verdict
