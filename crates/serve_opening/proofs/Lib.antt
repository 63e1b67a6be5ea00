pub mod Firsts
pub mod Silences
pub mod Matching
pub mod Accepted
pub mod Faultless
pub mod OwnLaws
pub mod Worked
