mod Longest
pub mod Tries
