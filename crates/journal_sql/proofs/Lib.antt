pub mod RowLemmas
pub mod Worked
