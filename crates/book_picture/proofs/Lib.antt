pub mod Parts
pub mod HourLemmas
pub mod ShowsHour
pub mod Worked
