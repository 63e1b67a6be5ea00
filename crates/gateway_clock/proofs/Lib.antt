pub mod Sessions
pub mod Ceiling
mod Worked
