pub mod Audit
pub mod Held
pub mod Marks
