pub mod Rows
pub mod Sql
pub mod Parts
pub mod Recovering
