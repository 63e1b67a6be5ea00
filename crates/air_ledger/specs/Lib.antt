pub mod Tills
