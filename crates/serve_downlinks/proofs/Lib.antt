pub mod Texts
mod Found
pub mod BatchLaw
mod WorkedInputs
mod Worked
