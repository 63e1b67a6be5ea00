pub mod WorkedLaws
