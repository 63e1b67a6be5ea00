pub mod Answering
pub mod LiveLaws
pub mod WorkedAsks
