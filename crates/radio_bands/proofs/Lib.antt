pub mod BandLaws
pub mod WorkedBands
