pub mod Lists
pub mod Streams
pub mod RoundTrips
pub mod ReadsBack
pub mod WorkedFrames
