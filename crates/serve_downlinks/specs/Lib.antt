pub mod Downlinks
pub mod Fates
pub mod Batch
pub mod Datagram
pub mod BatchLaw
