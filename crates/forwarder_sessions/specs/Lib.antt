pub mod Sessions
pub mod Received
