pub mod Faults
pub mod Silence
pub mod Gateways
pub mod Devices
pub mod Notes
pub mod Opening
pub mod OwnLaw
