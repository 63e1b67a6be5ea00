pub mod Field
pub mod Aes
pub mod Mac
pub mod Words
pub mod KeyFields
pub mod Progress
