pub mod Head
pub mod Scaled
pub mod Entry
pub mod Seen
pub mod Entries
pub mod TxAck
pub mod PullResp
