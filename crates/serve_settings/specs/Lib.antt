pub mod ServeFaultName
pub mod ForwarderKeys
pub mod ServeSettings
